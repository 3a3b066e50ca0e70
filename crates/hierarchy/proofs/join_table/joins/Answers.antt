use Rattle.std.proofs.Common.{◌≡◌, ◌∙◌, ◌<◌, ◌+◌, [], ℕ, List, length, subst, sym, ap, ◌∷◌, length-append}
use Rattle.std.specs.List.{flat_map}
use Rattle.std.proofs.lemmas.List.{get_or_read}
use Rattle.hierarchy.specs.Hierarchy.{row_of}
use Rattle.hierarchy.specs.Walks.{firsts}
use Rattle.hierarchy.proofs.Items.{each_more}
use Rattle.hierarchy.proofs.join_table.joins.Goals as goal

pub loop-list-preserved : goal.loop-list-preserved
loop-list-preserved c =
    let i = c.loop-list.list-index in
    let lists = c.args.lists.now in
    let P : ℕ → List ℕ → _ = λ k row. row ≡ firsts (flat_map (row_of c.args.table.now) (row_of lists k)) in
    let list : c.as_slice.result.now ≡ row_of lists i = c.as_slice.ensures ∙ get_or_read lists i c.list-item.result c.loop-list-test.true c.list-item.is [] in
    let one : P i c.in_ok-join.field-0 = c.in_ok-join.ensures ∙ ap (λ z. firsts (flat_map (row_of c.args.table.now) z)) list in
    let pushed = c.in_ok-push.ensures.ok in
    record {
      same = ap length pushed ∙ length-append c.loop-list.joined (c.in_ok-join.field-0 ∷ []) ∙ ap (λ n. n + 1) c.loop-list.invariant.same;
      each = subst (λ z. (k : ℕ) → k < i + 1 → P k (row_of z k)) (sym pushed) (each_more P c.loop-list.joined c.in_ok-join.field-0 i c.loop-list.invariant.same c.loop-list.invariant.each one);
    }
