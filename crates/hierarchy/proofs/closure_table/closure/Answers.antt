use Rattle.std.proofs.Common.{◌≡◌, ◌∙◌, ◌<◌, ◌+◌, [], ℕ, length, subst, sym, ap, ◌∷◌, length-append}
use Rattle.std.proofs.lemmas.List.{get_or_read}
use Rattle.hierarchy.specs.Hierarchy.{row_of}
use Rattle.hierarchy.specs.Walks.{firsts, all_from}
use Rattle.hierarchy.specs.Closure.{IsUpwards}
use Rattle.hierarchy.proofs.Items.{each_more}
use Rattle.hierarchy.proofs.ClosureLaws.{upwards_row}
use Rattle.hierarchy.proofs.closure_table.closure.Goals as goal

pub loop-walk-preserved : goal.loop-walk-preserved
loop-walk-preserved c =
    let rows = c.args.rows.now in
    let i = c.loop-walk.walk-index in
    let items = c.as_slice-walk-items.result.now in
    let within = c.loop-walk-test.true in
    let same = c.in_ok-walked.ensures.same in
    let inside : i < length rows = subst (λ z. i < z) (ap length c.as_slice-walk-items.ensures ∙ same) within in
    let row : c.as_slice.result.now ≡ firsts (all_from rows i) = c.as_slice.ensures ∙ get_or_read items i c.walk-item.result within c.walk-item.is [] ∙ subst (λ z. row_of z i ≡ firsts (all_from rows i)) (sym c.as_slice-walk-items.ensures) (c.in_ok-walked.ensures.each i inside) in
    let one : IsUpwards rows i c.in_ok-sorted.field-0 = upwards_row rows c.args.ranks.now i c.as_slice.result.now c.in_ok-sorted.field-0 c.requires.ranked row c.in_ok-sorted.ensures.permutation c.in_ok-sorted.ensures.sorted in
    let pushed = c.in_ok-push.ensures.ok in
    record {
      same = ap length pushed ∙ length-append c.loop-walk.table (c.in_ok-sorted.field-0 ∷ []) ∙ ap (λ n. n + 1) c.loop-walk.invariant.same;
      each = subst (λ z. (k : ℕ) → k < i + 1 → IsUpwards rows k (row_of z k)) (sym pushed) (each_more (IsUpwards rows) c.loop-walk.table c.in_ok-sorted.field-0 i c.loop-walk.invariant.same c.loop-walk.invariant.each one);
    }
