use Rattle.std.proofs.Common.{◌<◌, ◌+◌, [], ◌∷◌, ℕ, List, Option, length, length-append, slice_index_or, subst, sym, ap, ◌∙◌}
use Rattle.class_format.specs.declared.class.ClassFile.{ClassFile}
use Rattle.link_uses.specs.declared.lookup.Found.{Found}
use Rattle.link_uses.specs.Items.{AreItems}
use Rattle.link_uses.proofs.ItemLaws.{items_more}
use Rattle.link_uses.proofs.items.all_items.Goals as goal

pub loop-file-preserved : goal.loop-file-preserved
loop-file-preserved c =
    let all = c.args.resolver.now in
    let files = c.args.files.now in
    let i = c.loop-file.file-index in
    let tables = c.loop-file.items in
    let row = c.in_ok-file_items.field-0 in
    let pushed = c.in_ok-push.ensures.ok in
    record {
      same = ap length pushed ∙ length-append tables (row ∷ []) ∙ ap (λ n. n + 1) c.loop-file.invariant.same;
      each = subst (λ z. (k : ℕ) (f : ClassFile) (found : List (Option Found)) → k < i + 1 → AreItems all (slice_index_or files k f).pool (slice_index_or z k found)) (sym pushed) (items_more all files tables row i c.file-item.result c.loop-file.invariant.same c.loop-file-test.true c.file-item.is c.in_ok-file_items.ensures c.loop-file.invariant.each);
    }
