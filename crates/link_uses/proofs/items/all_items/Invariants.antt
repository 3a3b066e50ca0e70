use Rattle.std.proofs.Common.{◌≡◌, ℕ, ◌<◌, List, Option, length, slice_index_or}
use Rattle.class_format.specs.declared.class.ClassFile.{ClassFile}
use Rattle.link_uses.specs.declared.lookup.Found.{Found}
use Rattle.link_uses.specs.Items.{AreItems}
use Rattle.link_uses.proofs.items.all_items.Given as goal

abbrev pub invariant-loop-file : goal.invariant-loop-file
invariant-loop-file l = record {
  same : length l.items ≡ l.file-index;
  each : (i : ℕ) (f : ClassFile) (found : List (Option Found)) → i < l.file-index → AreItems l.resolver (slice_index_or l.files i f).pool (slice_index_or l.items i found);
}
