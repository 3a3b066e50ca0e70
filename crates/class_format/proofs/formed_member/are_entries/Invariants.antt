use Rattle.std.proofs.Common.{ℕ, ◌<◌, get_or}
use Rattle.jvm_base.specs.declared.code_item.TableItem.{TableItem}
use Rattle.class_format.specs.Meaning.{FitsEntry}
use Rattle.class_format.proofs.formed_member.are_entries.Given as goal

abbrev pub invariant-loop-item : goal.invariant-loop-item
invariant-loop-item l = (k : ℕ) (d : TableItem) → k < l.item-index → FitsEntry l.texts (get_or l.table k d)
