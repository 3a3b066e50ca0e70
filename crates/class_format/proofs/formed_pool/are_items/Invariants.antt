use Rattle.std.specs.Prelude.{◌↔◌, drop, false}
use Rattle.class_format.specs.Meaning.{AreItems}
use Rattle.class_format.proofs.formed_pool.are_items.Given as goal

abbrev pub invariant-loop-item : goal.invariant-loop-item
invariant-loop-item l = AreItems false l.items ↔ AreItems l.after_wide (drop l.item-index l.items)
