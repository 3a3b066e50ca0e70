use Rattle.std.proofs.Common.{◌≡◌, length}
use Rattle.link_uses.specs.Items.{AreItems}
use Rattle.link_uses.proofs.items.file_items.Given as goal

abbrev pub invariant-loop-index : goal.invariant-loop-index
invariant-loop-index l = (length l.found ≡ l.index) × AreItems l.resolver l.file.pool l.found
