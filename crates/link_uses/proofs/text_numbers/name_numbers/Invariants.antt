use Rattle.std.proofs.Common.{◌≡◌, length}
use Rattle.link_members.specs.Signs.{name_number}
use Rattle.link_uses.specs.TextNumbers.{AreOf}
use Rattle.link_uses.proofs.text_numbers.name_numbers.Given as goal

abbrev pub invariant-loop-index : goal.invariant-loop-index
invariant-loop-index l = (length l.told ≡ l.index) × AreOf (name_number l.names) l.pool l.told
