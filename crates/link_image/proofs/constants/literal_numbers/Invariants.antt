use Rattle.std.proofs.Common.{◌≡◌, length}
use Rattle.link_arrays.specs.Literals.{literal_number}
use Rattle.link_uses.specs.TextNumbers.{AreOf}
use Rattle.link_image.proofs.constants.literal_numbers.Given as goal

abbrev pub invariant-loop-index : goal.invariant-loop-index
invariant-loop-index l = (length l.told ≡ l.index) × AreOf (literal_number l.literals) l.pool l.told
