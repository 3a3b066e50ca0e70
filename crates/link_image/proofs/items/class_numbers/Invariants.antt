use Rattle.std.proofs.Common.{◌≡◌, length}
use Rattle.link_arrays.specs.ArrayClasses.{class_number}
use Rattle.link_uses.specs.TextNumbers.{AreOf}
use Rattle.link_image.proofs.items.class_numbers.Given as goal

abbrev pub invariant-loop-index : goal.invariant-loop-index
invariant-loop-index l = (length l.told ≡ l.index) × AreOf (class_number l.lookup.resolver.now l.lookup.arrays.now) l.pool l.told
