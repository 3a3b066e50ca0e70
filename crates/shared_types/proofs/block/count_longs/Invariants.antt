use Rattle.std.proofs.Common.{◌≡◌, take}
use Rattle.shared_types.specs.Trees.{longs}
use Rattle.shared_types.proofs.block.count_longs.Given as goal

abbrev pub invariant-loop-i : goal.invariant-loop-i
invariant-loop-i l = l.count ≡ longs (take l.i l.types)
