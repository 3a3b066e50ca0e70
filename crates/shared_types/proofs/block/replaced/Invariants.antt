use Rattle.std.proofs.Common.{take}
use Rattle.shared_types.specs.Trees.{AreReplaced}
use Rattle.shared_types.proofs.block.replaced.Given as goal

abbrev pub invariant-loop-i : goal.invariant-loop-i
invariant-loop-i l = AreReplaced l.was l.now (take l.i l.types) l.out
