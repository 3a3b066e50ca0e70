use Rattle.std.proofs.Common.{take}
use Rattle.shared_types.proofs.Laws.{LacksAt}
use Rattle.shared_types.proofs.block.has.Given as goal

abbrev pub invariant-loop-i : goal.invariant-loop-i
invariant-loop-i l = LacksAt l.t l.types (take l.i l.used)
