use Rattle.std.proofs.Common.{◌-◌, length}
use Rattle.code_table.proofs.Walk.{Holds}
use Rattle.code_table.proofs.sequence.instructions_of.Given as goal

abbrev pub invariant-loop-at : goal.invariant-loop-at
invariant-loop-at l = Holds l.code l.descs l.ops l.at

abbrev pub decreases-loop-at : goal.decreases-loop-at
decreases-loop-at l = length l.code - l.at
