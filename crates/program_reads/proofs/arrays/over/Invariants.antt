use Rattle.std.proofs.Common.{◌-◌}
use Rattle.program_reads.proofs.OverLaws.{AreOverFrom}
use Rattle.program_reads.proofs.arrays.over.Given as goal

abbrev pub invariant-loop-i : goal.invariant-loop-i
invariant-loop-i l = AreOverFrom l.image.classes (l.count - l.i) l.over
