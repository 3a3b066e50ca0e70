use Rattle.program_reads.proofs.MarkLaws.{AreMarksFor}
use Rattle.program_reads.proofs.constants.marks.Given as goal

abbrev pub invariant-loop-field : goal.invariant-loop-field
invariant-loop-field l = AreMarksFor l.fields l.field-index l.marks
