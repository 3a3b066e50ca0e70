use Rattle.class_format.proofs.KeyLaws.{Differ}
use Rattle.class_format.proofs.members.neighbours_differ.Given as goal

abbrev pub invariant-loop-later : goal.invariant-loop-later
invariant-loop-later l = Differ l.keys l.later
