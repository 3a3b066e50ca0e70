use Rattle.hierarchy.proofs.Marking.{Clearing}
use Rattle.hierarchy.proofs.walk_table.clear.Given as goal

abbrev pub invariant-loop-x : goal.invariant-loop-x
invariant-loop-x l = Clearing l.seen l.all l.x-index
