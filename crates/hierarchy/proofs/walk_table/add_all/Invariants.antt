use Rattle.hierarchy.proofs.Marking.{Adding}
use Rattle.hierarchy.proofs.walk_table.add_all.Given as goal

abbrev pub invariant-loop-x : goal.invariant-loop-x
invariant-loop-x l = Adding l.seen l.initial.all l.all l.more l.x-index
