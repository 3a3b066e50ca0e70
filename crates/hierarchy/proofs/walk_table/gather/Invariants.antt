use Rattle.hierarchy.proofs.Filling.{Gathering}
use Rattle.hierarchy.proofs.walk_table.gather.Given as goal

abbrev pub invariant-loop-k : goal.invariant-loop-k
invariant-loop-k l = Gathering l.rows l.c l.k-items l.seen l.all l.k-index
