use Rattle.hierarchy.proofs.Joining.{Joining}
use Rattle.hierarchy.proofs.join_table.add_rows.Given as goal

abbrev pub invariant-loop-k : goal.invariant-loop-k
invariant-loop-k l = Joining l.table l.list l.seen l.all l.k-index
