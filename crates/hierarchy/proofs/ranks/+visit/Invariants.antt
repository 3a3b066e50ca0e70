use Rattle.hierarchy.specs.Steps.Marks.{unseen}
use Rattle.hierarchy.proofs.Visiting.{Walking}
use Rattle.hierarchy.proofs.ranks.+visit.Given as goal

abbrev pub decreases-visit : goal.decreases-visit
decreases-visit l = unseen l.marks.now

abbrev pub invariant-loop-k : goal.invariant-loop-k
invariant-loop-k l = Walking l.rows l.k-items l.initial.marks l.marks l.c l.initial.next l.next l.k-index
