use Rattle.std.proofs.Common.{◌+◌, length}
use Rattle.hierarchy.specs.Steps.Marks.{unseen}
use Rattle.hierarchy.specs.Steps.Search.{Reached}
use Rattle.hierarchy.proofs.upwards.search.Given as goal

abbrev pub invariant-loop-k : goal.invariant-loop-k
invariant-loop-k l = Reached l.rows l.c l.seen l.todo

abbrev pub decreases-loop-k : goal.decreases-loop-k
decreases-loop-k l = unseen l.seen + length l.todo
