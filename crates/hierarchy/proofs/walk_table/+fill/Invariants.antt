use Rattle.std.proofs.Common.{slice_index}
use Rattle.hierarchy.specs.Steps.Filled.{AreUnseen}
use Rattle.hierarchy.proofs.Filling.{Filling}
use Rattle.hierarchy.proofs.walk_table.+fill.Given as goal

abbrev pub decreases-fill : goal.decreases-fill
decreases-fill l = slice_index l.ranks.now l.c

abbrev pub invariant-loop-k : goal.invariant-loop-k
invariant-loop-k l = Filling l.rows l.k-items l.initial.table l.table l.k-index × AreUnseen l.seen
