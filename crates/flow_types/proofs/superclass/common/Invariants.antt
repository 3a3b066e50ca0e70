use Rattle.std.proofs.Common.{◌≡◌, length, ◌+◌}
use Rattle.flow_types.specs.Tree.{superclasses, first_common}
use Rattle.flow_types.specs.TypeRank.{depth}
use Rattle.flow_types.proofs.superclass.common.Given as goal

abbrev pub invariant-loop-low : goal.invariant-loop-low
invariant-loop-low l = record {
  same : first_common (length (superclasses l.image)) (superclasses l.image) l.low l.other ≡ first_common (length (superclasses l.image)) (superclasses l.image) l.a l.b;
  low : l.low_depth ≡ depth (superclasses l.image) l.low;
  other : l.other_depth ≡ depth (superclasses l.image) l.other;
}

abbrev pub decreases-loop-low : goal.decreases-loop-low
decreases-loop-low l = l.low_depth + l.other_depth
