use Rattle.std.proofs.Common.{◌≡◌, length, ◌+◌, ◌-◌}
use Rattle.flow_types.specs.Tree.{superclasses}
use Rattle.flow_types.specs.TypeRank.{steps_up, depth}
use Rattle.flow_types.proofs.superclass.depth.Given as goal

abbrev pub invariant-loop-i : goal.invariant-loop-i
invariant-loop-i l = l.i + steps_up (length (superclasses l.image) - l.i) (superclasses l.image) l.at ≡ depth (superclasses l.image) l.class
