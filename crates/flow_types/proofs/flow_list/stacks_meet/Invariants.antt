use Rattle.std.proofs.Common.{◌≡◌, drop}
use Rattle.flow_types.specs.Tree.{superclasses}
use Rattle.flow_types.specs.TypeLists.{stacks_meet}
use Rattle.flow_types.proofs.flow_list.stacks_meet.Given as goal

abbrev pub invariant-loop-i : goal.invariant-loop-i
invariant-loop-i l = stacks_meet (superclasses l.image) (drop l.i l.a) (drop l.i l.b) ≡ stacks_meet (superclasses l.image) l.a l.b
