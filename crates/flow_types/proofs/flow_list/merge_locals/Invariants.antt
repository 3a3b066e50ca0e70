use Rattle.std.proofs.Common.{◌≡◌, ◌++◌, drop}
use Rattle.flow_types.specs.Tree.{superclasses}
use Rattle.flow_types.specs.TypeLists.{types_joined}
use Rattle.flow_types.proofs.flow_list.merge_locals.Given as goal

abbrev pub invariant-loop-i : goal.invariant-loop-i
invariant-loop-i l = l.out ++ types_joined (superclasses l.image) (drop l.i l.a) (drop l.i l.b) ≡ types_joined (superclasses l.image) l.a l.b
