use Rattle.std.proofs.Common.{◌≡◌, drop}
use Rattle.flow_types.specs.Tree.{superclasses}
use Rattle.flow_types.specs.TypeLists.{stacks_joined}
use Rattle.flow_types.proofs.Lists.{put_all}
use Rattle.flow_types.proofs.flow_list.merge_stacks.Given as goal

abbrev pub invariant-loop-i : goal.invariant-loop-i
invariant-loop-i l = put_all l.out (stacks_joined (superclasses l.image) (drop l.i l.a) (drop l.i l.b)) ≡ stacks_joined (superclasses l.image) l.a l.b
