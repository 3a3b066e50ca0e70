use Rattle.std.proofs.Common.{◌≡◌, take}
use Rattle.flow_types.specs.Tree.{superclasses}
use Rattle.flow_types.specs.TypeLists.{types_joined}
use Rattle.shared_types.proofs.block.joined.Given as goal

abbrev pub invariant-loop-i : goal.invariant-loop-i
invariant-loop-i l = l.out ≡ types_joined (superclasses l.image) (take l.i l.high) (take l.i l.low)
