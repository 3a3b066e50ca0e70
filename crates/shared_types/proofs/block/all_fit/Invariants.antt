use Rattle.std.proofs.Common.{◌≡◌, drop}
use Rattle.flow_types.specs.Tree.{superclasses}
use Rattle.flow_types.specs.TypeLists.{types_fit}
use Rattle.shared_types.proofs.Laws.{places_fit}
use Rattle.shared_types.proofs.block.all_fit.Given as goal

abbrev pub invariant-loop-i : goal.invariant-loop-i
invariant-loop-i l = places_fit (superclasses l.image) l.low l.high (drop l.i l.used) ≡ types_fit (superclasses l.image) l.low l.high
