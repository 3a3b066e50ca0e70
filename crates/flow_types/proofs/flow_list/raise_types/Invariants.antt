use Rattle.std.proofs.Common.{◌≡◌}
use Rattle.flow_types.specs.Tree.{superclasses}
use Rattle.flow_types.proofs.Lists.{raised}
use Rattle.flow_types.proofs.flow_list.raise_types.Given as goal

abbrev pub invariant-loop-i : goal.invariant-loop-i
invariant-loop-i l = l.list ≡ raised (superclasses l.image) l.i l.initial.list l.low
