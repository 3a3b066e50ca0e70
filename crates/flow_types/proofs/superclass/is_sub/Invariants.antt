use Rattle.std.proofs.Common.{◌≡◌, length, ◌-◌}
use Rattle.flow_types.specs.Tree.{superclasses, above, is_below}
use Rattle.flow_types.proofs.superclass.is_sub.Given as goal

abbrev pub invariant-loop : goal.invariant-loop
invariant-loop l = above (length (superclasses l.image) - l.counter) (superclasses l.image) l.at l.high ≡ is_below (superclasses l.image) l.low l.high
