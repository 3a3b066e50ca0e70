use Rattle.std.proofs.Common.{◌≡◌}
use Rattle.link_uses.specs.Owned.{Key, place_at}
use Rattle.link_uses.proofs.OwnedBuilt.{declared_below}
use Rattle.link_uses.proofs.owned.places.Given as goal

abbrev pub invariant-loop-class : goal.invariant-loop-class
invariant-loop-class l = (key : Key) → place_at l.places.entries key ≡ declared_below l.program l.names l.kind l.class key
