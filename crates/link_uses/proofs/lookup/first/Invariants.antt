use Rattle.std.proofs.Common.{◌≡◌, drop}
use Rattle.hierarchy.specs.Walks.{first_some}
use Rattle.link_uses.specs.Owned.{found_at}
use Rattle.link_uses.proofs.lookup.first.Given as goal

abbrev pub invariant-loop-number : goal.invariant-loop-number
invariant-loop-number l =
    first_some (found_at l.places.entries l.sign) l.walk ≡ first_some (found_at l.places.entries l.sign) (drop l.number-index l.walk)
