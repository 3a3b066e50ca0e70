use Rattle.std.proofs.Common.{◌≡◌, ℕ, drop}
use Rattle.std.specs.Prelude.{◌==◌, ◌&&◌, not}
use Rattle.std.specs.List.{list_any}
use Rattle.link_uses.proofs.lookup.is_other.Given as goal

abbrev pub invariant-loop-k : goal.invariant-loop-k
invariant-loop-k l =
    list_any (λ (k : ℕ). not (k == l.number) && (k == l.above)) l.walk ≡ list_any (λ (k : ℕ). not (k == l.number) && (k == l.above)) (drop l.k-index l.walk)
