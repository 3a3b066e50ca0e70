-- One more target, and one more pair, of a switch.
use Rattle.std.proofs.Common.{◌≡◌, ℕ, ◌+◌, ◌*◌, List, [], ◌∷◌, ◌++◌, refl, arith}
use Rattle.std.specs.Int.{w32}
use Rattle.std.proofs.lemmas.List.FromFn.{map-range_with_len_more}
use Rattle.code_table.specs.Numbers.{signed_at, target}
use Rattle.code_table.specs.Switches.{targets_from, pairs_from}

-- no targets
pub targets_from_none : (code : List ℕ) (at place : ℕ) → targets_from code at place 0 ≡ []
unfolding targets_from
targets_from_none code at place = refl

-- one target more
pub targets_from_more : (code : List ℕ) (at place n : ℕ) → targets_from code at place (n + 1) ≡ targets_from code at place n ++ target at (signed_at w32 code (place + 4 * n)) ∷ []
unfolding targets_from
targets_from_more code at place n = map-range_with_len_more (λ k. target at (signed_at w32 code (place + 4 * k))) 0 n n (omega arith)

-- no pairs
pub pairs_from_none : (code : List ℕ) (at place : ℕ) → pairs_from code at place 0 ≡ []
unfolding pairs_from
pairs_from_none code at place = refl

-- one pair more
pub pairs_from_more : (code : List ℕ) (at place n : ℕ)
    → pairs_from code at place (n + 1) ≡ pairs_from code at place n ++ (signed_at w32 code (place + 8 * n), target at (signed_at w32 code (place + 8 * n + 4))) ∷ []
unfolding pairs_from
pairs_from_more code at place n = map-range_with_len_more (λ k. (signed_at w32 code (place + 8 * k), target at (signed_at w32 code (place + 8 * k + 4)))) 0 n n (omega arith)
