-- How a text is read from its front. No promise of the crate rests on these words.
use Rattle.std.specs.Prelude.{◌≡◌, ◌<◌, ◌+◌, ◌*◌, ◌-◌, ◌==◌, ◌&&◌, ◌||◌, ℕ, Bool, not, nat_lt, nat_le, slice_index_or, length, List, ◌++◌, Option, Some, option_map, IfSome, decimal}
use Rattle.std.specs.List.{fold, list_all}
use Rattle.std.specs.Char.{is_ascii_digit}
use Rattle.std.specs.Borrow.{Bor}
use Rattle.jvm_base.specs.SeenDescs.{seen_rest}

-- the number that digits spell, the greatest first
abbrev pub value_of : List ℕ → ℕ
value_of ds = fold (λ n d. n * 10 + (d - 48)) 0 ds

-- all of them are digits
abbrev pub are_digits : List ℕ → Bool
are_digits bs = list_all is_ascii_digit bs

-- digits of a number below 2 ^ 32, without leading zeros, or of a few more
abbrev pub is_numeral : List ℕ → Bool
is_numeral bs =
    nat_lt 0 (length bs) && nat_le (length bs) 10
    && (length bs == 1 || not (slice_index_or bs 0 0 == 48)) && are_digits bs

-- the number below the limit that the bytes are, if they are one
pub record IsNumberOf (limit : ℕ) (bytes : List ℕ) (result : Option ℕ) : Type 0 where
  pub found : IfSome result (λ n. (n < limit) × (bytes ≡ decimal n))
  pub only : (n : ℕ) → n < limit → bytes ≡ decimal n → result ≡ Some n

-- what fits and stands in front, if there is such, and what follows it
pub record IsFront {X : Type 0} (Fits : X → Type 0) (text : X → List ℕ) (bytes : List ℕ)
    (result : Option (X × Bor (List ℕ))) : Type 0 where
  pub found : IfSome result (λ x. Fits x.0 × (bytes ≡ text x.0 ++ x.1.now))
  pub only : (x : X) (rest : List ℕ) → Fits x → bytes ≡ text x ++ rest
      → option_map seen_rest result ≡ Some (x, rest)
