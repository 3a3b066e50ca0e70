-- What each part of a class file has to be, and what all of it has to be.
use Rattle.std.proofs.Common.{◌≡◌, ℕ, zero, suc, ◌<◌, ◌+◌, ◌^◌, inl, inr, List, [], ◌∷◌, length, get_or, drop, refl, sym, ap, subst, arith}
use Rattle.std.proofs.lemmas.Bool.{cases_lt}
use Rattle.jvm_base.specs.Units.{AreUnits}

pub units_of_slice : (us : List ℕ) → ((k : ℕ) → get_or us k 0 < 2 ^ 16) → AreUnits us
units_of_slice [] h = tt
units_of_slice (u ∷ us) h = (h 0, units_of_slice us (λ k. h (suc k)))

-- the rest of a list from a place on
pub next_of : {X : Type 0} (xs : List X) (i : ℕ) (x : X) → i < length xs → x ≡ get_or xs i x → drop i xs ≡ x ∷ drop (suc i) xs
next_of [] i x lt e = absurd (omega arith)
next_of (y ∷ xs) zero x lt e = ap (λ z. z ∷ xs) (sym e)
next_of (y ∷ xs) (suc i) x lt e = next_of xs i x (omega arith) e

get_or-same : {X : Type 0} (xs : List X) (i : ℕ) (c d : X) → i < length xs → get_or xs i c ≡ get_or xs i d
get_or-same [] i c d lt = absurd (omega arith)
get_or-same (x ∷ xs) zero c d lt = refl
get_or-same (x ∷ xs) (suc i) c d lt = get_or-same xs i c d (omega arith)

-- what holds below a place, and at it, holds below the next one
pub all_more : {X : Type 0} (P : X → Type 0) (xs : List X) (i : ℕ) (x : X) → ((k : ℕ) (d : X) → k < i → P (get_or xs k d)) → i < length xs → P (get_or xs i x) → (k : ℕ) (d : X) → k < i + 1 → P (get_or xs k d)
all_more P xs i x below lt here k d le =
    elim (cases_lt k i) [
      | inl less ↦ below k d less
      | inr more ↦
          let at : i ≡ k = omega arith in
          subst (λ j. P (get_or xs j d)) at (subst P (get_or-same xs i x d lt) here)
    ]
