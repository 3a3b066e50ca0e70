-- Lists that are read by place.
use Rattle.std.proofs.Common.{◌≡◌, ◌≢◌, ℕ, zero, suc, ◌+◌, ◌<◌, List, [], ◌∷◌, ◌++◌, length, drop, Some, refl, ap, add-one, subst, arith}
use Rattle.std.specs.Prelude.{slice_get, slice_set}

-- a list from a place on
from_suc : {A : Type 0} (i : ℕ) (xs : List A) (x : A) → slice_get xs i ≡ Some x → drop i xs ≡ x ∷ drop (suc i) xs
from_suc zero [] x e = absurd cc
from_suc zero (y ∷ ys) x e = cc
from_suc (suc i) [] x e = absurd cc
from_suc (suc i) (y ∷ ys) x e = from_suc i ys x e

pub from_place : {A : Type 0} (i : ℕ) (xs : List A) (x : A) → slice_get xs i ≡ Some x → drop i xs ≡ x ∷ drop (i + 1) xs
from_place i xs x e = rw add-one (from_suc i xs x e)

-- what is set is there
pub set_there : {A : Type 0} (xs : List A) (i : ℕ) (v : A) → i < length xs → slice_get (slice_set xs i v) i ≡ Some v
set_there [] i v h = absurd (omega arith)
set_there (x ∷ xs) zero v h = refl
set_there (x ∷ xs) (suc i) v h = set_there xs i v (omega arith)

-- and nothing else
pub set_elsewhere : {A : Type 0} (xs : List A) (i j : ℕ) (v : A) → i ≢ j → slice_get (slice_set xs i v) j ≡ slice_get xs j
set_elsewhere [] i j v h = refl
set_elsewhere (x ∷ xs) zero zero v h = absurd (h refl)
set_elsewhere (x ∷ xs) zero (suc j) v h = refl
set_elsewhere (x ∷ xs) (suc i) zero v h = refl
set_elsewhere (x ∷ xs) (suc i) (suc j) v h = set_elsewhere xs i j v (λ e. h (ap suc e))

-- as many as before
pub set_count : {A : Type 0} (xs : List A) (i : ℕ) (v : A) → length (slice_set xs i v) ≡ length xs
set_count [] i v = refl
set_count (x ∷ xs) zero v = refl
set_count (x ∷ xs) (suc i) v = ap suc (set_count xs i v)

-- what holds of each item by its place holds with one more
pub pushed : {A : Type 0} (P : ℕ → A → Type 0) (xs : List A) (x : A) → ((i : ℕ) (y : A) → slice_get xs i ≡ Some y → P i y) → P (length xs) x → (i : ℕ) (y : A) → slice_get (xs ++ x ∷ []) i ≡ Some y → P i y
pushed P [] x h k zero y e = subst (P zero) (some_inj e) k
  where
    some_inj : Some x ≡ Some y → x ≡ y
    some_inj q = cc
pushed P [] x h k (suc i) y e = absurd cc
pushed P (z ∷ xs) x h k zero y e = h zero y e
pushed P (z ∷ xs) x h k (suc i) y e = pushed (λ n. P (suc n)) xs x (λ j w. h (suc j) w) k i y e
