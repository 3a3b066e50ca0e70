-- Where an item is found in a list.
use Rattle.std.proofs.Common.{◌≡◌, ◌∙◌, sym, ap, refl, ℕ, suc, ◌+◌, Bool, true, false, List, [], ◌∷◌, ◌++◌, slice_get, position, Some, arith}
use Rattle.std.specs.Prelude.{if◌then◌else◌}
use Rattle.std.specs.List.{position_from}
use Rattle.std.proofs.lemmas.Iterator.Adapters.{position_from-zero}

-- what stands at the place that is found, counted from a number
from_at : {A : Type 0} (t : A → Bool) (n : ℕ) (xs : List A) (k : ℕ) → position_from t n xs ≡ Some k → (i : ℕ) × (x : A) × (k ≡ n + i) × (slice_get xs i ≡ Some x) × (t x ≡ true)
from_at t n [] k e = absurd cc
from_at t n (x ∷ xs) k e = by_test (t x) refl e (from_at t (n + 1) xs k)
  where
    by_test : (b : Bool) → t x ≡ b → (if b then Some n else position_from t (n + 1) xs) ≡ Some k → (position_from t (n + 1) xs ≡ Some k → (i : ℕ) × (y : _) × (k ≡ n + 1 + i) × (slice_get xs i ≡ Some y) × (t y ≡ true)) → (i : ℕ) × (y : _) × (k ≡ n + i) × (slice_get (x ∷ xs) i ≡ Some y) × (t y ≡ true)
    by_test true q h again = let s : n ≡ k = cc in (0, x, omega arith, refl, q)
    by_test false q h again = let (i, y, a, b, c) = again h in (suc i, y, omega arith, b, c)

-- what is found in front is found in the whole
from_front : {A : Type 0} (t : A → Bool) (n : ℕ) (xs ys : List A) (k : ℕ) → position_from t n xs ≡ Some k → position_from t n (xs ++ ys) ≡ Some k
from_front t n [] ys k e = absurd cc
from_front t n (x ∷ xs) ys k e = by_test (t x) e (from_front t (n + 1) xs ys k)
  where
    by_test : (b : Bool) → (if b then Some n else position_from t (n + 1) xs) ≡ Some k → (position_from t (n + 1) xs ≡ Some k → position_from t (n + 1) (xs ++ ys) ≡ Some k) → (if b then Some n else position_from t (n + 1) (xs ++ ys)) ≡ Some k
    by_test true h again = h
    by_test false h again = again h

-- the same of places counted from 0
pub position_at : {A : Type 0} (t : A → Bool) (xs : List A) (k : ℕ) → position t xs ≡ Some k → (x : A) × (slice_get xs k ≡ Some x) × (t x ≡ true)
position_at t xs k e =
    let (i, x, a, b, c) = from_at t 0 xs k (sym (position_from-zero t xs) ∙ e) in
    let s : k ≡ i = omega arith in
    (x, ap (slice_get xs) s ∙ b, c)

pub position_front : {A : Type 0} (t : A → Bool) (xs ys : List A) (k : ℕ) → position t xs ≡ Some k → position t (xs ++ ys) ≡ Some k
position_front t xs ys k e = position_from-zero t (xs ++ ys) ∙ from_front t 0 xs ys k (sym (position_from-zero t xs) ∙ e)

-- a place from 0 on
pub position_found : {A : Type 0} (t : A → Bool) (xs : List A) (k : ℕ) → position t xs ≡ Some k → position_from t 0 xs ≡ Some k
position_found t xs k e = sym (position_from-zero t xs) ∙ e
