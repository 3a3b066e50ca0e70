-- The first items of a list, one more each time.
use Rattle.std.proofs.Common.{◌≡◌, ℕ, zero, suc, ◌+◌, ◌≤◌, List, [], ◌∷◌, ◌++◌, length, take, map, Some, refl, ap, ◌∙◌, add-one, arith}
use Rattle.std.specs.Prelude.{slice_get}

by_suc : {A : Type 0} (xs : List A) (i : ℕ) (x : A) → slice_get xs i ≡ Some x → take (suc i) xs ≡ take i xs ++ x ∷ []
by_suc [] i x e = absurd cc
by_suc (y ∷ xs) zero x e = cc
by_suc (y ∷ xs) (suc i) x e = ap (λ ys. y ∷ ys) (by_suc xs i x e)

pub take_next : {A : Type 0} (xs : List A) (i : ℕ) (x : A) → slice_get xs i ≡ Some x → take (i + 1) xs ≡ take i xs ++ x ∷ []
take_next xs i x e = rw add-one (by_suc xs i x e)

mapped : {A B : Type 0} (f : A → B) (xs : List A) (x : A) → map f (xs ++ x ∷ []) ≡ map f xs ++ f x ∷ []
mapped f [] x = refl
mapped f (y ∷ xs) x = ap (λ ys. f y ∷ ys) (mapped f xs x)

-- of what they are mapped to
pub map_next : {A B : Type 0} (f : A → B) (xs : List A) (i : ℕ) (x : A) → slice_get xs i ≡ Some x → map f (take (i + 1) xs) ≡ map f (take i xs) ++ f x ∷ []
map_next f xs i x e = ap (map f) (take_next xs i x e) ∙ mapped f (take i xs) x

-- all of them
pub take_all : {A : Type 0} (xs : List A) (i : ℕ) → length xs ≤ i → take i xs ≡ xs
take_all [] zero h = refl
take_all [] (suc i) h = refl
take_all (x ∷ xs) zero h = absurd (omega arith)
take_all (x ∷ xs) (suc i) h = ap (λ ys. x ∷ ys) (take_all xs i (omega arith))
