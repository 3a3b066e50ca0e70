-- Tests of numbers and lists.
use Rattle.std.proofs.Common.{◌≡◌, ℕ, suc, zero, Bool, true, false, ◌||◌, ◌⊎◌, inl, inr, ◌==◌, List, [], ◌∷◌, ◌++◌, refl, arith, ap, ◌∙◌}
use Rattle.std.specs.List.{Contains, list_any}
use Rattle.std.proofs.lemmas.Bool.Decides.{nat_tests}
use Rattle.std.proofs.lemmas.List.Folds.{list_any-append}
use Rattle.hierarchy.specs.Walks.{has}

-- one of the two tests passes
pub or_split : (a b : Bool) → (a || b) ≡ true → (a ≡ true) ⊎ (b ≡ true)
or_split true b e = inl refl
or_split false b e = inr e

-- the first test passes
pub or_left : (a b : Bool) → a ≡ true → (a || b) ≡ true
or_left a b e = rw e refl

-- the second test passes
pub or_right : (a b : Bool) → b ≡ true → (a || b) ≡ true
or_right true b e = refl
or_right false b e = e

-- a second test that always fails adds nothing
pub or_false : (a : Bool) → a ≡ (a || false)
or_false true = refl
or_false false = refl

-- three tests may be grouped either way
pub or_assoc : (a b c : Bool) → (a || (b || c)) ≡ ((a || b) || c)
or_assoc true b c = refl
or_assoc false b c = refl

-- a test that can't pass fails
pub not_true : (b : Bool) → (b ≡ true → ⊥) → b ≡ false
not_true true h = absurd (h refl)
not_true false h = refl

-- a number equals itself
pub equal_to : (a : ℕ) → (a == a) ≡ true
equal_to a = grind (arith, nat_tests)

-- numbers that are tested equal are one
pub equal_from : (a b : ℕ) → (a == b) ≡ true → a ≡ b
equal_from a b e = grind (arith, nat_tests)

-- two lists together have what one of them has
pub has_append : (xs ys : List ℕ) (d : ℕ) → has (xs ++ ys) d ≡ (has xs d || has ys d)
has_append xs ys d = list_any-append (λ y. y == d) xs ys

-- where some item passes, there is one
pub any_item : (p : ℕ → Bool) (xs : List ℕ) → list_any p xs ≡ true → (x : ℕ) × (Contains xs x × (p x ≡ true))
any_item p [] e = absurd cc
any_item p (x ∷ xs) e = elim (or_split (p x) (list_any p xs) e) [
  | inl h ↦ (x, ((0, omega arith, refl), h))
  | inr h ↦ let r = any_item p xs h in (r.0, ((suc r.1.0.0, (let l = r.1.0.1 in omega arith), r.1.0.2), r.1.1))
]

-- an item that passes is some item that does
pub any_from : (p : ℕ → Bool) (xs : List ℕ) (x : ℕ) → Contains xs x → p x ≡ true → list_any p xs ≡ true
any_from p [] x w h = absurd (let l = w.1 in omega arith)
any_from p (y ∷ ys) x (zero, l, e) h = or_left (p y) _ (ap p e ∙ h)
any_from p (y ∷ ys) x (suc k, l, e) h = or_right (p y) _ (any_from p ys x (k, omega arith, e) h)
