-- The place of an item among those that were seen.
use Rattle.std.proofs.Common.{◌≡◌, ℕ, ◌+◌, ◌<◌, Bool, true, false, cond, nat_lt, eqb, List, [], ◌∷◌, ◌++◌, Some, None, map, length, ap, refl, sym, ◌∙◌, position, arith, inl, inr}
use Rattle.std.specs.Prelude.{if◌then◌else◌}
use Rattle.std.specs.List.{list_any, position_or_len}
use Rattle.std.proofs.lemmas.Bool.{cases_eq}
use Rattle.std.proofs.lemmas.Bool.Decides.{nat_tests}
use Rattle.std.proofs.lemmas.List.Folds.{position_or_len_push}
use Rattle.std.proofs.lemmas.List.{map-append}
use Rattle.numbering.specs.Seen.{with_item}
use Rattle.numbering.proofs.Mapped.{any_map, position_map}

less : (n m : ℕ) → n < m → nat_lt n m ≡ true
less n m h = grind (arith, nat_tests)

same : (n m : ℕ) → n ≡ m → eqb n m ≡ true
same n m h = grind (arith, nat_tests)

other : (n m : ℕ) → (n ≡ m → ⊥) → eqb n m ≡ false
other n m h = grind (arith, nat_tests)

-- a place within the list is the place of the first item that passes
pub at_position : {A : Type 0} (p : A → Bool) (xs : List A) (n : ℕ) → position_or_len p xs ≡ n → n < length xs → position p xs ≡ Some n
at_position p xs n e h = ap (λ k. cond (nat_lt k (length xs)) (Some k) None) e ∙ ap (λ b. cond b (Some n) None) (less n (length xs) h)

-- one more item that passes leaves the place of the first, or is it itself
with_last : {A : Type 0} (p : A → Bool) (xs : List A) (y : A) (n : ℕ) → n ≡ position_or_len p xs → p y ≡ true → position_or_len p (xs ++ y ∷ []) ≡ n
with_last p xs y n e h = elim (cases_eq (position_or_len p xs) (length xs)) [
  | inl s ↦ position_or_len_push p xs y ∙ ap (λ b. cond b (length xs + cond (p y) 0 1) (position_or_len p xs)) (same _ _ s) ∙ ap (λ b. length xs + cond b 0 1) h ∙ (let q : length xs + 0 ≡ n = omega arith in q)
  | inr ne ↦ position_or_len_push p xs y ∙ ap (λ b. cond b (length xs + cond (p y) 0 1) (position_or_len p xs)) (other _ _ ne) ∙ sym e
]

-- an item's number is its place once it was seen
item_place : {A : Type 0} (p : A → Bool) (xs : List A) (y : A) (n : ℕ) (seen : Bool) → n ≡ position_or_len p xs → n < length (if seen then xs else xs ++ y ∷ []) → p y ≡ true → position p (if seen then xs else xs ++ y ∷ []) ≡ Some n
item_place p xs y n true e h t = at_position p xs n (sym e) h
item_place p xs y n false e h t = at_position p (xs ++ y ∷ []) n (with_last p xs y n e t) h

-- what is seen through a function, once one more is
pub seen_map : {A B : Type 0} (f : A → B) (E : B → B → Bool) (xs : List A) (y : A) → map f (if list_any (λ x. E (f y) (f x)) xs then xs else xs ++ y ∷ []) ≡ with_item E (map f xs) (f y)
seen_map f E xs y = by (list_any (λ x. E (f y) (f x)) xs) ∙ ap (λ b. if b then map f xs else map f xs ++ f y ∷ []) (sym (any_map f (E (f y)) xs))
  where
    by : (b : Bool) → map f (if b then xs else xs ++ y ∷ []) ≡ (if b then map f xs else map f xs ++ f y ∷ [])
    by true = refl
    by false = map-append f xs (y ∷ [])

-- the number that is answered is the item's place
pub number_map : {A B : Type 0} (f : A → B) (E : B → B → Bool) (xs : List A) (y : A) (n : ℕ) → E (f y) (f y) ≡ true → n ≡ position_or_len (λ x. E (f y) (f x)) xs → n < length (if list_any (λ x. E (f y) (f x)) xs then xs else xs ++ y ∷ []) → position (E (f y)) (map f (if list_any (λ x. E (f y) (f x)) xs then xs else xs ++ y ∷ [])) ≡ Some n
number_map f E xs y n t e h = position_map f (E (f y)) (if list_any (λ x. E (f y) (f x)) xs then xs else xs ++ y ∷ []) ∙ item_place (λ x. E (f y) (f x)) xs y n (list_any (λ x. E (f y) (f x)) xs) e h t
