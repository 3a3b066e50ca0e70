-- Laws of numbers by first sight.
use Rattle.std.proofs.Common.{◌≡◌, ℕ, ◌+◌, ◌<◌, Bool, true, false, not, cond, nat_lt, nat_eq, eqb, List, [], ◌∷◌, ◌++◌, Option, Some, None, length, get_or, ap, refl, sym, subst, ◌∙◌, position, arith, length-append}
use Rattle.std.specs.Prelude.{if◌then◌else◌}
use Rattle.std.specs.Cmp.{IsEquivalence}
use Rattle.std.specs.List.{position_or_len}
use Rattle.std.proofs.lemmas.Bool.Decides.{nat_tests}
use Rattle.std.proofs.lemmas.List.Quantifiers.{position-Some}
use Rattle.std.proofs.lemmas.List.Folds.{position_or_len_push}
use Rattle.numbering.specs.Seen.{is_seen, with_item}
use Rattle.numbering.proofs.Places.{at_position}

-- two tests that pass alike are one
same_bool : (a b : Bool) → (a ≡ true → b ≡ true) → (b ≡ true → a ≡ true) → a ≡ b
same_bool true b f g = sym (f refl)
same_bool false true f g = g refl
same_bool false false f g = refl

same_number : (i j : ℕ) → nat_eq i j ≡ true → i ≡ j
same_number i j e = grind (arith, nat_tests)

number_same : (i j : ℕ) → i ≡ j → nat_eq i j ≡ true
number_same i j e = grind (arith, nat_tests)

-- what an option holds
some_same : (x y : ℕ) (o : Option ℕ) → o ≡ Some x → o ≡ Some y → x ≡ y
some_same x y o e f = let h : Some x ≡ Some y = sym e ∙ f in cc

-- an answer is the place of the first that passes
first_place : {A : Type 0} (p : A → Bool) (xs : List A) (n : ℕ) → position p xs ≡ Some n → position_or_len p xs ≡ n
first_place p xs n e = by (nat_lt (position_or_len p xs) (length xs)) e
  where
    by : (b : Bool) → cond b (Some (position_or_len p xs)) None ≡ Some n → position_or_len p xs ≡ n
    by true h = cc
    by false h = absurd cc

-- two tests that pass alike have one place
place_same : {A : Type 0} (p q : A → Bool) (xs : List A) → ((x : A) → p x ≡ q x) → position_or_len p xs ≡ position_or_len q xs
place_same p q [] h = refl
place_same p q (x ∷ xs) h = ap (λ n. cond (not (p x)) (1 + n) 0) (place_same p q xs h) ∙ ap (λ b. cond (not b) (1 + position_or_len q xs) 0) (h x)

-- two tests that pass alike have one answer
same_position : {A : Type 0} (p q : A → Bool) (xs : List A) → ((x : A) → p x ≡ q x) → position p xs ≡ position q xs
same_position p q xs h = ap (λ n. cond (nat_lt n (length xs)) (Some n) None) (place_same p q xs h)

-- two items have one number exactly where the test takes them for one
pub number_tells : {A : Type 0} {E : A → A → Bool} → IsEquivalence E → (items : List A) (x y : A) (i j : ℕ) → position (E x) items ≡ Some i → position (E y) items ≡ Some j → nat_eq i j ≡ E x y
number_tells {E = E} laws items x y i j ex ey =
    same_bool (nat_eq i j) (E x y)
    (λ e.
    let px : E x (get_or items i x) ≡ true = (position-Some (E x) items i x ex).1 in
    let py : E y (get_or items j x) ≡ true = (position-Some (E y) items j x ey).1 in
    let z = get_or items i x in
    let back : E z y ≡ true = laws.symm z y ∙ subst (λ k. E y (get_or items k x) ≡ true) (sym (same_number i j e)) py in
    sym (laws.congr z x y (laws.symm z x ∙ px)) ∙ back)
    (λ e. number_same i j (some_same i j (position (E x) items) ex (same_position (E x) (E y) items (λ z. laws.congr x y z e) ∙ ey)))

other_number : (n m : ℕ) → n < m → eqb n m ≡ false
other_number n m h = grind (arith, nat_tests)

-- one more item leaves the place of the first that passes
later : {A : Type 0} (p : A → Bool) (xs : List A) (y : A) (n : ℕ) → position p xs ≡ Some n → position p (xs ++ y ∷ []) ≡ Some n
later p xs y n e =
    let inside : n < length xs = (position-Some p xs n y e).0 in
    let place : position_or_len p xs ≡ n = first_place p xs n e in
    let within : position_or_len p xs < length xs = omega arith in
    let kept : position_or_len p (xs ++ y ∷ []) ≡ n = position_or_len_push p xs y ∙ ap (λ b. cond b (length xs + cond (p y) 0 1) (position_or_len p xs)) (other_number _ _ within) ∙ place in
    at_position p (xs ++ y ∷ []) n kept (omega (arith, length-append xs (y ∷ [])))

-- an item keeps its number when others are seen
pub number_kept : {A : Type 0} (E : A → A → Bool) (items : List A) (x y : A) (n : ℕ) → position (E x) items ≡ Some n → position (E x) (with_item E items y) ≡ Some n
number_kept E items x y n e = by (is_seen E items y)
  where
    by : (b : Bool) → position (E x) (if b then items else items ++ y ∷ []) ≡ Some n
    by true = e
    by false = later (E x) items y n e
