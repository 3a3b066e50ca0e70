-- The first element of a list that passes a test, with what lies before and behind it.
use Rattle.std.proofs.Common.{◌≡◌, ℕ, ◌+◌, List, [], ◌∷◌, ◌++◌, length, Some, None, Bool, true, false, refl, ap, sym, ◌∙◌, inl, inr, arith, find}
use Rattle.std.proofs.lemmas.Bool.{cases_Bool}
use Rattle.std.proofs.lemmas.Iterator.Adapters.{position_from-zero}
use Rattle.std.specs.Prelude.{position}
use Rattle.std.specs.List.{position_from, AllByRecursion}

module _ {X : Type 0} (t : X → Bool) where
  -- the first that passes, with what lies before and behind it
  pub record First (xs : List X) (x : X) : Type 0 where
    pub before : List X
    pub after : List X
    pub parts : xs ≡ before ++ x ∷ after
    pub others : AllByRecursion (λ y. t y ≡ false) before
    pub passes : t x ≡ true

  -- none is found, so none passes
  pub find_none : (xs : List X) → find t xs ≡ None → AllByRecursion (λ x. t x ≡ false) xs
  find_none [] h = tt
  find_none (x ∷ xs) h = elim (cases_Bool (t x)) [
    | inl passes ↦ absurd (let e : find t (x ∷ xs) ≡ Some x = rw passes refl in cc)
    | inr other ↦ let e : find t (x ∷ xs) ≡ find t xs = rw other refl in (other, find_none xs (sym e ∙ h))
  ]

  -- and the other way round
  pub none_find : (xs : List X) → AllByRecursion (λ x. t x ≡ false) xs → find t xs ≡ None
  none_find [] h = refl
  none_find (x ∷ xs) h = rw h.0 (none_find xs h.1)

  -- what is found is the first that passes
  pub find_first : (xs : List X) (x : X) → find t xs ≡ Some x → First xs x
  find_first [] x h = absurd (cc)
  find_first (y ∷ xs) x h = elim (cases_Bool (t y)) [
    | inl passes ↦
        let e : find t (y ∷ xs) ≡ Some y = rw passes refl in
        let same : y ≡ x = cc in
        rw (← same) (record { before = []; after = xs; parts = refl; others = tt; passes = passes })
    | inr other ↦
        let e : find t (y ∷ xs) ≡ find t xs = rw other refl in
        let f = find_first xs x (sym e ∙ h) in
        record { before = y ∷ f.before; after = f.after; parts = ap (λ (zs : List X). y ∷ zs) f.parts; others = (other, f.others); passes = f.passes }
  ]

  -- and the other way round
  pub first_find : (before : List X) (x : X) (after : List X) → AllByRecursion (λ y. t y ≡ false) before → t x ≡ true → find t (before ++ x ∷ after) ≡ Some x
  first_find [] x after h passes = rw passes refl
  first_find (y ∷ before) x after h passes = rw h.0 (first_find before x after h.1 passes)

  -- no place is found, counted from any number, so none passes
  none_from : (i : ℕ) (xs : List X) → position_from t i xs ≡ None → AllByRecursion (λ x. t x ≡ false) xs
  none_from i [] h = tt
  none_from i (x ∷ xs) h = elim (cases_Bool (t x)) [
    | inl passes ↦ absurd (let e : position_from t i (x ∷ xs) ≡ Some i = rw passes refl in cc)
    | inr other ↦ let e : position_from t i (x ∷ xs) ≡ position_from t (i + 1) xs = rw other refl in (other, none_from (i + 1) xs (sym e ∙ h))
  ]

  -- and the other way round
  from_none : (i : ℕ) (xs : List X) → AllByRecursion (λ x. t x ≡ false) xs → position_from t i xs ≡ None
  from_none i [] h = refl
  from_none i (x ∷ xs) h = rw h.0 (from_none (i + 1) xs h.1)

  -- the place of the first that passes, counted from a number
  pub record FirstPlace (i : ℕ) (xs : List X) (j : ℕ) : Type 0 where
    pub x : X
    pub first : First xs x
    pub place : j ≡ i + length first.before

  -- the place that is found is that of the first that passes
  first_from : (i : ℕ) (xs : List X) (j : ℕ) → position_from t i xs ≡ Some j → FirstPlace i xs j
  first_from i [] j h = absurd (cc)
  first_from i (y ∷ xs) j h = elim (cases_Bool (t y)) [
    | inl passes ↦
        let e : position_from t i (y ∷ xs) ≡ Some i = rw passes refl in
        let same : i ≡ j = cc in
        record { x = y; first = record { before = []; after = xs; parts = refl; others = tt; passes = passes }; place = omega arith }
    | inr other ↦
        let e : position_from t i (y ∷ xs) ≡ position_from t (i + 1) xs = rw other refl in
        let f = first_from (i + 1) xs j (sym e ∙ h) in
        let place = f.place in
        record {
          x = f.x;
          first = record { before = y ∷ f.first.before; after = f.first.after; parts = ap (λ (zs : List X). y ∷ zs) f.first.parts; others = (other, f.first.others); passes = f.first.passes };
          place = omega arith;
        }
  ]

  -- and the other way round
  from_first : (i : ℕ) (before : List X) (x : X) (after : List X) → AllByRecursion (λ y. t y ≡ false) before → t x ≡ true → position_from t i (before ++ x ∷ after) ≡ Some (i + length before)
  from_first i [] x after h passes = let e : i + 0 ≡ i = omega arith in rw (passes, e) refl
  from_first i (y ∷ before) x after h passes = let e : i + length (y ∷ before) ≡ i + 1 + length before = omega arith in rw (h.0, e) (from_first (i + 1) before x after h.1 passes)

  -- the same four of places counted from 0
  pub position_none : (xs : List X) → position t xs ≡ None → AllByRecursion (λ x. t x ≡ false) xs
  position_none xs h = none_from 0 xs (sym (position_from-zero t xs) ∙ h)

  -- none passes, so no place is found
  pub none_position : (xs : List X) → AllByRecursion (λ x. t x ≡ false) xs → position t xs ≡ None
  none_position xs h = position_from-zero t xs ∙ from_none 0 xs h

  -- the place that is found is that of the first that passes
  pub position_first : (xs : List X) (j : ℕ) → position t xs ≡ Some j → FirstPlace 0 xs j
  position_first xs j h = first_from 0 xs j (sym (position_from-zero t xs) ∙ h)

  -- the first that passes is found at its place
  pub first_position : (before : List X) (x : X) (after : List X) → AllByRecursion (λ y. t y ≡ false) before → t x ≡ true → position t (before ++ x ∷ after) ≡ Some (length before)
  first_position before x after h passes =
      let e : 0 + length before ≡ length before = omega arith in
      position_from-zero t (before ++ x ∷ after) ∙ from_first 0 before x after h passes ∙ ap (λ (n : ℕ). Some n) e
