-- Lists of types that fit, cut, joined and changed at a place.
use Rattle.std.proofs.Common.{◌≡◌, ap, subst, refl, ℕ, zero, suc, Bool, true, false, List, [], ◌∷◌, ◌++◌, take, drop, length, Option, Some}
use Rattle.std.specs.Prelude.{if◌then◌else◌, map, slice_get, slice_set}
use Rattle.flow_types.specs.Types.{type_fits, IsType}
use Rattle.flow_types.specs.TypeLists.{types_fit, is_operand, AreTypes, AreOperands}
use Rattle.flow_types.specs.declared.flow_type.FlowType.{FlowType}
use Rattle.flow_types.proofs.ListLaws.{and_parts, and_both}

pub append_empty : {A : Type 0} (xs ys : List A) → xs ++ ys ≡ [] → (xs ≡ []) × (ys ≡ [])
append_empty [] ys e = (refl, e)
append_empty (x ∷ xs) ys e = absurd cc

pub both_empty : {A : Type 0} (xs ys : List A) → xs ≡ [] → ys ≡ [] → xs ++ ys ≡ []
both_empty xs ys e f = rw (e, f) refl

pub if_empty : (b : Bool) (r : ℕ) → ◌≡◌ {A = List ℕ} (if b then [] else r ∷ []) [] → b ≡ true
if_empty true r e = refl
if_empty false r e = absurd cc

pub then_empty : (b : Bool) (r : ℕ) → b ≡ true → ◌≡◌ {A = List ℕ} (if b then [] else r ∷ []) []
then_empty b r e = rw e refl

module _ (supers : List (Option ℕ)) where
  pub fit-take : (n : ℕ) (xs ys : List FlowType) → types_fit supers xs ys ≡ true → types_fit supers (take n xs) (take n ys) ≡ true
  fit-take zero xs ys h = refl
  fit-take (suc n) [] [] h = refl
  fit-take (suc n) [] (y ∷ ys) h = absurd cc
  fit-take (suc n) (x ∷ xs) [] h = absurd cc
  fit-take (suc n) (x ∷ xs) (y ∷ ys) h = let (p, q) = and_parts (type_fits supers x y) (types_fit supers xs ys) h in and_both _ _ p (fit-take n xs ys q)

  pub fit-drop : (n : ℕ) (xs ys : List FlowType) → types_fit supers xs ys ≡ true → types_fit supers (drop n xs) (drop n ys) ≡ true
  fit-drop zero xs ys h = h
  fit-drop (suc n) [] [] h = refl
  fit-drop (suc n) [] (y ∷ ys) h = absurd cc
  fit-drop (suc n) (x ∷ xs) [] h = absurd cc
  fit-drop (suc n) (x ∷ xs) (y ∷ ys) h = let (p, q) = and_parts (type_fits supers x y) (types_fit supers xs ys) h in fit-drop n xs ys q

  pub fit-append : (xs ys us vs : List FlowType) → types_fit supers xs ys ≡ true → types_fit supers us vs ≡ true → types_fit supers (xs ++ us) (ys ++ vs) ≡ true
  fit-append [] [] us vs h g = g
  fit-append [] (y ∷ ys) us vs h g = absurd cc
  fit-append (x ∷ xs) [] us vs h g = absurd cc
  fit-append (x ∷ xs) (y ∷ ys) us vs h g = let (p, q) = and_parts (type_fits supers x y) (types_fit supers xs ys) h in and_both _ _ p (fit-append xs ys us vs q g)

  pub fit-set : (n : ℕ) (xs ys : List FlowType) (t u : FlowType) → types_fit supers xs ys ≡ true → type_fits supers t u ≡ true → types_fit supers (slice_set xs n t) (slice_set ys n u) ≡ true
  fit-set n [] [] t u h g = refl
  fit-set n [] (y ∷ ys) t u h g = absurd cc
  fit-set n (x ∷ xs) [] t u h g = absurd cc
  fit-set zero (x ∷ xs) (y ∷ ys) t u h g = let (p, q) = and_parts (type_fits supers x y) (types_fit supers xs ys) h in and_both _ _ g q
  fit-set (suc n) (x ∷ xs) (y ∷ ys) t u h g = let (p, q) = and_parts (type_fits supers x y) (types_fit supers xs ys) h in and_both _ _ p (fit-set n xs ys t u q g)

  -- what fits a type at a place
  pub fit-at : (n : ℕ) (xs ys : List FlowType) (u : FlowType) → types_fit supers xs ys ≡ true → slice_get ys n ≡ Some u → (t : FlowType) × (slice_get xs n ≡ Some t) × (type_fits supers t u ≡ true)
  fit-at n [] [] u h e = absurd cc
  fit-at n [] (y ∷ ys) u h e = absurd cc
  fit-at n (x ∷ xs) [] u h e = absurd cc
  fit-at zero (x ∷ xs) (y ∷ ys) u h e = let (p, q) = and_parts (type_fits supers x y) (types_fit supers xs ys) h in let g : y ≡ u = cc in (x, refl, subst (λ z. type_fits supers x z ≡ true) g p)
  fit-at (suc n) (x ∷ xs) (y ∷ ys) u h e = let (p, q) = and_parts (type_fits supers x y) (types_fit supers xs ys) h in fit-at n xs ys u q e

  pub fit-map : (f g : FlowType → FlowType) → ((t u : FlowType) → type_fits supers t u ≡ true → type_fits supers (f t) (g u) ≡ true) → (xs ys : List FlowType) → types_fit supers xs ys ≡ true → types_fit supers (map f xs) (map g ys) ≡ true
  fit-map f g k [] [] h = refl
  fit-map f g k [] (y ∷ ys) h = absurd cc
  fit-map f g k (x ∷ xs) [] h = absurd cc
  fit-map f g k (x ∷ xs) (y ∷ ys) h = let (p, q) = and_parts (type_fits supers x y) (types_fit supers xs ys) h in and_both _ _ (k x y p) (fit-map f g k xs ys q)

  pub types-drop : (n : ℕ) (xs : List FlowType) → AreTypes supers xs → AreTypes supers (drop n xs)
  types-drop zero xs h = h
  types-drop (suc n) [] h = tt
  types-drop (suc n) (x ∷ xs) h = types-drop n xs (h.1)

  pub types-take : (n : ℕ) (xs : List FlowType) → AreTypes supers xs → AreTypes supers (take n xs)
  types-take zero xs h = tt
  types-take (suc n) [] h = tt
  types-take (suc n) (x ∷ xs) h = (h.0, types-take n xs (h.1))

  pub types-append : (xs ys : List FlowType) → AreTypes supers xs → AreTypes supers ys → AreTypes supers (xs ++ ys)
  types-append [] ys h g = g
  types-append (x ∷ xs) ys h g = (h.0, types-append xs ys (h.1) g)

  pub types-set : (n : ℕ) (xs : List FlowType) (t : FlowType) → AreTypes supers xs → IsType supers t → AreTypes supers (slice_set xs n t)
  types-set n [] t h g = tt
  types-set zero (x ∷ xs) t h g = (g, h.1)
  types-set (suc n) (x ∷ xs) t h g = (h.0, types-set n xs t (h.1) g)

  pub types-at : (n : ℕ) (xs : List FlowType) (t : FlowType) → AreTypes supers xs → slice_get xs n ≡ Some t → IsType supers t
  types-at n [] t h e = absurd cc
  types-at zero (x ∷ xs) t h e = let g : x ≡ t = cc in subst (IsType supers) g (h.0)
  types-at (suc n) (x ∷ xs) t h e = types-at n xs t (h.1) e

  pub types-map : (f : FlowType → FlowType) → ((t : FlowType) → IsType supers t → IsType supers (f t)) → (xs : List FlowType) → AreTypes supers xs → AreTypes supers (map f xs)
  types-map f k [] h = tt
  types-map f k (x ∷ xs) h = (k x (h.0), types-map f k xs (h.1))

pub operands-drop : (n : ℕ) (xs : List FlowType) → AreOperands xs → AreOperands (drop n xs)
operands-drop zero xs h = h
operands-drop (suc n) [] h = tt
operands-drop (suc n) (x ∷ xs) h = operands-drop n xs (h.1)

pub operands-take : (n : ℕ) (xs : List FlowType) → AreOperands xs → AreOperands (take n xs)
operands-take zero xs h = tt
operands-take (suc n) [] h = tt
operands-take (suc n) (x ∷ xs) h = (h.0, operands-take n xs (h.1))

pub operands-append : (xs ys : List FlowType) → AreOperands xs → AreOperands ys → AreOperands (xs ++ ys)
operands-append [] ys h g = g
operands-append (x ∷ xs) ys h g = (h.0, operands-append xs ys (h.1) g)

pub operands-map : (f : FlowType → FlowType) → ((t : FlowType) → is_operand t ≡ true → is_operand (f t) ≡ true) → (xs : List FlowType) → AreOperands xs → AreOperands (map f xs)
operands-map f k [] h = tt
operands-map f k (x ∷ xs) h = (k x (h.0), operands-map f k xs (h.1))

pub length-set : (n : ℕ) (xs : List FlowType) (t : FlowType) → length (slice_set xs n t) ≡ length xs
length-set n [] t = refl
length-set zero (x ∷ xs) t = refl
length-set (suc n) (x ∷ xs) t = ap suc (length-set n xs t)

pub length-map : (f : FlowType → FlowType) (xs : List FlowType) → length (map f xs) ≡ length xs
length-map f [] = refl
length-map f (x ∷ xs) = ap suc (length-map f xs)
