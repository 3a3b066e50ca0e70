-- One more item of two lists.
use Rattle.std.proofs.Common.{true, false, ◌≡◌, ◌∙◌, ap, refl, arith, min, zero, ℕ, ◌≤◌, List, [], ◌∷◌, ◌++◌, length, take, drop, slice_get, slice_set, Option, Some, None, suc, inl, inr}
use Rattle.std.specs.Prelude.{MatchOption}
use Rattle.std.proofs.lemmas.Bool.{cases_Bool}
use Rattle.flow_types.specs.Types.{joined, type_fits}
use Rattle.flow_types.specs.declared.flow_type.FlowType.{FlowType}
use Rattle.flow_types.specs.TypeLists.{types_fit, types_joined, stacks_joined, stacks_meet, is_operand}

abbrev pub put_all : List FlowType → Option (List FlowType) → Option (List FlowType)
put_all out None = None
put_all out (Some s) = Some (out ++ s)

pub unlike_lengths : (supers : List (Option ℕ)) (xs ys : List FlowType) → (length xs ≡ length ys → ⊥) → stacks_joined supers xs ys ≡ None
unlike_lengths supers [] [] h = absurd (h refl)
unlike_lengths supers [] (y ∷ ys) h = refl
unlike_lengths supers (x ∷ xs) [] h = refl
unlike_lengths supers (x ∷ xs) (y ∷ ys) h =
    let e : stacks_joined supers xs ys ≡ None = unlike_lengths supers xs ys (λ p. h (ap suc p)) in
    elim (cases_Bool (is_operand (joined supers x y))) [ inl q ↦ rw (q, e) refl | inr q ↦ rw q refl ]

nothing : (supers : List (Option ℕ)) (xs : List FlowType) → types_joined supers xs [] ≡ []
nothing supers [] = refl
nothing supers (x ∷ xs) = refl

pub joined_past : (supers : List (Option ℕ)) (i : ℕ) (xs ys : List FlowType) → min (length xs) (length ys) ≤ i → types_joined supers (drop i xs) (drop i ys) ≡ []
joined_past supers zero [] ys h = refl
joined_past supers zero (x ∷ xs) [] h = refl
joined_past supers zero (x ∷ xs) (y ∷ ys) h = absurd (omega arith)
joined_past supers (suc i) [] ys h = refl
joined_past supers (suc i) (x ∷ xs) [] h = nothing supers (drop i xs)
joined_past supers (suc i) (x ∷ xs) (y ∷ ys) h = joined_past supers i xs ys (omega arith)

-- lists of unlike lengths don't fit
pub unlike_fit : (supers : List (Option ℕ)) (xs ys : List FlowType) → (length xs ≡ length ys → ⊥) → types_fit supers xs ys ≡ false
unlike_fit supers [] [] h = absurd (h refl)
unlike_fit supers [] (y ∷ ys) h = refl
unlike_fit supers (x ∷ xs) [] h = refl
unlike_fit supers (x ∷ xs) (y ∷ ys) h =
    let e : types_fit supers xs ys ≡ false = unlike_fit supers xs ys (λ p. h (ap suc p)) in
    elim (cases_Bool (type_fits supers x y)) [ inl q ↦ rw (q, e) refl | inr q ↦ rw q refl ]

-- stacks of unlike depth don't meet
pub unlike_meet : (supers : List (Option ℕ)) (xs ys : List FlowType) → (length xs ≡ length ys → ⊥) → stacks_meet supers xs ys ≡ false
unlike_meet supers [] [] h = absurd (h refl)
unlike_meet supers [] (y ∷ ys) h = refl
unlike_meet supers (x ∷ xs) [] h = refl
unlike_meet supers (x ∷ xs) (y ∷ ys) h =
    let e : stacks_meet supers xs ys ≡ false = unlike_meet supers xs ys (λ p. h (ap suc p)) in
    elim (cases_Bool (is_operand (joined supers x y))) [ inl q ↦ rw (q, e) refl | inr q ↦ rw q refl ]

-- stacks that meet have one above them, place by place
pub meet_joined : (supers : List (Option ℕ)) (xs ys : List FlowType) → stacks_meet supers xs ys ≡ true → stacks_joined supers xs ys ≡ Some (types_joined supers xs ys)
meet_joined supers [] [] h = refl
meet_joined supers [] (y ∷ ys) h = absurd cc
meet_joined supers (x ∷ xs) [] h = absurd cc
meet_joined supers (x ∷ xs) (y ∷ ys) h =
    elim (cases_Bool (is_operand (joined supers x y))) [
      | inl q ↦ let m : stacks_meet supers xs ys ≡ true = rw q at h in rw (q, meet_joined supers xs ys m) refl
      | inr q ↦ let m : false ≡ true = rw q at h in absurd cc
    ]

-- stacks that don't meet have none
pub apart_joined : (supers : List (Option ℕ)) (xs ys : List FlowType) → stacks_meet supers xs ys ≡ false → stacks_joined supers xs ys ≡ None
apart_joined supers [] [] h = absurd cc
apart_joined supers [] (y ∷ ys) h = refl
apart_joined supers (x ∷ xs) [] h = refl
apart_joined supers (x ∷ xs) (y ∷ ys) h =
    elim (cases_Bool (is_operand (joined supers x y))) [
      | inl q ↦ let m : stacks_meet supers xs ys ≡ false = rw q at h in rw (q, apart_joined supers xs ys m) refl
      | inr q ↦ rw q refl
    ]

-- stacks that meet have one depth
pub meet_long : (supers : List (Option ℕ)) (xs ys : List FlowType) → stacks_meet supers xs ys ≡ true → length xs ≡ length ys
meet_long supers [] [] h = refl
meet_long supers [] (y ∷ ys) h = absurd cc
meet_long supers (x ∷ xs) [] h = absurd cc
meet_long supers (x ∷ xs) (y ∷ ys) h =
    elim (cases_Bool (is_operand (joined supers x y))) [
      | inl q ↦ let m : stacks_meet supers xs ys ≡ true = rw q at h in ap suc (meet_long supers xs ys m)
      | inr q ↦ let m : false ≡ true = rw q at h in absurd cc
    ]

-- a list of which the first i types are raised
abbrev pub raised : List (Option ℕ) → ℕ → List FlowType → List FlowType → List FlowType
raised supers i xs ys = types_joined supers (take i xs) (take i ys) ++ drop i xs

abbrev set_in : List (Option ℕ) → FlowType → List FlowType → ℕ → Option FlowType → List FlowType
set_in supers y zs i None = zs
set_in supers y zs i (Some t) = slice_set zs i (joined supers t y)

set_later : (supers : List (Option ℕ)) (y z : FlowType) (zs : List FlowType) (i : ℕ) (o : Option FlowType) → set_in supers y (z ∷ zs) (suc i) o ≡ z ∷ set_in supers y zs i o
set_later supers y z zs i None = refl
set_later supers y z zs i (Some t) = refl

set_is : (supers : List (Option ℕ)) (y : FlowType) (i : ℕ) (xs ys : List FlowType) → slice_get ys i ≡ Some y → set_in supers y (raised supers i xs ys) i (slice_get (raised supers i xs ys) i) ≡ raised supers (suc i) xs ys
set_is supers y i xs [] e = absurd cc
set_is supers y zero [] (z ∷ ys) e = refl
set_is supers y zero (x ∷ xs) (z ∷ ys) e = let q : z ≡ y = cc in rw q refl
set_is supers y (suc i) [] (z ∷ ys) e = refl
set_is supers y (suc i) (x ∷ xs) (z ∷ ys) e =
    set_later supers y (joined supers x z) (raised supers i xs ys) i (slice_get (raised supers i xs ys) i) ∙ ap (λ zs. joined supers x z ∷ zs) (set_is supers y i xs ys e)

chosen : (supers : List (Option ℕ)) (y : FlowType) (zs out : List FlowType) (i : ℕ) (o : Option FlowType) → MatchOption o (out ≡ zs) (λ t. out ≡ slice_set zs i (joined supers t y)) → out ≡ set_in supers y zs i o
chosen supers y zs out i None h = h
chosen supers y zs out i (Some t) h = h

-- one type more
pub raised_more : (supers : List (Option ℕ)) (y : FlowType) (i : ℕ) (xs ys zs out : List FlowType) → slice_get ys i ≡ Some y → zs ≡ raised supers i xs ys → MatchOption (slice_get zs i) (out ≡ zs) (λ t. out ≡ slice_set zs i (joined supers t y)) → out ≡ raised supers (suc i) xs ys
raised_more supers y i xs ys zs out e q h =
    chosen supers y zs out i (slice_get zs i) h ∙ (rw q (set_is supers y i xs ys e))

-- all of them
pub raised_all : (supers : List (Option ℕ)) (i : ℕ) (xs ys : List FlowType) → length xs ≡ length ys → length ys ≤ i → raised supers i xs ys ≡ types_joined supers xs ys
raised_all supers zero [] [] e l = refl
raised_all supers (suc i) [] [] e l = refl
raised_all supers i [] (y ∷ ys) e l = absurd (omega arith)
raised_all supers i (x ∷ xs) [] e l = absurd (omega arith)
raised_all supers zero (x ∷ xs) (y ∷ ys) e l = absurd (omega arith)
raised_all supers (suc i) (x ∷ xs) (y ∷ ys) e l = ap (λ zs. joined supers x y ∷ zs) (raised_all supers i xs ys (omega arith) (omega arith))
