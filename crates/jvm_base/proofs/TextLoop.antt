-- The loop over the bytes of a text.
use Rattle.std.proofs.Common.{◌≡◌, ℕ, ◌<◌, Bool, true, false, cond, List, [], ◌∷◌, ◌++◌, length, Option, Some, None, refl, ap, subst, sym, ◌∙◌, append_assoc, arith}
use Rattle.std.specs.Prelude.{option_map}
use Rattle.std.proofs.lemmas.List.{append-nil}
use Rattle.jvm_base.specs.Text.{units_of, unit_at, is_one, is_two, is_three, two, three}

-- the units so far and those of the rest
abbrev pub with_units : List ℕ → Option (List ℕ) → Option (List ℕ)
with_units front rest = option_map (λ us. front ++ us) rest

with_units-unit : (front : List ℕ) (u : ℕ) (rest : Option (List ℕ)) → with_units front (option_map (λ us. u ∷ us) rest) ≡ with_units (front ++ u ∷ []) rest
with_units-unit front u None = refl
with_units-unit front u (Some us) = ap Some (sym (append_assoc front (u ∷ []) us))

-- what a first unit and its rest say of the bytes
pub record IsStep (bytes : List ℕ) (all : Option (List ℕ)) (u : ℕ) (rest : List ℕ) : Type 0 where
  pub units : all ≡ option_map (λ us. u ∷ us) (units_of rest)
  pub shorter : length rest < length bytes

abbrev pub IsFirst : List ℕ → Option (List ℕ) → Option (ℕ × List ℕ) → Type 0
IsFirst bytes all None = all ≡ None
IsFirst bytes all (Some x) = IsStep bytes all x.0 x.1

chosen : (bytes rest : List ℕ) (u : ℕ) (b : Bool) (all : Option (List ℕ)) (first : Option (ℕ × List ℕ)) → length rest < length bytes → IsFirst bytes all first → IsFirst bytes (cond b (option_map (λ us. u ∷ us) (units_of rest)) all) (cond b (Some (u, rest)) first)
chosen bytes rest u true all first lt h = record { units = refl; shorter = lt }
chosen bytes rest u false all first lt h = h

pub first_is : (bytes : List ℕ) → 0 < length bytes → IsFirst bytes (units_of bytes) (unit_at bytes)
unfolding units_of unit_at
first_is [] lt = absurd (omega arith)
first_is (a ∷ []) lt = chosen (a ∷ []) [] a (is_one a) None None (omega arith) refl
first_is (a ∷ b ∷ []) lt =
    chosen (a ∷ b ∷ []) (b ∷ []) a (is_one a) _ _ (omega arith)
    (chosen (a ∷ b ∷ []) [] (two a b) (is_two a b) None None (omega arith) refl)
first_is (a ∷ b ∷ c ∷ bytes) lt =
    chosen (a ∷ b ∷ c ∷ bytes) (b ∷ c ∷ bytes) a (is_one a) _ _ (omega arith)
    (chosen (a ∷ b ∷ c ∷ bytes) (c ∷ bytes) (two a b) (is_two a b) _ _ (omega arith)
    (chosen (a ∷ b ∷ c ∷ bytes) bytes (three a b c) (is_three a b c) None None (omega arith) refl))

pub first_as : (bytes : List ℕ) (first : Option (ℕ × List ℕ)) → 0 < length bytes → first ≡ unit_at bytes → IsFirst bytes (units_of bytes) first
first_as bytes first lt e = subst (λ (o : Option (ℕ × List ℕ)). IsFirst bytes (units_of bytes) o) (sym e) (first_is bytes lt)

pub falls : (bytes rest : List ℕ) (u : ℕ) → 0 < length bytes → Some (u, rest) ≡ unit_at bytes → length rest < length bytes
falls bytes rest u lt e = let h : IsStep bytes (units_of bytes) u rest = first_as bytes (Some (u, rest)) lt e in h.shorter

pub goes_on : (front bytes rest : List ℕ) (u : ℕ) (total : Option (List ℕ)) → 0 < length bytes → Some (u, rest) ≡ unit_at bytes → with_units front (units_of bytes) ≡ total → with_units (front ++ u ∷ []) (units_of rest) ≡ total
goes_on front bytes rest u total lt e so_far =
    let h : IsStep bytes (units_of bytes) u rest = first_as bytes (Some (u, rest)) lt e in
    sym (ap (with_units front) h.units ∙ with_units-unit front u (units_of rest)) ∙ so_far

pub stops : (front bytes : List ℕ) (total : Option (List ℕ)) → 0 < length bytes → None ≡ unit_at bytes → with_units front (units_of bytes) ≡ total → total ≡ None
stops front bytes total lt e so_far =
    let h : units_of bytes ≡ None = first_as bytes None lt e in
    sym so_far ∙ ap (with_units front) h

pub is_done : (front bytes : List ℕ) (total : Option (List ℕ)) → length bytes ≡ 0 → with_units front (units_of bytes) ≡ total → total ≡ Some front
unfolding units_of
is_done front [] total e so_far = sym so_far ∙ ap Some (append-nil front)
is_done front (b ∷ bytes) total e so_far = absurd (omega arith)
