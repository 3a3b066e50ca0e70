-- A text that is read is the text that was written.
use Rattle.std.proofs.Common.{◌≡◌, ℕ, zero, suc, ◌+◌, ◌/◌, ◌%◌, ◌<◌, ◌≤◌, ◌^◌, Bool, true, false, cond, nat_lt, List, [], ◌∷◌, ◌++◌, length, Option, Some, None, refl, sym, ap, subst, ◌∙◌, arith}
use Rattle.std.specs.Prelude.{option_map}
use Rattle.std.proofs.lemmas.List.Concat.{flat_map-cons}
use Rattle.std.proofs.lemmas.Bool.Decides.{nat_tests}
use Rattle.jvm_base.specs.Text.{is_one, is_two, is_three, two, three, unit_bytes, text_bytes, units_of, unit_at}
use Rattle.jvm_base.specs.Units.{AreUnits}
use Rattle.jvm_base.proofs.Readers.{IsReader}
use Rattle.jvm_base.proofs.TextLoop.{IsFirst, first_is}
use Rattle.jvm_base.proofs.UnitParts.{two_parts, three_parts, two_again, three_again}

some_is : (x y : ℕ × List ℕ) → Some x ≡ Some y → x ≡ y
some_is x y e = cc

-- ---- one unit

pub record IsUnit (bytes : List ℕ) (u : ℕ) (rest : List ℕ) : Type 0 where
  pub parts : bytes ≡ unit_bytes u ++ rest
  pub fits : u < 2 ^ 16

is_unit-one : (a : ℕ) (rest : List ℕ) → is_one a ≡ true → IsUnit (a ∷ rest) a rest
is_unit-one a rest h = record { parts = rw h refl; fits = grind (arith, nat_tests) }

is_unit-two : (a b : ℕ) (rest : List ℕ) → is_two a b ≡ true → IsUnit (a ∷ b ∷ rest) (two a b) rest
is_unit-two a b rest h =
    let t = two_parts a b h in
    record { parts = rw (t.not_one, t.small, t.first, t.second) refl; fits = grind (arith, nat_tests) }

is_unit-three : (a b c : ℕ) (rest : List ℕ) → is_three a b c ≡ true → IsUnit (a ∷ b ∷ c ∷ rest) (three a b c) rest
is_unit-three a b c rest h =
    let t = three_parts a b c h in
    record { parts = rw (t.not_one, t.large, t.first, t.second, t.third) refl; fits = t.fits }

moved : (bytes : List ℕ) (x y : ℕ × List ℕ) → Some x ≡ Some y → IsUnit bytes x.0 x.1 → IsUnit bytes y.0 y.1
moved bytes x y e h = subst (λ (z : ℕ × List ℕ). IsUnit bytes z.0 z.1) (some_is x y e) h

-- the last choice of a unit's bytes, taken or not
last_choice : (bytes : List ℕ) (b : Bool) (y x : ℕ × List ℕ) → (b ≡ true → IsUnit bytes y.0 y.1) → cond b (Some y) None ≡ Some x → IsUnit bytes x.0 x.1
last_choice bytes true y x h e = moved bytes y x e (h refl)
last_choice bytes false y x h e = absurd cc

choice : (bytes : List ℕ) (b : Bool) (y x : ℕ × List ℕ) (other : Option (ℕ × List ℕ)) → (b ≡ true → IsUnit bytes y.0 y.1) → (other ≡ Some x → IsUnit bytes x.0 x.1) → cond b (Some y) other ≡ Some x → IsUnit bytes x.0 x.1
choice bytes true y x other h k e = moved bytes y x e (h refl)
choice bytes false y x other h k e = k e

pub unit_takes : (bytes : List ℕ) (x : ℕ × List ℕ) → unit_at bytes ≡ Some x → IsUnit bytes x.0 x.1
unfolding unit_at
unit_takes [] x e = absurd cc
unit_takes (a ∷ []) x e = last_choice (a ∷ []) (is_one a) (a, []) x (is_unit-one a []) e
unit_takes (a ∷ b ∷ []) x e =
    choice (a ∷ b ∷ []) (is_one a) (a, b ∷ []) x _ (is_unit-one a (b ∷ []))
    (last_choice (a ∷ b ∷ []) (is_two a b) (two a b, []) x (is_unit-two a b [])) e
unit_takes (a ∷ b ∷ c ∷ bytes) x e =
    choice (a ∷ b ∷ c ∷ bytes) (is_one a) (a, b ∷ c ∷ bytes) x _ (is_unit-one a (b ∷ c ∷ bytes))
    (choice (a ∷ b ∷ c ∷ bytes) (is_two a b) (two a b, c ∷ bytes) x _ (is_unit-two a b (c ∷ bytes))
    (last_choice (a ∷ b ∷ c ∷ bytes) (is_three a b c) (three a b c, bytes) x (is_unit-three a b c bytes))) e

at_one : (a : ℕ) (rest : List ℕ) → is_one a ≡ true → unit_at (a ∷ rest) ≡ Some (a, rest)
unfolding unit_at
at_one a [] h = rw h refl
at_one a (b ∷ []) h = rw h refl
at_one a (b ∷ c ∷ rest) h = rw h refl

at_two : (a b : ℕ) (rest : List ℕ) → is_one a ≡ false → is_two a b ≡ true → unit_at (a ∷ b ∷ rest) ≡ Some (two a b, rest)
unfolding unit_at
at_two a b [] g h = rw (g, h) refl
at_two a b (c ∷ rest) g h = rw (g, h) refl

at_three : (a b c : ℕ) (rest : List ℕ) → is_one a ≡ false → is_two a b ≡ false → is_three a b c ≡ true → unit_at (a ∷ b ∷ c ∷ rest) ≡ Some (three a b c, rest)
unfolding unit_at
at_three a b c rest g f h = rw (g, f, h) refl

pub unit_again : (u : ℕ) (rest : List ℕ) → u < 2 ^ 16 → unit_at (unit_bytes u ++ rest) ≡ Some (u, rest)
unit_again u rest lt =
    let P : Bool → Bool → Type 0 = λ b s. unit_at (cond b (u ∷ []) (cond s ((192 + u / 64) ∷ (128 + u % 64) ∷ []) ((224 + u / 4096) ∷ (128 + u / 64 % 64) ∷ (128 + u % 64) ∷ [])) ++ rest) ≡ Some (u, rest) in
    let cases : (b s : Bool) → is_one u ≡ b → nat_lt u 2048 ≡ s → P b s = λ b. elim b as (λ b. (s : Bool) → is_one u ≡ b → nat_lt u 2048 ≡ s → P b s) [
      | true ↦ λ s h k. at_one u rest h
      | false ↦ λ s. elim s as (λ s. is_one u ≡ false → nat_lt u 2048 ≡ s → P false s) [
        | true ↦ λ h k. let t = two_again u h k in at_two (192 + u / 64) (128 + u % 64) rest t.not_one t.is_two ∙ ap (λ v. Some (v, rest)) t.value
        | false ↦ λ h k. let t = three_again u k lt in at_three (224 + u / 4096) (128 + u / 64 % 64) (128 + u % 64) rest t.not_one t.not_two t.is_three ∙ ap (λ v. Some (v, rest)) t.value
      ]
    ] in
    cases (is_one u) (nat_lt u 2048) refl refl

-- ---- texts

pub record IsTextOf (bytes us : List ℕ) : Type 0 where
  pub is : bytes ≡ text_bytes us
  pub fits : AreUnits us

list_is : (x y : List ℕ) → Some x ≡ Some y → x ≡ y
list_is x y e = cc

empty_text : (us : List ℕ) → units_of [] ≡ Some us → IsTextOf [] us
unfolding units_of
empty_text us e = subst (λ (z : List ℕ). IsTextOf [] z) (list_is [] us e) (record { is = refl; fits = tt })

units_take : (n : ℕ) (bytes us : List ℕ) → length bytes ≤ n → units_of bytes ≡ Some us → IsTextOf bytes us
units_take n [] us le e = empty_text us e
units_take zero (b ∷ bytes) us le e = absurd (omega arith)
units_take (suc n) (b ∷ bytes) us le e =
    let first = first_is (b ∷ bytes) (omega arith) in
    let P : Option (ℕ × List ℕ) → Type 0 = λ o. unit_at (b ∷ bytes) ≡ o → IsFirst (b ∷ bytes) (units_of (b ∷ bytes)) o → IsTextOf (b ∷ bytes) us in
    let rest_of : (x : ℕ × List ℕ) (all : Option (List ℕ)) → units_of x.1 ≡ all → IsUnit (b ∷ bytes) x.0 x.1 → length x.1 < length (b ∷ bytes) → option_map (λ us. x.0 ∷ us) all ≡ Some us → IsTextOf (b ∷ bytes) us = λ x all. elim all as (λ all. units_of x.1 ≡ all → IsUnit (b ∷ bytes) x.0 x.1 → length x.1 < length (b ∷ bytes) → option_map (λ us. x.0 ∷ us) all ≡ Some us → IsTextOf (b ∷ bytes) us) [
      | None ↦ λ q unit lt k. absurd cc
      | Some vs ↦ λ q unit lt k.
          let t = units_take n x.1 vs (omega arith) q in
          subst (λ (z : List ℕ). IsTextOf (b ∷ bytes) z) (list_is (x.0 ∷ vs) us k) (record { is = unit.parts ∙ ap (λ (z : List ℕ). unit_bytes x.0 ++ z) t.is ∙ sym (flat_map-cons unit_bytes x.0 vs); fits = (unit.fits, t.fits) })
    ] in
    let cases : (o : Option (ℕ × List ℕ)) → P o = λ o. elim o as P [
      | None ↦ λ is none. let k : None ≡ Some us = sym none ∙ e in absurd cc
      | Some x ↦ λ is step. rest_of x (units_of x.1) refl (unit_takes (b ∷ bytes) x is) step.shorter (sym step.units ∙ e)
    ] in
    cases (unit_at (b ∷ bytes)) refl first

nonempty : (u : ℕ) (rest : List ℕ) → 0 < length (unit_bytes u ++ rest)
nonempty u rest = elim (is_one u) as (λ b. 0 < length (cond b (u ∷ []) (cond (nat_lt u 2048) ((192 + u / 64) ∷ (128 + u % 64) ∷ []) ((224 + u / 4096) ∷ (128 + u / 64 % 64) ∷ (128 + u % 64) ∷ [])) ++ rest)) [
  | true ↦ omega arith
  | false ↦ elim (nat_lt u 2048) as (λ b. 0 < length (cond b ((192 + u / 64) ∷ (128 + u % 64) ∷ []) ((224 + u / 4096) ∷ (128 + u / 64 % 64) ∷ (128 + u % 64) ∷ []) ++ rest)) [
    | true ↦ omega arith
    | false ↦ omega arith
  ]
]

units_again : (us : List ℕ) → AreUnits us → units_of (text_bytes us) ≡ Some us
unfolding units_of
units_again [] h = refl
units_again (u ∷ us) h =
    let bytes : List ℕ = unit_bytes u ++ text_bytes us in
    let first : IsFirst bytes (units_of bytes) (Some (u, text_bytes us)) = subst (λ (o : Option (ℕ × List ℕ)). IsFirst bytes (units_of bytes) o) (unit_again u (text_bytes us) h.0) (first_is bytes (nonempty u (text_bytes us))) in
    ap units_of (flat_map-cons unit_bytes u us) ∙ first.units ∙ ap (option_map (λ us. u ∷ us)) (units_again us h.1)

pub text_reader : IsReader units_of text_bytes AreUnits
text_reader = record {
  takes = λ bytes us e. let t = units_take (length bytes) bytes us (omega arith) e in (t.fits, t.is);
  again = units_again;
}
