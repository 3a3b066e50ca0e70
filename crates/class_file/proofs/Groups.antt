-- Numbers that are read one after the other, and tests of them: what they take, and where they are refused.
use Rattle.std.proofs.Common.{◌≡◌, ℕ, ◌+◌, ◌<◌, ◌^◌, Bool, true, false, cond, ltb, List, [], ◌∷◌, ◌++◌, length, take, Some, Result, Ok, Err, refl, sym, ap, subst, ◌∙◌, ◌⊎◌, inl, inr, append_assoc, length-append, arith}
use Rattle.std.proofs.lemmas.Bool.{ltb-false, ltb-true, lt-ltb}
use Rattle.std.proofs.lemmas.List.{length-drop}
use Rattle.std.specs.Int.{Width, w8, w16, w32, w64, byte_len, from_be_bytes, to_be_bytes}
use Rattle.jvm_base.proofs.Refusing.{bind_ok, bind_then, bind_err, fails_then, ok_is}
use Rattle.class_file.specs.declared.error.ClassErr.{ClassErr}
use Rattle.class_file.specs.declared.error.ClassErr.TheVariants as errors
use Rattle.class_format.specs.Meaning.{AreBytes}
use Rattle.class_file.specs.Reading.Words.{Place, after, ◌>>=◌, need, number_at}
use Rattle.class_file.specs.Stops.{IsShort, unmet, Behind, InField, is_short, is_bad}
use Rattle.class_file.proofs.ReadLaws.{at, Takes, takes_none, Takes-then, IsRead, IsWide, wide16, wide32, number_read}

-- ---- where reading is refused

-- a part is refused exactly so
pub record IsTold {X : Type 0} (read : Place → Result X ClassErr) (Stops : Place → ClassErr → Type 0) : Type 0 where
  pub says : (p : Place) (e : ClassErr) → AreBytes p.rest → read p ≡ Err e → Stops p e
  pub comes : (p : Place) (e : ClassErr) → Stops p e → read p ≡ Err e

-- the same of a part that reads alike
pub told_alike : {X : Type 0} (f g : Place → Result X ClassErr) (Stops : Place → ClassErr → Type 0) → ((p : Place) → f p ≡ g p) → IsTold g Stops → IsTold f Stops
told_alike f g Stops same told = record { says = λ p e fits h. told.says p e fits (sym (same p) ∙ h); comes = λ p e h. same p ∙ told.comes p e h }

pub read_alike : {X : Type 0} (f g : Place → Result (X × Place) ClassErr) (bytes : X → List ℕ) (Fits : X → Type 0) → ((p : Place) → f p ≡ g p) → IsRead g bytes Fits → IsRead f bytes Fits
read_alike f g bytes Fits same is = record { takes = λ p q x fits e. is.takes p q x fits (sym (same p) ∙ e); again = λ x t rest h. same (at t (bytes x ++ rest)) ∙ is.again x t rest h }

-- bytes that aren't there refuse, and nothing else does
pub guard_says : {A : Type 0} (n m : ℕ) (d e : ClassErr) (x : A) → cond (ltb n m) (Err d) (Ok x) ≡ Err e → (n < m) × (d ≡ e)
guard_says {A} n m d e x h =
    let cases : (b : Bool) → ltb n m ≡ b → cond b (Err d) (Ok x) ≡ Err e → (n < m) × (d ≡ e) = λ b. elim b as (λ b. ltb n m ≡ b → cond b (Err d) (Ok x) ≡ Err e → (n < m) × (d ≡ e)) [
      | true ↦ λ is k. (ltb-true n m is, cc)
      | false ↦ λ is k. absurd (let g = k in cc)
    ] in
    cases (ltb n m) refl h

pub guard_comes : {A : Type 0} (n m : ℕ) (d e : ClassErr) (x : A) → n < m → d ≡ e → cond (ltb n m) (Err d) (Ok x) ≡ Err e
guard_comes {A} n m d e x lt same = rw (lt-ltb n m lt, same) refl

pub number_told : (w : Width) → IsTold (number_at w) (IsShort (byte_len w))
number_told w = record {
  says = λ p e fits h. guard_says (length p.rest) (byte_len w) (errors.Cut p.total) e _ h;
  comes = λ p e h. guard_comes (length p.rest) (byte_len w) (errors.Cut p.total) e _ h.0 h.1;
}

-- what is refused behind bytes that were taken
pub behind_of : (p q : Place) (front : List ℕ) (Stops : Place → ClassErr → Type 0) (e : ClassErr) → Takes p front q → Stops q e → Behind front Stops p e
behind_of p q front Stops e took stops = record { rest = q.rest; parts = took.parts; stops = subst (λ (t : ℕ). Stops (at t q.rest) e) took.same_total stops }

-- too few bytes behind some are too few together
pub short_more : (n m : ℕ) (p q : Place) (front : List ℕ) (e : ClassErr) → length front ≡ n → Takes p front q → IsShort m q e → IsShort (n + m) p e
short_more n m p q front e long took h = (omega (arith, h.0, long, ap length took.parts, length-append front q.rest), ap errors.Cut (sym took.same_total) ∙ h.1)

-- too few bytes for a number and what follows refuse there or here
pub short_then : {B : Type 0} (w : Width) (m : ℕ) (p : Place) (e : ClassErr) (f : ℕ × Place → Result B ClassErr) → ((n : ℕ) (q : Place) → IsShort m q e → f (n, q) ≡ Err e) → IsShort (byte_len w + m) p e → (number_at w p >>= f) ≡ Err e
short_then {B} w m p e f later h =
    let k : ℕ = byte_len w in
    let cases : (b : Bool) → ltb (length p.rest) k ≡ b → (cond b (Err (errors.Cut p.total)) (Ok (from_be_bytes w (take k p.rest), after k p)) >>= f) ≡ Err e = λ b. elim b as (λ b. ltb (length p.rest) k ≡ b → (cond b (Err (errors.Cut p.total)) (Ok (from_be_bytes w (take k p.rest), after k p)) >>= f) ≡ Err e) [
      | true ↦ λ is. ap Err h.1
      | false ↦ λ is. later (from_be_bytes w (take k p.rest)) (after k p) (omega (arith, h.0, ltb-false (length p.rest) k is, length-drop k p.rest), h.1)
    ] in
    cases (ltb (length p.rest) k) refl

-- ---- groups of numbers

-- a group is read whole, or its bytes aren't all there
pub record IsGroup {A : Type 0} (read : Place → Result (A × Place) ClassErr) (size : ℕ) (bytes : A → List ℕ) (Fits : A → Type 0) : Type 0 where
  pub is : IsRead read bytes Fits
  pub told : IsTold read (IsShort size)

-- a number by itself
pub number_group : (w : Width) (limit : ℕ) → IsWide w limit → IsGroup (number_at w) (byte_len w) (to_be_bytes w) (λ n. n < limit)
number_group w limit wide = record { is = number_read w limit wide; told = number_told w }

-- a number of two bytes
pub number2_group : IsGroup (number_at w16) 2 (to_be_bytes w16) (λ n. n < 2 ^ 16)
number2_group = number_group w16 (2 ^ 16) wide16

-- a number of four bytes
pub number4_group : IsGroup (number_at w32) 4 (to_be_bytes w32) (λ n. n < 2 ^ 32)
number4_group = number_group w32 (2 ^ 32) wide32

-- how wide a number of a group is
pub record Size : Type 0 where
  pub width : Width
  pub limit : ℕ
  pub wide : IsWide width limit

abbrev pub two : Size
two = record { width = w16; limit = 2 ^ 16; wide = wide16 }

abbrev pub four : Size
four = record { width = w32; limit = 2 ^ 32; wide = wide32 }

abbrev pub Numbers : List Size → Type 0
Numbers [] = Unit {0}
Numbers (s ∷ sizes) = ℕ × Numbers sizes

abbrev pub numbers_bytes : (sizes : List Size) → Numbers sizes → List ℕ
numbers_bytes [] ns = []
numbers_bytes (s ∷ sizes) ns = to_be_bytes s.width ns.0 ++ numbers_bytes sizes ns.1

abbrev pub FitNumbers : (sizes : List Size) → Numbers sizes → Type 0
FitNumbers [] ns = Unit {0}
FitNumbers (s ∷ sizes) ns = (ns.0 < s.limit) × FitNumbers sizes ns.1

abbrev pub total_of : List Size → ℕ
total_of [] = 0
total_of (s ∷ sizes) = byte_len s.width + total_of sizes

-- the numbers one after the other, and what is made of them
abbrev pub numbers_at : {A : Type 0} (sizes : List Size) → (Numbers sizes → A) → Place → Result (A × Place) ClassErr
numbers_at [] make p = Ok (make tt, p)
numbers_at (s ∷ sizes) make p = number_at s.width p >>= λ n. numbers_at sizes (λ ns. make (n.0, ns)) n.1

numbers_take : {A : Type 0} (sizes : List Size) (make : Numbers sizes → A) (p q : Place) (a : A) → AreBytes p.rest → numbers_at sizes make p ≡ Ok (a, q) → (ns : Numbers sizes) × (make ns ≡ a) × FitNumbers sizes ns × Takes p (numbers_bytes sizes ns) q
numbers_take {A} [] make p q a fits e = let same : (make tt, p) ≡ (a, q) = ok_is (make tt, p) (a, q) e in (tt, ap (λ z. z.0) same, tt, subst (λ (r : Place). Takes p [] r) (ap (λ z. z.1) same) (takes_none p fits))
numbers_take {A} (s ∷ sizes) make p q a fits e =
    let n = bind_ok (number_at s.width p) (λ n. numbers_at sizes (λ ns. make (n.0, ns)) n.1) (a, q) e in
    let t = (number_read s.width s.limit s.wide).takes p n.0.1 n.0.0 fits n.1 in
    let more = numbers_take sizes (λ ns. make (n.0.0, ns)) n.0.1 q a t.0.rest_fits n.2 in
    ((n.0.0, more.0), more.1, (t.1, more.2), Takes-then p (to_be_bytes s.width n.0.0) n.0.1 (numbers_bytes sizes more.0) q t.0 more.3)

numbers_again : {A : Type 0} (sizes : List Size) (make : Numbers sizes → A) (ns : Numbers sizes) (t : ℕ) (rest : List ℕ) → FitNumbers sizes ns → numbers_at sizes make (at t (numbers_bytes sizes ns ++ rest)) ≡ Ok (make ns, at t rest)
numbers_again {A} [] make ns t rest fits = refl
numbers_again {A} (s ∷ sizes) make ns t rest fits =
    let behind : List ℕ = numbers_bytes sizes ns.1 ++ rest in
    ap (λ (bytes : List ℕ). numbers_at (s ∷ sizes) make (at t bytes)) (append_assoc (to_be_bytes s.width ns.0) (numbers_bytes sizes ns.1) rest)
    ∙ bind_then (number_at s.width (at t (to_be_bytes s.width ns.0 ++ behind))) (ns.0, at t behind) (λ n. numbers_at sizes (λ ms. make (n.0, ms)) n.1) (Ok (make ns, at t rest)) ((number_read s.width s.limit s.wide).again ns.0 t behind fits.0) (numbers_again sizes (λ ms. make (ns.0, ms)) ns.1 t rest fits.1)

numbers_say : {A : Type 0} (sizes : List Size) (make : Numbers sizes → A) (p : Place) (e : ClassErr) → AreBytes p.rest → numbers_at sizes make p ≡ Err e → IsShort (total_of sizes) p e
numbers_say {A} [] make p e fits h = absurd cc
numbers_say {A} (s ∷ sizes) make p e fits h =
    elim (bind_err (number_at s.width p) (λ n. numbers_at sizes (λ ns. make (n.0, ns)) n.1) e h) [
      | inl bad ↦ let short = (number_told s.width).says p e fits bad in (omega (arith, short.0), short.1)
      | inr n ↦
          let t = (number_read s.width s.limit s.wide).takes p n.0.1 n.0.0 fits n.1 in
          short_more (byte_len s.width) (total_of sizes) p n.0.1 (to_be_bytes s.width n.0.0) e (s.wide.len n.0.0) t.0 (numbers_say sizes (λ ns. make (n.0.0, ns)) n.0.1 e t.0.rest_fits n.2)
    ]

numbers_fail : {A : Type 0} (sizes : List Size) (make : Numbers sizes → A) (p : Place) (e : ClassErr) → IsShort (total_of sizes) p e → numbers_at sizes make p ≡ Err e
numbers_fail {A} [] make p e h = absurd (omega (arith, h.0))
numbers_fail {A} (s ∷ sizes) make p e h = short_then s.width (total_of sizes) p e (λ n. numbers_at sizes (λ ns. make (n.0, ns)) n.1) (λ n q short. numbers_fail sizes (λ ns. make (n, ns)) q e short) h

-- numbers and what is made of them are told by each other
module _ {A : Type 0} (sizes : List Size) (make : Numbers sizes → A) (parts : A → Numbers sizes) (same : (a : A) → make (parts a) ≡ a) (bytes : A → List ℕ) (Fits : A → Type 0)
    (spelled : (ns : Numbers sizes) → bytes (make ns) ≡ numbers_bytes sizes ns) (fit : (ns : Numbers sizes) → FitNumbers sizes ns → Fits (make ns)) (fits_of : (a : A) → Fits a → FitNumbers sizes (parts a)) where
  pub group_of : IsGroup (numbers_at sizes make) (total_of sizes) bytes Fits
  group_of = record {
    is = record {
      takes = λ p q a fits e.
          let t = numbers_take sizes make p q a fits e in
          subst (λ (b : A). Takes p (bytes b) q × Fits b) t.1 (subst (λ (text : List ℕ). Takes p text q) (sym (spelled t.0)) t.3, fit t.0 t.2);
      again = λ a t rest fits.
          let text : bytes a ≡ numbers_bytes sizes (parts a) = ap bytes (sym (same a)) ∙ spelled (parts a) in
          ap (λ (b : List ℕ). numbers_at sizes make (at t (b ++ rest))) text ∙ numbers_again sizes make (parts a) t rest (fits_of a fits) ∙ ap (λ (b : A). Ok (b, at t rest)) (same a);
    };
    told = record {
      says = λ p e fits h. numbers_say sizes make p e fits h;
      comes = λ p e h. numbers_fail sizes make p e h;
    };
  }

-- ---- tests

-- the tests one after the other
abbrev pub needs : {X : Type 0} → List (Bool × ClassErr) → Result X ClassErr → Result X ClassErr
needs [] r = r
needs (t ∷ tests) r = need t.0 t.1 >>= λ _. needs tests r

-- each of the tests holds
abbrev pub Met : List (Bool × ClassErr) → Type 0
Met [] = Unit {0}
Met (t ∷ tests) = (t.0 ≡ true) × Met tests

-- the first test that fails refuses, and where none does what follows
pub needs_says : {X : Type 0} (tests : List (Bool × ClassErr)) (r : Result X ClassErr) (e : ClassErr) → needs tests r ≡ Err e → (unmet tests ≡ Some e) ⊎ (Met tests × (r ≡ Err e))
needs_says {X} [] r e h = inr (tt, h)
needs_says {X} ((true, d) ∷ tests) r e h =
    elim (needs_says tests r e h) [
      | inl bad ↦ inl bad
      | inr good ↦ inr ((refl, good.0), good.1)
    ]
needs_says {X} ((false, d) ∷ tests) r e h = inl (let same : d ≡ e = cc in ap Some same)

pub needs_comes : {X : Type 0} (tests : List (Bool × ClassErr)) (r : Result X ClassErr) (e : ClassErr) → unmet tests ≡ Some e → needs tests r ≡ Err e
needs_comes {X} [] r e h = absurd (let k = h in cc)
needs_comes {X} ((true, d) ∷ tests) r e h = needs_comes tests r e h
needs_comes {X} ((false, d) ∷ tests) r e h = let same : d ≡ e = cc in ap Err same

pub needs_then : {X : Type 0} (tests : List (Bool × ClassErr)) (r y : Result X ClassErr) → Met tests → r ≡ y → needs tests r ≡ y
needs_then {X} [] r y met h = h
needs_then {X} ((true, d) ∷ tests) r y met h = needs_then tests r y met.1 h
needs_then {X} ((false, d) ∷ tests) r y met h = absurd (let k = met.0 in cc)

-- what was read passed each test
pub needs_ok : {X : Type 0} (tests : List (Bool × ClassErr)) (r : Result X ClassErr) (x : X) → needs tests r ≡ Ok x → Met tests × (r ≡ Ok x)
needs_ok {X} [] r x h = (tt, h)
needs_ok {X} ((true, d) ∷ tests) r x h = let more = needs_ok tests r x h in ((refl, more.0), more.1)
needs_ok {X} ((false, d) ∷ tests) r x h = absurd (let k = h in cc)

-- ---- steps inside steps

pub bind_flat : {A B C : Type 0} (r : Result A ClassErr) (f : A → Result B ClassErr) (g : B → Result C ClassErr) → ((r >>= f) >>= g) ≡ (r >>= λ x. f x >>= g)
bind_flat (Ok x) f g = refl
bind_flat (Err d) f g = refl

pub bind_same : {A B : Type 0} (r : Result A ClassErr) (f g : A → Result B ClassErr) → ((x : A) → f x ≡ g x) → (r >>= f) ≡ (r >>= g)
bind_same (Ok x) f g h = h x
bind_same (Err d) f g h = refl

pub needs_flat : {A B : Type 0} (tests : List (Bool × ClassErr)) (r : Result A ClassErr) (g : A → Result B ClassErr) → (needs tests r >>= g) ≡ needs tests (r >>= g)
needs_flat {A} {B} [] r g = refl
needs_flat {A} {B} ((true, d) ∷ tests) r g = needs_flat tests r g
needs_flat {A} {B} ((false, d) ∷ tests) r g = refl

-- ---- one part behind another

module _ {X B : Type 0} (read : Place → Result (X × Place) ClassErr) (bytes : X → List ℕ) (Fits : X → Type 0) (Stops : Place → ClassErr → Type 0) (is : IsRead read bytes Fits) (told : IsTold read Stops) where
  -- the part itself is refused, or what follows it
  pub seq_says : (f : X × Place → Result B ClassErr) (p : Place) (e : ClassErr) → AreBytes p.rest → (read p >>= f) ≡ Err e
      → Stops p e ⊎ ((x : X) × (q : Place) × Fits x × Takes p (bytes x) q × (f (x, q) ≡ Err e))
  seq_says f p e fits h =
      elim (bind_err (read p) f e h) [
        | inl bad ↦ inl (told.says p e fits bad)
        | inr x ↦ let t = is.takes p x.0.1 x.0.0 fits x.1 in inr (x.0.0, x.0.1, t.1, t.0, x.2)
      ]

-- what is refused behind a part that is spelled
pub seq_behind : {X B : Type 0} (read : Place → Result (X × Place) ClassErr) (bytes : X → List ℕ) (Fits : X → Type 0) (is : IsRead read bytes Fits)
    → (f : X × Place → Result B ClassErr) (Later : Place → ClassErr → Type 0) (x : X) (p : Place) (e : ClassErr) → Fits x → ((q : Place) → Later q e → f (x, q) ≡ Err e) → Behind (bytes x) Later p e → (read p >>= f) ≡ Err e
seq_behind {X} {B} read bytes Fits is f Later x p e fits comes b =
    ap (λ (r : List ℕ). read (at p.total r) >>= f) b.parts
    ∙ bind_then (read (at p.total (bytes x ++ b.rest))) (x, at p.total b.rest) f (Err e) (is.again x p.total b.rest fits) (comes (at p.total b.rest) b.stops)

-- ---- a group, and tests of it

module _ {A X : Type 0} (read : Place → Result (A × Place) ClassErr) (size : ℕ) (bytes : A → List ℕ) (Fits : A → Type 0) (group : IsGroup read size bytes Fits) (tests : Place → A → List (Bool × ClassErr)) (f : A × Place → Result X ClassErr) where
  -- the group isn't there whole, or one of its tests fails, or what follows is refused
  pub field_says : (p : Place) (e : ClassErr) → AreBytes p.rest → (read p >>= λ a. needs (tests p a.0) (f a)) ≡ Err e
      → InField size bytes Fits tests p e ⊎ ((a : A) × (q : Place) × Fits a × Takes p (bytes a) q × Met (tests p a) × (f (a, q) ≡ Err e))
  field_says p e fits h =
      elim (seq_says read bytes Fits (IsShort size) group.is group.told (λ a. needs (tests p a.0) (f a)) p e fits h) [
        | inl short ↦ inl (is_short short)
        | inr a ↦ elim (needs_says (tests p a.0) (f (a.0, a.1)) e a.4) [
          | inl bad ↦ inl (is_bad a.0 a.2 (behind_of p a.1 (bytes a.0) _ e a.3 bad))
          | inr good ↦ inr (a.0, a.1, a.2, a.3, good.0, good.1)
        ]
      ]

  pub field_then : (Later : Place → ClassErr → Type 0) (a : A) (p : Place) (e : ClassErr) → Fits a → Met (tests p a) → ((q : Place) → Later q e → f (a, q) ≡ Err e) → Behind (bytes a) Later p e → (read p >>= λ a. needs (tests p a.0) (f a)) ≡ Err e
  field_then Later a p e fits met comes b = seq_behind read bytes Fits group.is (λ a. needs (tests p a.0) (f a)) Later a p e fits (λ q h. needs_then (tests p a) (f (a, q)) (Err e) met (comes q h)) b

  pub field_comes : (p : Place) (e : ClassErr) → InField size bytes Fits tests p e → (read p >>= λ a. needs (tests p a.0) (f a)) ≡ Err e
  field_comes p e h =
      elim h [
        | is_short short ↦ fails_then (read p) _ e (group.told.comes p e short)
        | is_bad a fits b ↦ seq_behind read bytes Fits group.is (λ a. needs (tests p a.0) (f a)) _ a p e fits (λ q bad. needs_comes (tests p a) (f (a, q)) e bad) b
      ]

-- a group that is the last part
pub group_told : {A X : Type 0} (read : Place → Result (A × Place) ClassErr) (size : ℕ) (bytes : A → List ℕ) (Fits : A → Type 0) → IsGroup read size bytes Fits → (tests : Place → A → List (Bool × ClassErr)) (done : A × Place → X)
    → IsTold (λ p. read p >>= λ a. needs (tests p a.0) (Ok (done a))) (InField size bytes Fits tests)
group_told {A} {X} read size bytes Fits group tests done = record {
  says = λ p e fits h.
      elim (field_says read size bytes Fits group tests (λ a. Ok (done a)) p e fits h) [
        | inl bad ↦ bad
        | inr none ↦ absurd (let k = none.5 in cc)
      ];
  comes = λ p e h. field_comes read size bytes Fits group tests (λ a. Ok (done a)) p e h;
}

-- what is read of a group that passes its tests
pub group_read : {A : Type 0} (read : Place → Result (A × Place) ClassErr) (size : ℕ) (bytes : A → List ℕ) (Fits Passes : A → Type 0) → IsGroup read size bytes Fits → (tests : Place → A → List (Bool × ClassErr))
    → ((p : Place) (a : A) → Fits a → Met (tests p a) → Passes a) → ((p : Place) (a : A) → Passes a → Fits a × Met (tests p a)) → IsRead (λ p. read p >>= λ a. needs (tests p a.0) (Ok a)) bytes Passes
group_read {A} read size bytes Fits Passes group tests passes of = record {
  takes = λ p q a fits e.
      let x = bind_ok (read p) (λ a. needs (tests p a.0) (Ok a)) (a, q) e in
      let t = group.is.takes p x.0.1 x.0.0 fits x.1 in
      let m = needs_ok (tests p x.0.0) (Ok x.0) (a, q) x.2 in
      subst (λ (z : A × Place). Takes p (bytes z.0) z.1 × Passes z.0) (ok_is x.0 (a, q) m.1) (t.0, passes p x.0.0 t.1 m.0);
  again = λ a t rest pass.
      let start : Place = at t (bytes a ++ rest) in
      let k = of start a pass in
      bind_then (read start) (a, at t rest) (λ a. needs (tests start a.0) (Ok a)) _ (group.is.again a t rest k.0) (needs_then (tests start a) _ _ k.1 refl);
}
