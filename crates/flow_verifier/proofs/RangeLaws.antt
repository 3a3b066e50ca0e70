-- Places of one range are covered by the same handlers.
use Rattle.std.proofs.Common.{◌≡◌, ◌∙◌, sym, ap, subst, refl, ℕ, zero, suc, ◌+◌, ◌<◌, ◌≤◌, Bool, true, false, List, [], ◌∷◌, ◌++◌, length, slice_get, Some, inl, inr, arith}
use Rattle.std.specs.Prelude.{get_or, nat_lt, nat_le, not, ◌&&◌, ◌==◌}
use Rattle.std.specs.List.{list_any}
use Rattle.std.proofs.lemmas.Option.{slice_get-get_or}
use Rattle.std.proofs.lemmas.Bool.{cases_Bool}
use Rattle.std.proofs.lemmas.Bool.Decides.{nat_tests}
use Rattle.jvm_base.specs.Words.{from}
use Rattle.code_table.specs.declared.code.Placed.{Placed}
use Rattle.program_image.specs.Program.{Program}
use Rattle.flow_types.proofs.TreeLaws.{cases_lt}
use Rattle.flow_verifier.specs.declared.method.Handler.{Handler}
use Rattle.flow_verifier.specs.declared.method.Method.{Method}
use Rattle.flow_verifier.specs.declared.ranges.Ranges.{Ranges}
use Rattle.flow_verifier.specs.Methods.{ops_of, place_of, IsMethod, Rises}
use Rattle.flow_verifier.specs.Worklist.Ranges.{flag_at, covers_place, turns_at, flags_to, range_at, AreNumbered, AreRanges}

-- ---- flags, counted

-- one flag more is counted
pub flag_counts : (flags : List Bool) (n : ℕ) → flag_at flags n ≡ true → flags_to flags (suc n) ≡ suc (flags_to flags n)
flag_counts [] n e = absurd cc
flag_counts (b ∷ bs) zero e = rw e refl
flag_counts (b ∷ bs) (suc n) e = let h : flags_to bs (suc n) ≡ suc (flags_to bs n) = flag_counts bs n e in rw h (omega arith)

-- a place without a flag isn't
pub none_counts : (flags : List Bool) (n : ℕ) → flag_at flags n ≡ false → flags_to flags (suc n) ≡ flags_to flags n
none_counts [] zero e = refl
none_counts [] (suc n) e = refl
none_counts (b ∷ bs) zero e = rw e refl
none_counts (b ∷ bs) (suc n) e = let h : flags_to bs (suc n) ≡ flags_to bs n = none_counts bs n e in rw h refl

-- no more flags than places
pub few_flags : (flags : List Bool) (n : ℕ) → flags_to flags n ≤ n
few_flags flags zero = omega arith
few_flags [] (suc n) = omega arith
few_flags (true ∷ bs) (suc n) = let h : flags_to bs n ≤ n = few_flags bs n in omega arith
few_flags (false ∷ bs) (suc n) = let h : flags_to bs n ≤ n = few_flags bs n in omega arith

-- more places have no fewer flags
pub flags_rise : (flags : List Bool) (n m : ℕ) → n ≤ m → flags_to flags n ≤ flags_to flags m
flags_rise flags zero m l = omega arith
flags_rise flags (suc n) zero l = absurd (omega arith)
flags_rise [] (suc n) (suc m) l = omega arith
flags_rise (true ∷ bs) (suc n) (suc m) l = let h : flags_to bs n ≤ flags_to bs m = flags_rise bs n m (omega arith) in omega arith
flags_rise (false ∷ bs) (suc n) (suc m) l = let h : flags_to bs n ≤ flags_to bs m = flags_rise bs n m (omega arith) in omega arith

pub flag_is : (flags : List Bool) (n : ℕ) (d b : Bool) → n < length flags → get_or flags n d ≡ b → flag_at flags n ≡ b
flag_is flags n d b l e = ap (from false (λ z. z)) (slice_get-get_or flags n d l) ∙ e

-- places with one count have no flag between them
no_flag : (flags : List Bool) (i j k : ℕ) → flags_to flags (i + 1) ≡ flags_to flags (j + 1) → i < k → k ≤ j → flag_at flags k ≡ true → ⊥
no_flag flags i j k e l n f =
    let a : flags_to flags (suc k) ≡ suc (flags_to flags k) = flag_counts flags k f in
    let b : flags_to flags (i + 1) ≤ flags_to flags k = flags_rise flags (i + 1) k (omega arith) in
    let c : flags_to flags (suc k) ≤ flags_to flags (j + 1) = flags_rise flags (suc k) (j + 1) (omega arith) in
    absurd (omega arith)

-- ---- numbers of ranges

-- what is known of the numbers of the first n places
pub record AreFirst (flags : List Bool) (number : List ℕ) (n : ℕ) : Type 0 where
  pub long : length number ≡ n
  pub first : (i : ℕ) → i < n → from 0 (λ k. k) (slice_get number i) ≡ flags_to flags (i + 1)

get_end : (xs : List ℕ) (x i : ℕ) → i ≡ length xs → slice_get (xs ++ (x ∷ [])) i ≡ Some x
get_end [] x zero e = refl
get_end [] x (suc i) e = absurd (omega arith)
get_end (y ∷ ys) x zero e = absurd (omega arith)
get_end (y ∷ ys) x (suc i) e = get_end ys x i (omega arith)

get_left : (xs ys : List ℕ) (i : ℕ) → i < length xs → slice_get (xs ++ ys) i ≡ slice_get xs i
get_left [] ys i l = absurd (omega arith)
get_left (x ∷ xs) ys zero l = refl
get_left (x ∷ xs) ys (suc i) l = get_left xs ys i (omega arith)

length_end : (xs : List ℕ) (x : ℕ) → length (xs ++ (x ∷ [])) ≡ length xs + 1
length_end [] x = refl
length_end (y ∷ ys) x = let h : length (ys ++ (x ∷ [])) ≡ length ys + 1 = length_end ys x in omega arith

pub no_numbers : (flags : List Bool) (number : List ℕ) → number ≡ [] → AreFirst flags number 0
no_numbers flags number e = record { long = rw e refl; first = λ i l. absurd (omega arith) }

-- one number more
pub next_number : (flags : List Bool) (number new : List ℕ) (n last : ℕ) → AreFirst flags number n → last ≡ flags_to flags (n + 1) → new ≡ number ++ (last ∷ []) → AreFirst flags new (n + 1)
next_number flags number new n last h e f = record {
  long = ap length f ∙ length_end number last ∙ ap (λ z. z + 1) h.long;
  first = λ i l. elim (cases_lt i n) [
    | inl p ↦ let q : i < length number = (let w = h.long in omega arith) in rw f (rw (get_left number (last ∷ []) i q) (h.first i p))
    | inr p ↦ let q : i ≡ n = omega arith in let r : i ≡ length number = (let w = h.long in omega arith) in rw f (rw (get_end number last i r) (e ∙ ap (λ z. flags_to flags (z + 1)) (sym q)))
  ];
}

pub all_numbered : (flags : List Bool) (ranges : Ranges) (n last : ℕ) → n ≡ length flags → AreFirst flags ranges.number n → last ≡ flags_to flags n → ranges.count ≡ last + 1 → AreNumbered flags ranges
all_numbered flags ranges n last e h f g = record {
  long = h.long ∙ e;
  number = λ i l. h.first i (omega arith);
  within = λ i l.
      let a : flags_to flags (i + 1) ≤ flags_to flags n = flags_rise flags (i + 1) n (omega arith) in
      let b : range_at ranges i ≡ flags_to flags (i + 1) = h.first i (omega arith) in omega arith;
}

-- ---- handlers, by places

lt_suc : (i n : ℕ) → nat_lt (suc i) (suc n) ≡ nat_lt i n
lt_suc i n = elim (cases_lt i n) [
  | inl p ↦ let a : nat_lt (suc i) (suc n) ≡ true = grind (arith, nat_tests) in let b : nat_lt i n ≡ true = grind (arith, nat_tests) in a ∙ sym b
  | inr p ↦ let a : nat_lt (suc i) (suc n) ≡ false = grind (arith, nat_tests) in let b : nat_lt i n ≡ false = grind (arith, nat_tests) in a ∙ sym b
]

-- an instruction stands below an address where its place is below the address's place
below_place : (ops : List Placed) (at i : ℕ) (a : Placed) → Rises ops → slice_get ops i ≡ Some a → nat_lt a.at at ≡ nat_lt i (place_of ops at)
unfolding place_of
below_place [] at i a up e = absurd cc
below_place (o ∷ ops) at zero a up e =
    let f : o ≡ a = cc in
    elim (cases_Bool (nat_lt o.at at)) [
      | inl p ↦ let q : nat_lt a.at at ≡ true = subst (λ z. nat_lt z.at at ≡ true) f p in let r : nat_lt 0 (suc (place_of ops at)) ≡ true = grind (arith, nat_tests) in rw (q, p, r) refl
      | inr p ↦ let q : nat_lt a.at at ≡ false = subst (λ z. nat_lt z.at at ≡ false) f p in rw (q, p) refl
    ]
below_place (o ∷ ops) at (suc i) a up e =
    let l : o.at < a.at = up 0 (suc i) o a refl e (omega arith) in
    elim (cases_Bool (nat_lt o.at at)) [
      | inl p ↦ rw (p, lt_suc i (place_of ops at)) (below_place ops at i a (λ x y b c g h k. up (suc x) (suc y) b c g h (omega arith)) e)
      | inr p ↦ let q : nat_lt a.at at ≡ false = grind (arith, nat_tests) in let r : nat_lt (suc i) 0 ≡ false = grind (arith, nat_tests) in rw (p, q, r) refl
    ]

le_is : (a b : ℕ) → nat_le a b ≡ not (nat_lt b a)
le_is a b = elim (cases_Bool (nat_lt b a)) [
  | inl p ↦ let q : nat_le a b ≡ false = grind (arith, nat_tests) in rw (p, q) refl
  | inr p ↦ let q : nat_le a b ≡ true = grind (arith, nat_tests) in rw (p, q) refl
]

-- which places a handler covers
covers_by : (ops : List Placed) (i : ℕ) (a : Placed) (h : Handler) → Rises ops → slice_get ops i ≡ Some a → covers_place ops i h ≡ (not (nat_lt i (place_of ops h.start)) && nat_lt i (place_of ops h.until))
covers_by ops i a h up e = rw e (rw (le_is h.start a.at, below_place ops h.start i a up e, below_place ops h.until i a up e) refl)

-- a place that isn't between two is on the same side of both
same_side : (i j n : ℕ) → (i < n → n ≤ j → ⊥) → i < j → nat_lt i n ≡ nat_lt j n
same_side i j n h l = elim (cases_lt i n) [
  | inl p ↦ elim (cases_lt j n) [
    | inl q ↦ let a : nat_lt i n ≡ true = grind (arith, nat_tests) in let b : nat_lt j n ≡ true = grind (arith, nat_tests) in a ∙ sym b
    | inr q ↦ absurd (h p (omega arith))
  ]
  | inr p ↦ let a : nat_lt i n ≡ false = grind (arith, nat_tests) in let b : nat_lt j n ≡ false = grind (arith, nat_tests) in a ∙ sym b
]

pub there : (ops : List Placed) (i : ℕ) → i < length ops → (a : Placed) × (slice_get ops i ≡ Some a)
there [] i l = absurd (omega arith)
there (o ∷ ops) zero l = (o, refl)
there (o ∷ ops) (suc i) l = there ops i (omega arith)

any_here : (test : Handler → Bool) (hs : List Handler) (k : ℕ) (h : Handler) → slice_get hs k ≡ Some h → test h ≡ true → list_any test hs ≡ true
any_here test [] k h e t = absurd cc
any_here test (x ∷ xs) zero h e t = let f : x ≡ h = cc in let u : test x ≡ true = subst (λ z. test z ≡ true) (sym f) t in rw u refl
any_here test (x ∷ xs) (suc k) h e t = elim (cases_Bool (test x)) [
  | inl p ↦ rw p refl
  | inr p ↦ rw p (any_here test xs k h e t)
]

start_turns : (ops : List Placed) (h : Handler) → turns_at ops (place_of ops h.start) h ≡ true
start_turns ops h = let e : (place_of ops h.start == place_of ops h.start) ≡ true = grind (arith, nat_tests) in rw e refl

until_turns : (ops : List Placed) (h : Handler) → turns_at ops (place_of ops h.until) h ≡ true
until_turns ops h =
    let e : (place_of ops h.until == place_of ops h.until) ≡ true = grind (arith, nat_tests) in
    elim (cases_Bool (place_of ops h.start == place_of ops h.until)) [
      | inl p ↦ rw p refl
      | inr p ↦ rw (p, e) refl
    ]

module _ (p : Program) (m : Method) (im : IsMethod p m) (flags : List Bool) (ranges : Ranges) (long : length flags ≡ length (ops_of p m.number)) (turn : (i : ℕ) → i < length flags → flag_at flags i ≡ list_any (turns_at (ops_of p m.number) i) m.handlers) (numbers : AreNumbered flags ranges) where
  -- a place where a handler turns isn't between two of one range
  not_between : (i j n k : ℕ) (h : Handler) → j < length (ops_of p m.number) → range_at ranges i ≡ range_at ranges j → slice_get m.handlers k ≡ Some h → turns_at (ops_of p m.number) n h ≡ true → i < n → n ≤ j → ⊥
  not_between i j n k h l e g t a b =
      no_flag flags i j n (sym (numbers.number i (omega arith)) ∙ e ∙ numbers.number j (omega arith)) a b
      (turn n (omega arith) ∙ any_here (turns_at (ops_of p m.number) n) m.handlers k h g t)

  alike_up : (i j k : ℕ) (h : Handler) → i < j → j < length (ops_of p m.number) → range_at ranges i ≡ range_at ranges j → slice_get m.handlers k ≡ Some h → covers_place (ops_of p m.number) i h ≡ covers_place (ops_of p m.number) j h
  alike_up i j k h l n e g =
      let (a, x) = there (ops_of p m.number) i (omega arith) in
      let (b, y) = there (ops_of p m.number) j n in
      let s : nat_lt i (place_of (ops_of p m.number) h.start) ≡ nat_lt j (place_of (ops_of p m.number) h.start) = same_side i j _ (not_between i j (place_of (ops_of p m.number) h.start) k h n e g (start_turns (ops_of p m.number) h)) l in
      let u : nat_lt i (place_of (ops_of p m.number) h.until) ≡ nat_lt j (place_of (ops_of p m.number) h.until) = same_side i j _ (not_between i j (place_of (ops_of p m.number) h.until) k h n e g (until_turns (ops_of p m.number) h)) l in
      covers_by (ops_of p m.number) i a h im.rising x
      ∙ ap (λ z. not z && nat_lt i (place_of (ops_of p m.number) h.until)) s
      ∙ ap (λ z. not (nat_lt j (place_of (ops_of p m.number) h.start)) && z) u
      ∙ sym (covers_by (ops_of p m.number) j b h im.rising y)

  -- ranges by flags where handlers turn
  pub by_turns : AreRanges p m ranges
  by_turns = record {
    long = numbers.long ∙ long;
    within = λ i l. numbers.within i (omega arith);
    alike = λ i j k h a b e g. elim (cases_lt i j) [
      | inl l ↦ alike_up i j k h l b e g
      | inr l ↦ elim (cases_lt j i) [
        | inl n ↦ sym (alike_up j i k h n a (sym e) g)
        | inr n ↦ let q : i ≡ j = omega arith in ap (λ z. covers_place (ops_of p m.number) z h) q
      ]
    ];
  }
