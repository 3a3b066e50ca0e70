-- Laws of the tree of superclasses.
use Rattle.std.proofs.Common.{◌≡◌, sym, ap, subst, refl, ℕ, zero, suc, ◌+◌, ◌<◌, ◌≤◌, Bool, true, false, if◌then◌else◌, List, length, Option, Some, None, ◌⊎◌, inl, inr, arith}
use Rattle.std.proofs.lemmas.Bool.{cases_Bool}
use Rattle.std.proofs.lemmas.Bool.Decides.{eqb_tells, nat_tests}
use Rattle.std.proofs.lemmas.Option.{slice_get_past}
use Rattle.std.specs.Prelude.{◌==◌, nat_lt}
use Rattle.flow_types.specs.TypeRank.{steps_up, depth}
use Rattle.flow_types.specs.Tree.{flat, superclass, above, is_below, first_common, Up, IsTree}

pub above-step : (supers : List (Option ℕ)) (m n low high up : ℕ) → m ≡ suc n → (low == high) ≡ false → superclass supers low ≡ Some up → above m supers low high ≡ above n supers up high
above-step supers m n low high up e t s = rw (e, t, s) refl

pub common-step : (supers : List (Option ℕ)) (m n a b up : ℕ) → m ≡ suc n → is_below supers b a ≡ false → superclass supers a ≡ Some up → first_common m supers a b ≡ first_common n supers up b
common-step supers m n a b up e t s = rw (e, t, s) refl

-- a superclass, over any number of steps
abbrev pub Above : List (Option ℕ) → ℕ → ℕ → Type 0
Above supers low high = (n : ℕ) × Up supers n low high

chosen : (t x : Bool) → x ≡ true → (if t then true else x) ≡ true
chosen true x h = refl
chosen false x h = h

above-from : (supers : List (Option ℕ)) (k n a b : ℕ) → Up supers k a b → k < n → above n supers a b ≡ true
above-from supers zero zero a b p lt = absurd (omega arith)
above-from supers zero (suc n) a b p lt = elim (eqb_tells a b) [ inl q ↦ rw (q.0) refl | inr q ↦ absurd (q.1 p) ]
above-from supers (suc k) zero a b p lt = absurd (omega arith)
above-from supers (suc k) (suc n) a b (d, p, r) lt =
    let h : above n supers d b ≡ true = above-from supers k n d b r (omega arith) in
    chosen (a == b) _ (rw p h)

next-to : (supers : List (Option ℕ)) (n a b : ℕ) → ((d : ℕ) → above n supers d b ≡ true → (k : ℕ) × (k < n) × Up supers k d b) → (s : Option ℕ) → superclass supers a ≡ s → (elim s as (λ _. Bool) [ None ↦ false | Some up ↦ above n supers up b ]) ≡ true → (k : ℕ) × (k < suc n) × Up supers k a b
next-to supers n a b again None e h = absurd cc
next-to supers n a b again (Some d) e h = let (k, lt, p) = again d h in (suc k, omega arith, (d, e, p))

above-to : (supers : List (Option ℕ)) (n a b : ℕ) → above n supers a b ≡ true → (k : ℕ) × (k < n) × Up supers k a b
above-to supers zero a b h = absurd cc
above-to supers (suc n) a b h =
    elim (eqb_tells a b) [
      | inl p ↦ (zero, omega arith, p.1)
      | inr q ↦ next-to supers n a b (λ d. above-to supers n d b) (superclass supers a) refl (rw (q.0) at h)
    ]

pub Above-trans : (supers : List (Option ℕ)) (n a b c : ℕ) → Up supers n a b → Above supers b c → Above supers a c
Above-trans supers zero a b c p q = subst (λ x. Above supers x c) (sym p) q
Above-trans supers (suc n) a b c (d, p, r) q = let (k, u) = Above-trans supers n d b c r q in (suc k, (d, p, u))

pub cases_lt : (a b : ℕ) → (a < b) ⊎ (b ≤ a)
cases_lt a b = elim (cases_Bool (nat_lt a b)) [ inl h ↦ inl (grind (arith, nat_tests)) | inr h ↦ inr (grind (arith, nat_tests)) ]

pub within : (supers : List (Option ℕ)) (a d : ℕ) → superclass supers a ≡ Some d → a < length supers
within supers a d e =
    elim (cases_lt a (length supers)) [ inl h ↦ h | inr h ↦ let g : superclass supers a ≡ None = ap flat (slice_get_past supers a h) in absurd cc ]

-- what is left of the way to the root
split : (supers : List (Option ℕ)) → superclass supers 0 ≡ None → (k n a b : ℕ) → Up supers k a b → Up supers n a 0 → (m : ℕ) × (k + m ≡ n) × Up supers m b 0
split supers root zero n a b p q = (n, omega arith, subst (λ x. Up supers n x 0) p q)
split supers root (suc k) zero a b (d, p, r) q = let e : superclass supers a ≡ None = rw q root in absurd cc
split supers root (suc k) (suc n) a b (d, p, r) (e, q, s) =
    let g : e ≡ d = cc in
    let (m, eq, u) = split supers root k n d b r (subst (λ x. Up supers n x 0) g s) in (m, omega arith, u)

at-root : (supers : List (Option ℕ)) → superclass supers 0 ≡ None → (m : ℕ) → Up supers m 0 0 → m ≡ 0
at-root supers root zero u = refl
at-root supers root (suc m) (d, p, r) = absurd cc

pub steps-is : (supers : List (Option ℕ)) → superclass supers 0 ≡ None → (n fuel c : ℕ) → Up supers n c 0 → n < fuel → steps_up fuel supers c ≡ n
steps-is supers root n zero c u lt = absurd (omega arith)
steps-is supers root zero (suc fuel) c u lt = let e : superclass supers c ≡ None = rw u root in rw (e, steps_up) refl
steps-is supers root (suc n) (suc fuel) c (d, p, r) lt = rw (p, steps_up) (ap suc (steps-is supers root n fuel d r (omega arith)))

next-few : (supers : List (Option ℕ)) (fuel : ℕ) → ((d : ℕ) → steps_up fuel supers d ≤ fuel) → (s : Option ℕ) → (elim s as (λ _. ℕ) [ None ↦ 0 | Some up ↦ suc (steps_up fuel supers up) ]) ≤ suc fuel
next-few supers fuel h None = omega arith
next-few supers fuel h (Some d) = let e : steps_up fuel supers d ≤ fuel = h d in omega arith

steps-few : (supers : List (Option ℕ)) (fuel c : ℕ) → steps_up fuel supers c ≤ fuel
steps-few supers zero c = omega arith
steps-few supers (suc fuel) c = next-few supers fuel (λ d. steps-few supers fuel d) (superclass supers c)

module _ (supers : List (Option ℕ)) (tree : IsTree supers) where
  pub below-to : (a b : ℕ) → is_below supers a b ≡ true → Above supers a b
  below-to a b h = let (k, lt, u) = above-to supers (length supers) a b h in (k, u)

  pub up-short : (k a b : ℕ) → Up supers k a b → k < length supers
  up-short zero a b u = tree.some
  up-short (suc k) a b (d, p, r) =
      let (n, lt, u) = tree.reached a (within supers a d p) in let (m, eq, v) = split supers tree.root (suc k) n a b (d, p, r) u in omega arith

  pub below-from : (k a b : ℕ) → Up supers k a b → is_below supers a b ≡ true
  below-from k a b u = above-from supers k (length supers) a b u (up-short k a b u)

  pub below-refl : (a : ℕ) → is_below supers a a ≡ true
  below-refl a = below-from zero a a refl

  pub below-trans : (a b c : ℕ) → is_below supers a b ≡ true → is_below supers b c ≡ true → is_below supers a c ≡ true
  below-trans a b c p q =
      let (n, u) = below-to a b p in let (k, v) = Above-trans supers n a b c u (below-to b c q) in below-from k a c v

  no-loop : (k j a b : ℕ) → Up supers k a b → Up supers j b a → a ≡ b
  no-loop zero j a b u v = u
  no-loop (suc k) j a b (d, p, r) v =
      let (n, lt, u) = tree.reached a (within supers a d p) in let (m, e1, w) = split supers tree.root (suc k) n a b (d, p, r) u in let (i, e2, x) = split supers tree.root j m b a v w in let (o, e3, y) = split supers tree.root i n a 0 x u in let z : o ≡ 0 = at-root supers tree.root o y in absurd (omega arith)

  pub below-antisym : (a b : ℕ) → is_below supers a b ≡ true → is_below supers b a ≡ true → a ≡ b
  below-antisym a b p q = let (k, u) = below-to a b p in let (j, v) = below-to b a q in no-loop k j a b u v

  pub below-root : (a : ℕ) → a < length supers → is_below supers a 0 ≡ true
  below-root a h = let (n, lt, u) = tree.reached a h in below-from n a 0 u

  -- what reaches the root is a class
  reaches : (m b : ℕ) → Up supers m b 0 → b < length supers
  reaches zero b u = let h : 0 < length supers = tree.some in rw u h
  reaches (suc m) b (d, p, r) = within supers b d p

  -- n steps lead from a to the root
  left : (b : ℕ) → b < length supers → (fuel n a : ℕ) → Up supers n a 0 → n < fuel → Above supers a (first_common fuel supers a b)
  left b inside zero n a u lt = absurd (omega arith)
  left b inside (suc fuel) zero a u lt =
      let h : is_below supers b a ≡ true = rw u (below-root b inside) in rw h (zero, refl)
  left b inside (suc fuel) (suc n) a (d, p, r) lt =
      elim (cases_Bool (is_below supers b a)) [
        | inl h ↦ rw h (zero, refl)
        | inr h ↦ rw (h, p) (let (k, v) = left b inside fuel n d r (omega arith) in (suc k, (d, p, v)))
      ]

  right : (b : ℕ) → b < length supers → (fuel n a : ℕ) → Up supers n a 0 → n < fuel → is_below supers b (first_common fuel supers a b) ≡ true
  right b inside zero n a u lt = absurd (omega arith)
  right b inside (suc fuel) zero a u lt =
      let h : is_below supers b a ≡ true = rw u (below-root b inside) in rw h h
  right b inside (suc fuel) (suc n) a (d, p, r) lt =
      elim (cases_Bool (is_below supers b a)) [
        | inl h ↦ rw h h
        | inr h ↦ rw (h, p) (right b inside fuel n d r (omega arith))
      ]

  least : (b u : ℕ) → is_below supers b u ≡ true → (fuel k a : ℕ) → Up supers k a u → k < fuel → Above supers (first_common fuel supers a b) u
  least b u q zero k a p lt = absurd (omega arith)
  least b u q (suc fuel) zero a p lt =
      let h : is_below supers b a ≡ true = rw p q in rw h (zero, p)
  least b u q (suc fuel) (suc k) a (d, p, r) lt =
      elim (cases_Bool (is_below supers b a)) [
        | inl h ↦ rw h (suc k, (d, p, r))
        | inr h ↦ rw (h, p) (least b u q fuel k d r (omega arith))
      ]

  pub common-left : (a b : ℕ) → a < length supers → b < length supers → is_below supers a (first_common (length supers) supers a b) ≡ true
  common-left a b ha hb =
      let (n, lt, u) = tree.reached a ha in let (k, v) = left b hb (length supers) n a u lt in below-from k a _ v

  pub common-right : (a b : ℕ) → a < length supers → b < length supers → is_below supers b (first_common (length supers) supers a b) ≡ true
  common-right a b ha hb = let (n, lt, u) = tree.reached a ha in right b hb (length supers) n a u lt

  pub common-least : (a b u : ℕ) → is_below supers a u ≡ true → is_below supers b u ≡ true → is_below supers (first_common (length supers) supers a b) u ≡ true
  common-least a b u p q =
      let (k, v) = below-to a u p in let (j, w) = least b u q (length supers) k a v (up-short k a u v) in below-from j _ u w

  pub common-inside : (a b : ℕ) → a < length supers → b < length supers → first_common (length supers) supers a b < length supers
  common-inside a b ha hb =
      let (k, u) = below-to a _ (common-left a b ha hb) in
      let (n, lt, v) = tree.reached a ha in
      let (m, eq, w) = split supers tree.root k n a _ u v in
      reaches m _ w

  pub depth-few : (a : ℕ) → depth supers a ≤ length supers
  depth-few a = steps-few supers (length supers) a

  up-rank : (k a b : ℕ) → Up supers k a b → (a ≡ b) ⊎ (depth supers b < depth supers a)
  up-rank zero a b u = inl u
  up-rank (suc k) a b (d, p, r) =
      let (n, lt, u) = tree.reached a (within supers a d p) in
      let (m, eq, w) = split supers tree.root (suc k) n a b (d, p, r) u in
      let x : depth supers a ≡ n = steps-is supers tree.root n (length supers) a u lt in
      let y : depth supers b ≡ m = steps-is supers tree.root m (length supers) b w (omega arith) in
      inr (omega arith)

  pub below-rank : (a b : ℕ) → is_below supers a b ≡ true → (a ≡ b) ⊎ (depth supers b < depth supers a)
  below-rank a b h = let (k, u) = below-to a b h in up-rank k a b u

  pub depth-root : depth supers 0 ≡ 0
  depth-root = steps-is supers tree.root zero (length supers) 0 refl (tree.some)
