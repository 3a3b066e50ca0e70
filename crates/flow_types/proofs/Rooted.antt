-- The tree's condition, from what an supers says of its classes: no class is above itself, and each but the first has a superclass.
use Rattle.std.proofs.Common.{◌≡◌, sym, subst, refl, ℕ, zero, suc, ◌<◌, ◌≤◌, Bool, true, false, List, [], ◌∷◌, length, Option, Some, None, ◌⊎◌, inl, inr, arith}
use Rattle.std.specs.Prelude.{◌||◌}
use Rattle.std.specs.List.{IsDistinct, list_any, AllByRecursion}
use Rattle.std.proofs.Math.Dec.{eqb}
use Rattle.std.proofs.lemmas.Bool.{cases_Bool, eqb-true}
use Rattle.std.proofs.lemmas.Bool.Decides.{eqb_tells}
use Rattle.std.proofs.lemmas.Map.Steps.{length-le_from_distinct_below}
use Rattle.flow_types.specs.Tree.{superclass, Up, IsTree}

-- a class and the next n - 1 above it
line : ℕ → List (Option ℕ) → ℕ → List ℕ
line zero supers a = []
line (suc n) supers a = elim (superclass supers a) as (λ _. List ℕ) [ None ↦ a ∷ [] | Some d ↦ a ∷ line n supers d ]

line-none : (n : ℕ) (supers : List (Option ℕ)) (a : ℕ) → superclass supers a ≡ None → line (suc n) supers a ≡ a ∷ []
unfolding line
line-none n supers a e = rw (e, line) refl

line-some : (n : ℕ) (supers : List (Option ℕ)) (a d : ℕ) → superclass supers a ≡ Some d → line (suc n) supers a ≡ a ∷ line n supers d
unfolding line
line-some n supers a d e = rw (e, line) refl

line-zero : (supers : List (Option ℕ)) (a : ℕ) → line zero supers a ≡ []
unfolding line
line-zero supers a = refl

pub record IsAcyclic (supers : List (Option ℕ)) : Type 0 where
  pub some : 0 < length supers
  pub root : superclass supers 0 ≡ None
  pub parents : (a : ℕ) → a < length supers → (a ≡ 0 → ⊥) → (d : ℕ) × (superclass supers a ≡ Some d) × (d < length supers)
  pub loops : (k a : ℕ) → Up supers (suc k) a a → ⊥

or_cases : (b c : Bool) → (b || c) ≡ true → (b ≡ true) ⊎ (c ≡ true)
or_cases true c h = inl refl
or_cases false c h = inr h

all-different : (a : ℕ) (xs : List ℕ) → ((q : ℕ) → list_any (eqb q) xs ≡ true → a ≡ q → ⊥) → AllByRecursion (λ y. eqb a y ≡ false) xs
all-different a [] h = tt
all-different a (x ∷ xs) h = (
  elim (eqb_tells a x) [
    | inl p ↦ absurd (h x (elim (eqb_tells x x) [ inl r ↦ rw (r.0) refl | inr r ↦ absurd (r.1 refl) ]) (p.1))
    | inr p ↦ p.0
  ],
  all-different a xs (λ q g e. h q (elim (cases_Bool (eqb q x)) [ inl r ↦ rw r refl | inr r ↦ rw r g ]) e),
)

module _ (supers : List (Option ℕ)) (acyclic : IsAcyclic supers) where
  above-next : (n a q : ℕ) → ((d : ℕ) → list_any (eqb q) (line n supers d) ≡ true → (k : ℕ) × Up supers k d q) → (s : Option ℕ) → superclass supers a ≡ s → list_any (eqb q) (line (suc n) supers a) ≡ true → (k : ℕ) × Up supers k a q
  above-next n a q again None e h =
      let g : list_any (eqb q) (a ∷ []) ≡ true = subst (λ z. list_any (eqb q) z ≡ true) (line-none n supers a e) h in
      elim (or_cases (eqb q a) false g) [ inl r ↦ (0, sym (eqb-true q a r)) | inr r ↦ absurd cc ]
  above-next n a q again (Some d) e h =
      let g : list_any (eqb q) (a ∷ line n supers d) ≡ true = subst (λ z. list_any (eqb q) z ≡ true) (line-some n supers a d e) h in
      elim (or_cases (eqb q a) (list_any (eqb q) (line n supers d)) g) [
        | inl r ↦ (0, sym (eqb-true q a r))
        | inr r ↦ let (k, u) = again d r in (suc k, (d, e, u))
      ]

  -- every class of a line lies above the first
  above-first : (n a q : ℕ) → list_any (eqb q) (line n supers a) ≡ true → (k : ℕ) × Up supers k a q
  above-first zero a q h = let g : list_any (eqb q) [] ≡ true = subst (λ z. list_any (eqb q) z ≡ true) (line-zero supers a) h in absurd cc
  above-first (suc n) a q h = above-next n a q (λ d. above-first n d q) (superclass supers a) refl h

  distinct-next : (n a : ℕ) → ((d : ℕ) → IsDistinct eqb (line n supers d)) → (s : Option ℕ) → superclass supers a ≡ s → IsDistinct eqb (line (suc n) supers a)
  unfolding IsDistinct
  distinct-next n a again None e = subst (λ z. IsDistinct eqb z) (sym (line-none n supers a e)) (tt, tt)
  distinct-next n a again (Some d) e =
      subst (λ z. IsDistinct eqb z) (sym (line-some n supers a d e))
      (all-different a (line n supers d) (λ q h p. let (k, u) = above-first n d q h in acyclic.loops k a (d, e, subst (λ z. Up supers k d z) (sym p) u)), again d)

  distinct : (n a : ℕ) → IsDistinct eqb (line n supers a)
  unfolding IsDistinct
  distinct zero a = subst (λ z. IsDistinct eqb z) (sym (line-zero supers a)) tt
  distinct (suc n) a = distinct-next n a (λ d. distinct n d) (superclass supers a) refl

  inside : (k a q : ℕ) → a < length supers → Up supers k a q → q < length supers
  inside zero a q l u = subst (λ z. z < length supers) u l
  inside (suc k) a q l (d, p, r) =
      elim (eqb_tells a 0) [
        | inl z ↦ let g : superclass supers a ≡ None = rw (z.1) acyclic.root in absurd cc
        | inr z ↦ let (e, f, m) = acyclic.parents a l (z.1) in let g : e ≡ d = cc in inside k d q (subst (λ x. x < length supers) g m) r
      ]

  short : (n a : ℕ) → a < length supers → length (line n supers a) ≤ length supers
  short n a l = length-le_from_distinct_below (line n supers a) (length supers) (distinct n a) (λ q h. let (k, u) = above-first n a q h in inside k a q l u)

  line-one : (a : ℕ) (s : Option ℕ) → superclass supers a ≡ s → 1 ≤ length (line 1 supers a)
  line-one a None e = rw (line-none zero supers a e) (omega arith)
  line-one a (Some d) e = rw (line-some zero supers a d e) (omega arith)

  line-long : (k a q : ℕ) → Up supers k a q → suc k ≤ length (line (suc k) supers a)
  line-long zero a q u = line-one a (superclass supers a) refl
  line-long (suc k) a q (d, p, r) =
      let g : suc k ≤ length (line (suc k) supers d) = line-long k d q r in rw (line-some (suc k) supers a d p) (omega arith)

  -- the root, or n steps up
  reach : (n a : ℕ) → a < length supers → ((k : ℕ) × Up supers k a 0) ⊎ ((q : ℕ) × Up supers n a q)
  reach zero a l = inr (a, refl)
  reach (suc n) a l =
      elim (eqb_tells a 0) [
        | inl z ↦ inl (0, z.1)
        | inr z ↦ let (d, p, m) = acyclic.parents a l (z.1) in
            elim (reach n d m) [
              | inl h ↦ let (k, u) = h in inl (suc k, (d, p, u))
              | inr h ↦ let (q, u) = h in inr (q, (d, p, u))
            ]
      ]

  pub tree : IsTree supers
  tree = record {
    some = acyclic.some;
    root = acyclic.root;
    reached = λ a l. elim (reach (length supers) a l) [
      | inl h ↦ let (k, u) = h in
          let g : suc k ≤ length (line (suc k) supers a) = line-long k a 0 u in
          let m : length (line (suc k) supers a) ≤ length supers = short (suc k) a l in (k, omega arith, u)
      | inr h ↦ let (q, u) = h in
          let g : suc (length supers) ≤ length (line (suc (length supers)) supers a) = line-long (length supers) a q u in
          let m : length (line (suc (length supers)) supers a) ≤ length supers = short (suc (length supers)) a l in absurd (omega arith)
    ];
  }
