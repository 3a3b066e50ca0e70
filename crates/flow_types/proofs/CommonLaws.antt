-- Two classes climb to their first common superclass, the deeper one first.
use Rattle.std.proofs.Common.{◌≡◌, ◌∙◌, sym, ap, subst, refl, ℕ, zero, suc, ◌-◌, ◌<◌, ◌≤◌, Bool, true, false, if◌then◌else◌, List, length, Option, Some, None, inl, inr, arith}
use Rattle.std.proofs.lemmas.Bool.{cases_Bool}
use Rattle.flow_types.specs.TypeRank.{steps_up, depth}
use Rattle.flow_types.specs.Tree.{superclass, is_below, first_common, Up, IsTree}
use Rattle.flow_types.proofs.TreeLaws.{common-step, within, steps-is, below-to, below-from, below-refl, below-rank}

abbrev common : List (Option ℕ) → ℕ → ℕ → ℕ
common supers a b = first_common (length supers) supers a b

-- two searches that differ in what they find further up
alike : (t : Bool) (a : ℕ) (s : Option ℕ) (x y : ℕ → ℕ) → ((up : ℕ) → s ≡ Some up → x up ≡ y up) → (if t then a else (elim s as (λ _. ℕ) [ None ↦ 0 | Some up ↦ x up ])) ≡ (if t then a else (elim s as (λ _. ℕ) [ None ↦ 0 | Some up ↦ y up ]))
alike true a s x y h = refl
alike false a None x y h = refl
alike false a (Some up) x y h = h up refl

same_bool : (a b : Bool) → (a ≡ true → b ≡ true) → (b ≡ true → a ≡ true) → a ≡ b
same_bool true b f g = sym (f refl)
same_bool false true f g = let h : false ≡ true = g refl in absurd cc
same_bool false false f g = refl

no-steps : (supers : List (Option ℕ)) (n a : ℕ) → superclass supers a ≡ None → steps_up n supers a ≡ 0
no-steps supers zero a s = refl
no-steps supers (suc n) a s = rw (s, steps_up) refl

module _ (supers : List (Option ℕ)) (tree : IsTree supers) where
  -- enough steps are as good as more
  enough : (n f g a b : ℕ) → Up supers n a 0 → n < f → n < g → first_common f supers a b ≡ first_common g supers a b
  enough n zero g a b u lt gt = absurd (omega arith)
  enough n (suc f) zero a b u lt gt = absurd (omega arith)
  enough zero (suc f) (suc g) a b u lt gt =
      let e : superclass supers a ≡ None = rw u tree.root in
      elim (cases_Bool (is_below supers b a)) [ inl h ↦ rw h refl | inr h ↦ rw (h, e) refl ]
  enough (suc n) (suc f) (suc g) a b (d, p, r) lt gt =
      elim (cases_Bool (is_below supers b a)) [
        | inl h ↦ rw h refl
        | inr h ↦ rw (h, p) (enough n f g d b r (omega arith) (omega arith))
      ]

  -- a class isn't below another one that is as deep
  apart : (a b : ℕ) → (a ≡ b → ⊥) → depth supers b ≤ depth supers a → is_below supers b a ≡ false
  apart a b ne le =
      elim (cases_Bool (is_below supers b a)) [
        | inl h ↦ elim (below-rank supers tree b a h) [ inl e ↦ absurd (ne (sym e)) | inr l ↦ absurd (omega arith) ]
        | inr h ↦ h
      ]

  pub lift-first : (a b p : ℕ) → (a ≡ b → ⊥) → depth supers b ≤ depth supers a → superclass supers a ≡ Some p → common supers a b ≡ common supers p b
  lift-first a b p ne le s =
      let some : 0 < length supers = tree.some in
      let (n, lt, u) = tree.reached a (within supers a p s) in
      let (k, lk, v) = above_root a p s in
      common-step supers (length supers) (length supers - 1) a b p (omega arith) (apart a b ne le) s ∙ enough k (length supers - 1) (length supers) p b v (omega arith) (omega arith)
    where
      above_root : (a p : ℕ) → superclass supers a ≡ Some p → (k : ℕ) × (suc k < length supers) × Up supers k p 0
      above_root a p s = from-reached a p s (tree.reached a (within supers a p s))
        where
          from-reached : (a p : ℕ) → superclass supers a ≡ Some p → ((n : ℕ) × (n < length supers) × Up supers n a 0) → (k : ℕ) × (suc k < length supers) × Up supers k p 0
          from-reached a p s (zero, lt, u) = let e : superclass supers a ≡ None = rw u tree.root in absurd cc
          from-reached a p s (suc n, lt, (d, q, r)) = let g : d ≡ p = cc in (n, lt, subst (λ x. Up supers n x 0) g r)

  pub none-first : (a b : ℕ) → (a ≡ b → ⊥) → depth supers b ≤ depth supers a → superclass supers a ≡ None → common supers a b ≡ 0
  none-first a b ne le s = no-step (length supers) a b (apart a b ne le) s
    where
      no-step : (n a b : ℕ) → is_below supers b a ≡ false → superclass supers a ≡ None → first_common n supers a b ≡ 0
      no-step zero a b h s = refl
      no-step (suc n) a b h s = rw (h, s) refl

  -- the deeper class is below what lies above its superclass
  below-next : (a b q : ℕ) → (a ≡ b → ⊥) → superclass supers b ≡ Some q → is_below supers b a ≡ is_below supers q a
  below-next a b q ne s = same_bool _ _ (λ h. onward (below-to supers tree b a h)) (λ h. let (k, u) = below-to supers tree q a h in below-from supers tree (suc k) b a (q, s, u))
    where
      onward : ((k : ℕ) × Up supers k b a) → is_below supers q a ≡ true
      onward (zero, u) = absurd (ne (sym u))
      onward (suc k, (d, p, r)) = let g : d ≡ q = cc in below-from supers tree k q a (subst (λ x. Up supers k x a) g r)

  up-shallow : (a up : ℕ) → superclass supers a ≡ Some up → depth supers up ≤ depth supers a
  up-shallow a up s =
      elim (below-rank supers tree a up (below-from supers tree 1 a up (up, s, refl))) [
        | inl e ↦ let f : depth supers a ≡ depth supers up = ap (depth supers) e in omega arith
        | inr l ↦ omega arith
      ]

  second : (f a b q : ℕ) → depth supers a < depth supers b → superclass supers b ≡ Some q → first_common f supers a b ≡ first_common f supers a q
  second zero a b q lt s = refl
  second (suc f) a b q lt s =
      let ne : a ≡ b → ⊥ = (λ e. let g : depth supers a ≡ depth supers b = ap (depth supers) e in omega arith) in
      let same : is_below supers b a ≡ is_below supers q a = below-next a b q ne s in
      rw same (alike (is_below supers q a) a (superclass supers a) (λ up. first_common f supers up b) (λ up. first_common f supers up q) (λ up e. second f up b q (let g : depth supers up ≤ depth supers a = up-shallow a up e in omega arith) s))

  pub lift-second : (a b q : ℕ) → depth supers a < depth supers b → superclass supers b ≡ Some q → common supers a b ≡ common supers a q
  lift-second a b q lt s = second (length supers) a b q lt s

  pub met : (a : ℕ) → common supers a a ≡ a
  met a = here (length supers) a tree.some
    where
      here : (n a : ℕ) → 0 < n → first_common n supers a a ≡ a
      here zero a p = absurd (omega arith)
      here (suc n) a p = rw (below-refl supers tree a) refl

  pub depth-next : (a p : ℕ) → superclass supers a ≡ Some p → depth supers a ≡ suc (depth supers p)
  depth-next a p s = from-reached a p s (tree.reached a (within supers a p s))
    where
      from-reached : (a p : ℕ) → superclass supers a ≡ Some p → ((n : ℕ) × (n < length supers) × Up supers n a 0) → depth supers a ≡ suc (depth supers p)
      from-reached a p s (zero, lt, u) = let e : superclass supers a ≡ None = rw u tree.root in absurd cc
      from-reached a p s (suc n, lt, (d, q, r)) =
          let g : d ≡ p = cc in
          let x : depth supers a ≡ suc n = steps-is supers tree.root (suc n) (length supers) a (d, q, r) lt in
          let y : depth supers p ≡ n = steps-is supers tree.root n (length supers) p (subst (λ z. Up supers n z 0) g r) (omega arith) in
          omega arith

  pub depth-none : (a : ℕ) → superclass supers a ≡ None → depth supers a ≡ 0
  depth-none a s = no-steps supers (length supers) a s

-- a step up
pub step-up : (supers : List (Option ℕ)) (m n a up : ℕ) → m ≡ suc n → superclass supers a ≡ Some up → steps_up m supers a ≡ suc (steps_up n supers up)
step-up supers m n a up e s = rw (e, s, steps_up) refl
