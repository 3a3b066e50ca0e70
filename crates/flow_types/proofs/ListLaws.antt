-- Laws of lists of types.
use Rattle.std.proofs.Common.{◌≡◌, sym, ap, subst, refl, ℕ, suc, ◌+◌, ◌*◌, ◌<◌, ◌≤◌, Bool, true, false, List, [], ◌∷◌, length, Option, Some, None, ◌⊎◌, inl, inr, arith}
use Rattle.std.specs.Prelude.{◌&&◌}
use Rattle.std.proofs.lemmas.Bool.{cases_Bool}
use native.Mathlib.Nat.{suc-mul}
use Rattle.flow_types.specs.Tree.{IsTree}
use Rattle.flow_types.specs.Types.{type_fits, joined}
use Rattle.flow_types.specs.declared.flow_type.FlowType.{FlowType}
use Rattle.flow_types.specs.declared.flow_type.FlowType.TheVariants.{Unusable, Int, Long, High, Null, Class, Array, Fresh, FreshThis}
use Rattle.flow_types.proofs.TypeLaws.{type-refl, type-trans, type-antisym, only-top}
use Rattle.flow_types.proofs.JoinLaws.{joined-left, joined-right, joined-least, joined-inside}
use Rattle.flow_types.proofs.RankLaws.{rank-bound, type-falls}
use Rattle.flow_types.specs.FrameRank.{types_rank}
use Rattle.flow_types.specs.TypeRank.{type_rank}
use Rattle.flow_types.specs.TypeLists.{types_fit, types_joined, stacks_joined, put_first, is_operand, AreTypes, AreOperands}

pub and_parts : (a b : Bool) → (a && b) ≡ true → (a ≡ true) × (b ≡ true)
and_parts true b h = (refl, h)
and_parts false b h = absurd cc

pub and_both : (a b : Bool) → a ≡ true → b ≡ true → (a && b) ≡ true
and_both a b p q = rw (p, q) refl

-- what fits an operand is one
pub operand-below : (supers : List (Option ℕ)) (t u : FlowType) → type_fits supers t u ≡ true → is_operand u ≡ true → is_operand t ≡ true
operand-below supers Unusable u h o = let e : u ≡ Unusable = only-top supers u h in let f : is_operand Unusable ≡ true = subst (λ z. is_operand z ≡ true) e o in absurd cc
operand-below supers High Unusable h o = absurd cc
operand-below supers High High h o = absurd cc
operand-below supers High _ h o = absurd cc
operand-below supers Int u h o = refl
operand-below supers Long u h o = refl
operand-below supers Null u h o = refl
operand-below supers (Class c) u h o = refl
operand-below supers (Array d e) u h o = refl
operand-below supers (Fresh a) u h o = refl
operand-below supers FreshThis u h o = refl

bound_more : (a b n w : ℕ) → a ≤ w → b ≤ n * w → a + b ≤ suc n * w
bound_more a b n w h g = rw (suc-mul n w) (omega arith)

module _ (supers : List (Option ℕ)) (tree : IsTree supers) where
  pub fit-refl : (xs : List FlowType) → types_fit supers xs xs ≡ true
  fit-refl [] = refl
  fit-refl (x ∷ xs) = and_both _ _ (type-refl supers tree x) (fit-refl xs)

  pub fit-length : (xs ys : List FlowType) → types_fit supers xs ys ≡ true → length xs ≡ length ys
  fit-length [] [] h = refl
  fit-length (x ∷ xs) (y ∷ ys) h = let (p, q) = and_parts _ _ h in ap suc (fit-length xs ys q)
  fit-length [] (y ∷ ys) h = absurd cc
  fit-length (x ∷ xs) [] h = absurd cc

  pub fit-trans : (xs ys zs : List FlowType) → types_fit supers xs ys ≡ true → types_fit supers ys zs ≡ true → types_fit supers xs zs ≡ true
  fit-trans [] [] zs p q = q
  fit-trans (x ∷ xs) (y ∷ ys) (z ∷ zs) p q =
      let (p1, p2) = and_parts _ _ p in let (q1, q2) = and_parts _ _ q in
      and_both _ _ (type-trans supers tree x y z p1 q1) (fit-trans xs ys zs p2 q2)
  fit-trans [] (y ∷ ys) zs p q = absurd cc
  fit-trans (x ∷ xs) [] zs p q = absurd cc
  fit-trans (x ∷ xs) (y ∷ ys) [] p q = absurd cc

  pub fit-antisym : (xs ys : List FlowType) → types_fit supers xs ys ≡ true → types_fit supers ys xs ≡ true → xs ≡ ys
  fit-antisym [] [] p q = refl
  fit-antisym (x ∷ xs) (y ∷ ys) p q =
      let (p1, p2) = and_parts _ _ p in let (q1, q2) = and_parts _ _ q in
      let e : x ≡ y = type-antisym supers tree x y p1 q1 in
      let f : xs ≡ ys = fit-antisym xs ys p2 q2 in cc
  fit-antisym [] (y ∷ ys) p q = absurd cc
  fit-antisym (x ∷ xs) [] p q = absurd cc

  pub fit-left : (xs ys : List FlowType) → length xs ≡ length ys → AreTypes supers xs → AreTypes supers ys → types_fit supers xs (types_joined supers xs ys) ≡ true
  fit-left [] ys e p q = refl
  fit-left (x ∷ xs) [] e p q = absurd (omega arith)
  fit-left (x ∷ xs) (y ∷ ys) e p q = and_both _ _ (joined-left supers tree x y (p.0) (q.0)) (fit-left xs ys (omega arith) (p.1) (q.1))

  pub fit-right : (xs ys : List FlowType) → length xs ≡ length ys → AreTypes supers xs → AreTypes supers ys → types_fit supers ys (types_joined supers xs ys) ≡ true
  fit-right [] [] e p q = refl
  fit-right [] (y ∷ ys) e p q = absurd (omega arith)
  fit-right (x ∷ xs) [] e p q = absurd (omega arith)
  fit-right (x ∷ xs) (y ∷ ys) e p q = and_both _ _ (joined-right supers tree x y (p.0) (q.0)) (fit-right xs ys (omega arith) (p.1) (q.1))

  pub fit-least : (xs ys us : List FlowType) → AreTypes supers us → types_fit supers xs us ≡ true → types_fit supers ys us ≡ true → types_fit supers (types_joined supers xs ys) us ≡ true
  fit-least [] [] [] t p q = refl
  fit-least (x ∷ xs) (y ∷ ys) (u ∷ us) t p q =
      let (p1, p2) = and_parts _ _ p in let (q1, q2) = and_parts _ _ q in
      and_both _ _ (joined-least supers tree x y u (t.0) p1 q1) (fit-least xs ys us (t.1) p2 q2)
  fit-least [] ys (u ∷ us) t p q = absurd cc
  fit-least [] (y ∷ ys) [] t p q = absurd cc
  fit-least (x ∷ xs) ys [] t p q = absurd cc
  fit-least (x ∷ xs) [] (u ∷ us) t p q = absurd cc

  pub joined-types : (xs ys : List FlowType) → AreTypes supers xs → AreTypes supers ys → AreTypes supers (types_joined supers xs ys)
  joined-types [] ys p q = tt
  joined-types (x ∷ xs) [] p q = tt
  joined-types (x ∷ xs) (y ∷ ys) p q = (joined-inside supers tree x y (p.0) (q.0), joined-types xs ys (p.1) (q.1))

  pub joined-length : (xs ys : List FlowType) → length xs ≡ length ys → length (types_joined supers xs ys) ≡ length xs
  joined-length [] ys e = refl
  joined-length (x ∷ xs) [] e = absurd (omega arith)
  joined-length (x ∷ xs) (y ∷ ys) e = ap suc (joined-length xs ys (omega arith))

  -- what a joined stack is
  pub record IsAbove (xs ys s : List FlowType) : Type 0 where
    pub left : types_fit supers xs s ≡ true
    pub right : types_fit supers ys s ≡ true
    pub types : AreTypes supers s
    pub operands : AreOperands s

  stack-next : (x y : FlowType) (xs ys s : List FlowType) (r : Option (List FlowType)) → put_first (joined supers x y) r ≡ Some s → is_operand (joined supers x y) ≡ true → AreTypes supers (x ∷ xs) → AreTypes supers (y ∷ ys) → ((z : List FlowType) → r ≡ Some z → IsAbove xs ys z) → r ≡ r → IsAbove (x ∷ xs) (y ∷ ys) s
  stack-next x y xs ys s None e h p q again u = absurd cc
  stack-next x y xs ys s (Some z) e h p q again u =
      let a : IsAbove xs ys z = again z refl in
      let f : s ≡ joined supers x y ∷ z = cc in
      subst (λ w. IsAbove (x ∷ xs) (y ∷ ys) w) (sym f) (record {
        left = and_both _ _ (joined-left supers tree x y (p.0) (q.0)) a.left;
        right = and_both _ _ (joined-right supers tree x y (p.0) (q.0)) a.right;
        types = (joined-inside supers tree x y (p.0) (q.0), a.types);
        operands = (h, a.operands);
      })

  pub stack-above : (xs ys s : List FlowType) → stacks_joined supers xs ys ≡ Some s → AreTypes supers xs → AreTypes supers ys → IsAbove xs ys s
  stack-above [] [] s e p q = let f : s ≡ [] = cc in subst (λ z. IsAbove [] [] z) (sym f) (record { left = refl; right = refl; types = tt; operands = tt })
  stack-above [] (y ∷ ys) s e p q = absurd cc
  stack-above (x ∷ xs) [] s e p q = absurd cc
  stack-above (x ∷ xs) (y ∷ ys) s e p q =
      elim (cases_Bool (is_operand (joined supers x y))) [
        | inl h ↦ stack-next x y xs ys s (stacks_joined supers xs ys) (rw h at e) h p q (λ z g. stack-above xs ys z g (p.1) (q.1)) refl
        | inr h ↦ let g : None ≡ Some s = rw h at e in absurd cc
      ]

  pub stack-least : (xs ys us : List FlowType) → AreTypes supers us → AreOperands us → types_fit supers xs us ≡ true → types_fit supers ys us ≡ true → (s : List FlowType) × (stacks_joined supers xs ys ≡ Some s) × (types_fit supers s us ≡ true)
  stack-least [] [] [] t k p q = ([], refl, refl)
  stack-least (x ∷ xs) (y ∷ ys) (u ∷ us) t k p q =
      let (p1, p2) = and_parts _ _ p in let (q1, q2) = and_parts _ _ q in
      let (s, e, f) = stack-least xs ys us (t.1) (k.1) p2 q2 in
      let j : type_fits supers (joined supers x y) u ≡ true = joined-least supers tree x y u (t.0) p1 q1 in
      let o : is_operand (joined supers x y) ≡ true = operand-below supers (joined supers x y) u j (k.0) in
      (joined supers x y ∷ s, rw (o, e) refl, and_both _ _ j f)
  stack-least [] ys (u ∷ us) t k p q = absurd cc
  stack-least [] (y ∷ ys) [] t k p q = absurd cc
  stack-least (x ∷ xs) ys [] t k p q = absurd cc
  stack-least (x ∷ xs) [] (u ∷ us) t k p q = absurd cc

  pub types-falls : (xs ys : List FlowType) → AreTypes supers xs → AreTypes supers ys → types_fit supers xs ys ≡ true → (xs ≡ ys) ⊎ (types_rank supers ys < types_rank supers xs)
  types-falls [] [] p q h = inl refl
  types-falls [] (y ∷ ys) p q h = absurd cc
  types-falls (x ∷ xs) [] p q h = absurd cc
  types-falls (x ∷ xs) (y ∷ ys) p q h =
      let (h1, h2) = and_parts _ _ h in
      elim (type-falls supers tree x y (p.0) (q.0) h1) [
        | inl e ↦ elim (types-falls xs ys (p.1) (q.1) h2) [
          | inl f ↦ inl cc
          | inr f ↦ let g : type_rank supers x ≡ type_rank supers y = ap (type_rank supers) e in inr (omega arith)
        ]
        | inr e ↦ elim (types-falls xs ys (p.1) (q.1) h2) [
          | inl f ↦ let g : types_rank supers xs ≡ types_rank supers ys = ap (types_rank supers) f in inr (omega arith)
          | inr f ↦ inr (omega arith)
        ]
      ]

  pub types-bound : (xs : List FlowType) → AreTypes supers xs → types_rank supers xs ≤ length xs * (length supers + 257)
  types-bound [] p = omega arith
  types-bound (x ∷ xs) p =
      let h : type_rank supers x ≤ length supers + 257 = rank-bound supers tree x (p.0) in
      let g : types_rank supers xs ≤ length xs * (length supers + 257) = types-bound xs (p.1) in
      bound_more (type_rank supers x) (types_rank supers xs) (length xs) (length supers + 257) h g
