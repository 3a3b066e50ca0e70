-- How many types can lie above one: a type that rises falls in rank.
use Rattle.std.proofs.Common.{◌≡◌, sym, ap, refl, ℕ, ◌+◌, ◌<◌, ◌≤◌, true, List, length, Option, ◌⊎◌, inl, inr, arith}
use Rattle.std.proofs.lemmas.Bool.{eqb-true}
use Rattle.flow_types.specs.Tree.{IsTree}
use Rattle.flow_types.specs.Types.{elem_fits, is_object, type_fits, IsType}
use Rattle.flow_types.specs.declared.element.Element.{Element}
use Rattle.flow_types.specs.declared.element.Element.TheVariants.{Primitive, Object}
use Rattle.flow_types.specs.declared.flow_type.FlowType.{FlowType}
use Rattle.flow_types.specs.declared.flow_type.FlowType.TheVariants.{Unusable, Int, Long, High, Null, Class, Array, Fresh, FreshThis}
use Rattle.flow_types.specs.TypeRank.{depth, elem_rank, type_rank}
use Rattle.flow_types.proofs.TreeLaws.{below-rank, depth-few, depth-root}
use Rattle.flow_types.proofs.TypeLaws.{primitive-is, ArrayFits, array-view, only-top}

module _ (supers : List (Option ℕ)) (tree : IsTree supers) where
  elem-few : (e : Element) → elem_rank supers e ≤ length supers
  elem-few (Primitive k) = omega arith
  elem-few (Object c) = depth-few supers tree c

  pub rank-bound : (a : FlowType) → IsType supers a → type_rank supers a ≤ length supers + 257
  rank-bound Unusable t = omega arith
  rank-bound Null t = omega arith
  rank-bound (Class c) t = let h : depth supers c ≤ length supers = depth-few supers tree c in omega arith
  rank-bound (Array d e) t = let h : elem_rank supers e ≤ length supers = elem-few e in omega arith
  rank-bound _ t = omega arith

  elem-falls : (e f : Element) → elem_fits supers e f ≡ true → (e ≡ f) ⊎ (elem_rank supers f < elem_rank supers e)
  elem-falls (Primitive a) (Primitive b) h = inl (ap Primitive (primitive-is a b h))
  elem-falls (Object a) (Object b) h = elim (below-rank supers tree a b h) [ inl e ↦ inl (ap Object e) | inr l ↦ inr l ]
  elem-falls (Primitive a) (Object b) h = absurd cc
  elem-falls (Object a) (Primitive b) h = absurd cc

  object-rank : (e : Element) → is_object e ≡ true → elem_rank supers e ≡ 0
  object-rank (Primitive k) h = refl
  object-rank (Object c) h = let z : c ≡ 0 = eqb-true c 0 h in rw z (depth-root supers tree)

  array-falls : (d : ℕ) (e : Element) (u : ℕ) (f : Element) → ArrayFits supers d e u f → (Array d e ≡ Array u f) ⊎ (type_rank supers (Array u f) < type_rank supers (Array d e))
  array-falls d e u f (inl p) =
      elim (elem-falls e f (p.1)) [ inl q ↦ let r : d ≡ u = p.0 in inl cc | inr q ↦ let r : d ≡ u = p.0 in inr (omega arith) ]
  array-falls d e u f (inr p) = let z : elem_rank supers f ≡ 0 = object-rank f (p.1) in inr (omega arith)

  pub type-falls : (a b : FlowType) → IsType supers a → IsType supers b → type_fits supers a b ≡ true → (a ≡ b) ⊎ (type_rank supers b < type_rank supers a)
  type-falls Unusable b p q h = inl (sym (only-top supers b h))
  type-falls Null Unusable p q h = inr (omega arith)
  type-falls Null Null p q h = inl refl
  type-falls Null (Class c) p q h = let l : depth supers c ≤ length supers = depth-few supers tree c in inr (omega arith)
  type-falls Null (Array d e) p q h = let l : elem_rank supers e ≤ length supers = elem-few e in inr (omega arith)
  type-falls Null _ p q h = absurd cc
  type-falls (Class a) Unusable p q h = inr (omega arith)
  type-falls (Class a) (Class b) p q h = elim (below-rank supers tree a b h) [ inl e ↦ inl (ap Class e) | inr l ↦ inr (omega arith) ]
  type-falls (Class a) _ p q h = absurd cc
  type-falls (Array d e) Unusable p q h = inr (omega arith)
  type-falls (Array d e) (Class c) p q h =
      let z : c ≡ 0 = eqb-true c 0 h in let w : depth supers c ≡ 0 = rw z (depth-root supers tree) in
      let l : 0 < d = p.0 in inr (omega arith)
  type-falls (Array d e) (Array u f) p q h = array-falls d e u f (array-view supers d e u f h)
  type-falls (Array d e) _ p q h = absurd cc
  type-falls Int Unusable p q h = inr (omega arith)
  type-falls Int Int p q h = inl refl
  type-falls Int _ p q h = absurd cc
  type-falls Long Unusable p q h = inr (omega arith)
  type-falls Long Long p q h = inl refl
  type-falls Long _ p q h = absurd cc
  type-falls High Unusable p q h = inr (omega arith)
  type-falls High High p q h = inl refl
  type-falls High _ p q h = absurd cc
  type-falls FreshThis Unusable p q h = inr (omega arith)
  type-falls FreshThis FreshThis p q h = inl refl
  type-falls FreshThis _ p q h = absurd cc
  type-falls (Fresh i) Unusable p q h = inr (omega arith)
  type-falls (Fresh i) (Fresh j) p q h = inl (ap Fresh (eqb-true i j h))
  type-falls (Fresh i) _ p q h = absurd cc
