-- The order of types is a partial order, and `joined` is its least upper bound.
use Rattle.std.proofs.Common.{◌≡◌, ◌∙◌, sym, ap, subst, refl, ℕ, zero, suc, ◌<◌, true, false, List, Option, None, ◌⊎◌, inl, inr, arith}
use Rattle.std.proofs.lemmas.Bool.{cases_Bool}
use Rattle.std.proofs.lemmas.Bool.Decides.{eqb_tells, nat_tests}
use Rattle.std.specs.Prelude.{◌&&◌, nat_lt, ◌==◌, if◌then◌else◌}
use Rattle.std.proofs.lemmas.Bool.{eqb-true, eq-eqb}
use Rattle.flow_types.specs.Primitives.{primitive_number, same_primitive, primitive_of}
use Rattle.flow_types.specs.declared.element.Primitive.{Primitive as Primitives}
use Rattle.flow_types.specs.declared.element.Primitive.TheVariants as primitive
use Rattle.flow_types.specs.Tree.{superclass, is_below, Up, IsTree}
use Rattle.flow_types.specs.Types.{elem_fits, is_object, array_fits, type_fits, class_fits, array_type_fits}
use Rattle.flow_types.specs.declared.element.Element.{Element}
use Rattle.flow_types.specs.declared.element.Element.TheVariants.{Primitive, Object}
use Rattle.flow_types.specs.declared.flow_type.FlowType.{FlowType}
use Rattle.flow_types.specs.declared.flow_type.FlowType.TheVariants.{Unusable, Int, Long, High, Null, Class, Array, Fresh, FreshThis}
use Rattle.flow_types.proofs.TreeLaws.{below-refl, below-trans, below-antisym, below-to}

primitive-back : (a : Primitives) → primitive_of (primitive_number a) ≡ a
primitive-back primitive.Boolean = refl
primitive-back primitive.Char = refl
primitive-back primitive.Float = refl
primitive-back primitive.Double = refl
primitive-back primitive.Byte = refl
primitive-back primitive.Short = refl
primitive-back primitive.Int = refl
primitive-back primitive.Long = refl

-- a primitive type is known by its number
pub primitive-is : (a b : Primitives) → same_primitive a b ≡ true → a ≡ b
primitive-is a b h = sym (primitive-back a) ∙ ap primitive_of (eqb-true (primitive_number a) (primitive_number b) h) ∙ primitive-back b

pub top : (supers : List (Option ℕ)) (a : FlowType) → type_fits supers a Unusable ≡ true
top supers Unusable = refl
top supers Int = refl
top supers Long = refl
top supers High = refl
top supers Null = refl
top supers (Class c) = refl
top supers (Array d e) = refl
top supers (Fresh a) = refl
top supers FreshThis = refl

-- which types fit one that isn't a reference, or Null
abbrev pub same_only : FlowType → Type 0
same_only Unusable = ⊥
same_only (Class c) = ⊥
same_only (Array d e) = ⊥
same_only _ = Unit {0}

pub only-same : (supers : List (Option ℕ)) (a b : FlowType) → same_only b → type_fits supers a b ≡ true → a ≡ b
only-same supers Unusable Int s h = absurd cc
only-same supers Unusable Long s h = absurd cc
only-same supers Unusable High s h = absurd cc
only-same supers Unusable Null s h = absurd cc
only-same supers Unusable (Fresh x) s h = absurd cc
only-same supers Unusable FreshThis s h = absurd cc
only-same supers Int Int s h = refl
only-same supers Long Long s h = refl
only-same supers High High s h = refl
only-same supers Null Null s h = refl
only-same supers FreshThis FreshThis s h = refl
only-same supers (Fresh x) (Fresh y) s h = grind (arith, nat_tests)
only-same supers a Unusable s h = absurd s
only-same supers a (Class c) s h = absurd s
only-same supers a (Array d e) s h = absurd s
only-same supers _ _ s h = absurd cc

pub only-top : (supers : List (Option ℕ)) (c : FlowType) → type_fits supers Unusable c ≡ true → c ≡ Unusable
only-top supers Unusable h = refl
only-top supers _ h = absurd cc

-- an array fits an array in two ways
abbrev pub ArrayFits : List (Option ℕ) → ℕ → Element → ℕ → Element → Type 0
ArrayFits supers d e u f = ((d ≡ u) × (elem_fits supers e f ≡ true)) ⊎ ((u < d) × (is_object f ≡ true))

pub array-view : (supers : List (Option ℕ)) (d : ℕ) (e : Element) (u : ℕ) (f : Element) → array_fits supers d e u f ≡ true → ArrayFits supers d e u f
array-view supers d e u f h =
    elim (eqb_tells d u) [
      | inl p ↦ inl (p.1, rw (p.0) at h)
      | inr q ↦ let g : (is_object f && nat_lt u d) ≡ true = rw (q.0) at h in
          elim (cases_Bool (is_object f)) [
            | inl o ↦ let l : nat_lt u d ≡ true = rw o at g in inr (grind (arith, nat_tests), o)
            | inr o ↦ let l : false ≡ true = rw o at g in absurd cc
          ]
    ]

pub array-back : (supers : List (Option ℕ)) (d : ℕ) (e : Element) (u : ℕ) (f : Element) → ArrayFits supers d e u f → array_fits supers d e u f ≡ true
array-back supers d e u f (inl p) = elim (eqb_tells d u) [ inl q ↦ rw (q.0) (p.1) | inr q ↦ absurd (q.1 (p.0)) ]
array-back supers d e u f (inr p) =
    let l : nat_lt u d ≡ true = grind (arith, nat_tests) in
    elim (eqb_tells d u) [ inl q ↦ absurd (omega arith) | inr q ↦ rw (q.0, p.1, l) refl ]

from-root : (supers : List (Option ℕ)) → superclass supers 0 ≡ None → (n c : ℕ) → Up supers n 0 c → c ≡ 0
from-root supers root zero c u = sym u
from-root supers root (suc n) c (d, p, r) = absurd cc

module _ (supers : List (Option ℕ)) (tree : IsTree supers) where
  root-top : (c : ℕ) → is_below supers 0 c ≡ true → c ≡ 0
  root-top c h = let (n, u) = below-to supers tree 0 c h in from-root supers tree.root n c u

  elem-refl : (e : Element) → elem_fits supers e e ≡ true
  elem-refl (Primitive k) = eq-eqb (primitive_number k) (primitive_number k) refl
  elem-refl (Object c) = below-refl supers tree c

  elem-trans : (a b c : Element) → elem_fits supers a b ≡ true → elem_fits supers b c ≡ true → elem_fits supers a c ≡ true
  elem-trans (Primitive a) (Primitive b) (Primitive c) p q = grind (arith, nat_tests)
  elem-trans (Object a) (Object b) (Object c) p q = below-trans supers tree a b c p q
  elem-trans (Primitive a) (Object b) c p q = absurd cc
  elem-trans (Object a) (Primitive b) c p q = absurd cc
  elem-trans (Primitive a) (Primitive b) (Object c) p q = absurd cc
  elem-trans (Object a) (Object b) (Primitive c) p q = absurd cc

  elem-antisym : (a b : Element) → elem_fits supers a b ≡ true → elem_fits supers b a ≡ true → a ≡ b
  elem-antisym (Primitive a) (Primitive b) p q = ap Primitive (primitive-is a b p)
  elem-antisym (Object a) (Object b) p q = ap Object (below-antisym supers tree a b p q)
  elem-antisym (Primitive a) (Object b) p q = absurd cc
  elem-antisym (Object a) (Primitive b) p q = absurd cc

  -- only Object is above Object
  object-up : (a b : Element) → is_object a ≡ true → elem_fits supers a b ≡ true → is_object b ≡ true
  object-up (Primitive a) b o h = absurd cc
  object-up (Object a) (Primitive b) o h = absurd cc
  object-up (Object a) (Object b) o h =
      let z : a ≡ 0 = grind (arith, nat_tests) in
      let w : b ≡ 0 = root-top b (subst (λ x. is_below supers x b ≡ true) z h) in
      rw w refl

  array-trans : (d : ℕ) (e : Element) (u : ℕ) (f : Element) (v : ℕ) (g : Element) → ArrayFits supers d e u f → ArrayFits supers u f v g → ArrayFits supers d e v g
  array-trans d e u f v g (inl p) (inl q) = inl (p.0 ∙ q.0, elem-trans e f g (p.1) (q.1))
  array-trans d e u f v g (inl p) (inr q) = inr (omega arith, q.1)
  array-trans d e u f v g (inr p) (inl q) = inr (omega arith, object-up f g (p.1) (q.1))
  array-trans d e u f v g (inr p) (inr q) = inr (omega arith, q.1)

  pub type-refl : (a : FlowType) → type_fits supers a a ≡ true
  type-refl Unusable = refl
  type-refl Int = refl
  type-refl Long = refl
  type-refl High = refl
  type-refl Null = refl
  type-refl (Class c) = below-refl supers tree c
  type-refl (Array d e) = array-back supers d e d e (inl (refl, elem-refl e))
  type-refl (Fresh a) = grind (arith, nat_tests)
  type-refl FreshThis = refl

  class-up : (a : FlowType) (b : ℕ) (c : FlowType) → type_fits supers a (Class b) ≡ true → class_fits supers b c ≡ true → type_fits supers a c ≡ true
  class-up a b Unusable p q = top supers a
  class-up Null b (Class c) p q = refl
  class-up (Class a) b (Class c) p q = below-trans supers tree a b c p q
  class-up (Array d e) b (Class c) p q =
      let z : b ≡ 0 = grind (arith, nat_tests) in
      let w : c ≡ 0 = root-top c (subst (λ x. is_below supers x c ≡ true) z q) in
      rw w refl
  class-up _ b (Class c) p q = absurd cc
  class-up _ b _ p q = absurd cc

  array-up : (a : FlowType) (u : ℕ) (f : Element) (c : FlowType) → type_fits supers a (Array u f) ≡ true → array_type_fits supers u f c ≡ true → type_fits supers a c ≡ true
  array-up a u f Unusable p q = top supers a
  array-up Null u f (Class c) p q = refl
  array-up Null u f (Array v g) p q = refl
  array-up (Array d e) u f (Class c) p q = q
  array-up (Array d e) u f (Array v g) p q =
      array-back supers d e v g (array-trans d e u f v g (array-view supers d e u f p) (array-view supers u f v g q))
  array-up _ u f (Class c) p q = absurd cc
  array-up _ u f (Array v g) p q = absurd cc
  array-up _ u f _ p q = absurd cc

  along : (a b c : FlowType) → a ≡ b → type_fits supers b c ≡ true → type_fits supers a c ≡ true
  along a b c e h = subst (λ x. type_fits supers x c ≡ true) (sym e) h

  pub type-trans : (a b c : FlowType) → type_fits supers a b ≡ true → type_fits supers b c ≡ true → type_fits supers a c ≡ true
  type-trans a Unusable c p q = subst (λ x. type_fits supers a x ≡ true) (sym (only-top supers c q)) (top supers a)
  type-trans a Int c p q = along a Int c (only-same supers a Int tt p) q
  type-trans a Long c p q = along a Long c (only-same supers a Long tt p) q
  type-trans a High c p q = along a High c (only-same supers a High tt p) q
  type-trans a Null c p q = along a Null c (only-same supers a Null tt p) q
  type-trans a (Fresh x) c p q = along a (Fresh x) c (only-same supers a (Fresh x) tt p) q
  type-trans a FreshThis c p q = along a FreshThis c (only-same supers a FreshThis tt p) q
  type-trans a (Class b) c p q = class-up a b c p q
  type-trans a (Array u f) c p q = array-up a u f c p q

  array-antisym : (d : ℕ) (e : Element) (u : ℕ) (f : Element) → ArrayFits supers d e u f → ArrayFits supers u f d e → Array d e ≡ Array u f
  array-antisym d e u f (inl p) (inl q) = let x : d ≡ u = p.0 in let y : e ≡ f = elem-antisym e f (p.1) (q.1) in cc
  array-antisym d e u f (inl p) (inr q) = absurd (omega arith)
  array-antisym d e u f (inr p) (inl q) = absurd (omega arith)
  array-antisym d e u f (inr p) (inr q) = absurd (omega arith)

  pub type-antisym : (a b : FlowType) → type_fits supers a b ≡ true → type_fits supers b a ≡ true → a ≡ b
  type-antisym a Unusable p q = only-top supers a q
  type-antisym a Int p q = only-same supers a Int tt p
  type-antisym a Long p q = only-same supers a Long tt p
  type-antisym a High p q = only-same supers a High tt p
  type-antisym a Null p q = only-same supers a Null tt p
  type-antisym a (Fresh x) p q = only-same supers a (Fresh x) tt p
  type-antisym a FreshThis p q = only-same supers a FreshThis tt p
  type-antisym (Class a) (Class b) p q = ap Class (below-antisym supers tree a b p q)
  type-antisym (Array d e) (Array u f) p q = array-antisym d e u f (array-view supers d e u f p) (array-view supers u f d e q)
  type-antisym _ (Class b) p q = absurd cc
  type-antisym _ (Array u f) p q = absurd cc
