-- `joined` is the least type that both fit.
use Rattle.std.proofs.Common.{◌≡◌, ◌∙◌, sym, subst, refl, ℕ, ◌<◌, ◌≤◌, ◌^◌, min, true, false, List, length, Option, inl, inr, arith}
use Rattle.std.proofs.lemmas.Bool.{cases_Bool, eqb-true, eq-eqb}
use Rattle.std.proofs.lemmas.Bool.Decides.{eqb_tells, nat_tests}
use Rattle.flow_types.specs.Primitives.{primitive_number}
use Rattle.flow_types.specs.Tree.{first_common, IsTree}
use Rattle.flow_types.specs.Types.{elem_fits, is_object, array_fits, type_fits, array_type_fits, null_fits, levels_of, objects_of, arrays_above, unlike_joined, joined, IsElem, IsType}
use Rattle.flow_types.specs.declared.element.Element.{Element}
use Rattle.flow_types.specs.declared.element.Element.TheVariants.{Primitive, Object}
use Rattle.flow_types.specs.declared.flow_type.FlowType.{FlowType}
use Rattle.flow_types.specs.declared.flow_type.FlowType.TheVariants.{Unusable, Int, Long, High, Null, Class, Array, Fresh, FreshThis}
use Rattle.flow_types.proofs.TreeLaws.{below-refl, below-root, common-left, common-right, common-least, common-inside}
use Rattle.flow_types.proofs.TypeLaws.{top, ArrayFits, array-view, array-back, same_only, only-same, type-refl}

-- arrays of Object, of any number of levels
objects-above : (supers : List (Option ℕ)) → IsTree supers → (d : ℕ) (e : Element) (n : ℕ) → 0 < d → IsElem supers e → n ≤ levels_of d e → array_type_fits supers d e (objects_of n) ≡ true
objects-above supers tree d (Primitive k) n pos ie le =
    elim (eqb_tells n 0) [
      | inl p ↦ rw (p.0) refl
      | inr q ↦ rw (q.0) (array-back supers d (Primitive k) n (Object 0) (inr (omega arith, refl)))
    ]
objects-above supers tree d (Object c) n pos ie le =
    elim (eqb_tells n 0) [
      | inl p ↦ rw (p.0) refl
      | inr q ↦ elim (eqb_tells d n) [
        | inl r ↦ rw (q.0) (array-back supers d (Object c) n (Object 0) (inl (r.1, below-root supers tree c ie)))
        | inr r ↦ rw (q.0) (array-back supers d (Object c) n (Object 0) (inr (grind (arith, nat_tests), refl)))
      ]
    ]

objects-object : (supers : List (Option ℕ)) → IsTree supers → (n : ℕ) → type_fits supers (objects_of n) (Class 0) ≡ true
objects-object supers tree n = elim (eqb_tells n 0) [ inl p ↦ rw (p.0) (below-refl supers tree 0) | inr q ↦ rw (q.0) refl ]

objects-array : (supers : List (Option ℕ)) → IsTree supers → (n v : ℕ) (g : Element) → 0 < v → v ≤ n → is_object g ≡ true → type_fits supers (objects_of n) (Array v g) ≡ true
objects-array supers tree n v (Primitive k) pos le o = absurd cc
objects-array supers tree n v (Object c) pos le o =
    let z : c ≡ 0 = grind (arith, nat_tests) in
    elim (eqb_tells n 0) [
      | inl p ↦ absurd (omega arith)
      | inr q ↦ elim (eqb_tells n v) [
        | inl r ↦ rw (q.0) (array-back supers n (Object 0) v (Object c) (inl (r.1, rw z (below-refl supers tree 0))))
        | inr r ↦ rw (q.0) (array-back supers n (Object 0) v (Object c) (inr (grind (arith, nat_tests), o)))
      ]
    ]

abbrev NotBoth : ℕ → Element → ℕ → Element → Type 0
NotBoth d (Object a) u (Object b) = d ≡ u → ⊥
NotBoth d (Primitive k) u f = Unit {0}
NotBoth d (Object a) u (Primitive k) = Unit {0}

-- what two arrays of unlike types have above them
data Upper (supers : List (Option ℕ)) (d : ℕ) (e : Element) (u : ℕ) (f : Element) : Type 0 where
  both : (a b : ℕ) → d ≡ u → e ≡ Object a → f ≡ Object b → arrays_above supers d e u f ≡ Array d (Object (first_common (length supers) supers a b)) → Upper supers d e u f
  shared : NotBoth d e u f → arrays_above supers d e u f ≡ objects_of (min (levels_of d e) (levels_of u f)) → Upper supers d e u f

upper : (supers : List (Option ℕ)) (d : ℕ) (e : Element) (u : ℕ) (f : Element) → Upper supers d e u f
upper supers d (Primitive k) u f = shared tt refl
upper supers d (Object a) u (Primitive k) = shared tt refl
upper supers d (Object a) u (Object b) =
    elim (eqb_tells d u) [ inl p ↦ both a b (p.1) refl refl (rw (p.0) refl) | inr q ↦ shared (q.1) (rw (q.0) refl) ]

level-left : (supers : List (Option ℕ)) (d : ℕ) (e : Element) (v : ℕ) (g : Element) → is_object g ≡ true → ArrayFits supers d e v g → v ≤ levels_of d e
level-left supers d (Primitive k) v (Primitive j) o h = absurd cc
level-left supers d (Object c) v (Primitive j) o h = absurd cc
level-left supers d (Primitive k) v (Object c) o (inl p) = let x : false ≡ true = p.1 in absurd cc
level-left supers d (Primitive k) v (Object c) o (inr p) = omega arith
level-left supers d (Object a) v (Object c) o (inl p) = omega arith
level-left supers d (Object a) v (Object c) o (inr p) = omega arith

module _ (supers : List (Option ℕ)) (tree : IsTree supers) where
  like : (d : ℕ) (e : Element) (u : ℕ) (f : Element) (v : ℕ) (g : Element) → NotBoth d e u f → array_fits supers d e u f ≡ false → (d ≡ v) × (elem_fits supers e g ≡ true) → (u ≡ v) × (elem_fits supers f g ≡ true) → ⊥
  like d (Object a) u (Object b) v g n un p q = n (p.0 ∙ sym (q.0))
  like d (Object a) u (Primitive b) v (Object c) n un p q = let x : false ≡ true = q.1 in absurd cc
  like d (Object a) u (Primitive b) v (Primitive c) n un p q = let x : false ≡ true = p.1 in absurd cc
  like d (Primitive a) u f v (Object c) n un p q = let x : false ≡ true = p.1 in absurd cc
  like d (Primitive a) u (Object b) v (Primitive c) n un p q = let x : false ≡ true = q.1 in absurd cc
  like d (Primitive a) u (Primitive b) v (Primitive c) n un p q =
      let e1 : primitive_number a ≡ primitive_number c = eqb-true (primitive_number a) (primitive_number c) (p.1) in let e2 : primitive_number b ≡ primitive_number c = eqb-true (primitive_number b) (primitive_number c) (q.1) in
      let e3 : array_fits supers d (Primitive a) u (Primitive b) ≡ true = array-back supers d (Primitive a) u (Primitive b) (inl (p.0 ∙ sym (q.0), eq-eqb (primitive_number a) (primitive_number b) (e1 ∙ sym e2))) in absurd cc

  elem-left : (e f : Element) (a b : ℕ) → e ≡ Object a → f ≡ Object b → IsElem supers e → IsElem supers f → elem_fits supers e (Object (first_common (length supers) supers a b)) ≡ true
  elem-left (Primitive k) f a b p q x y = absurd cc
  elem-left (Object c) (Primitive k) a b p q x y = absurd cc
  elem-left (Object c) (Object d) a b p q x y =
      let e1 : c ≡ a = cc in let e2 : d ≡ b = cc in rw (sym e1, sym e2) (common-left supers tree c d x y)

  elem-right : (e f : Element) (a b : ℕ) → e ≡ Object a → f ≡ Object b → IsElem supers e → IsElem supers f → elem_fits supers f (Object (first_common (length supers) supers a b)) ≡ true
  elem-right (Primitive k) f a b p q x y = absurd cc
  elem-right (Object c) (Primitive k) a b p q x y = absurd cc
  elem-right (Object c) (Object d) a b p q x y =
      let e1 : c ≡ a = cc in let e2 : d ≡ b = cc in rw (sym e1, sym e2) (common-right supers tree c d x y)

  both-least : (d u a b v : ℕ) (g : Element) → d ≡ u → ArrayFits supers d (Object a) v g → ArrayFits supers u (Object b) v g → type_fits supers (Array d (Object (first_common (length supers) supers a b))) (Array v g) ≡ true
  both-least d u a b v (Primitive k) e (inl p) y = let x : false ≡ true = p.1 in absurd cc
  both-least d u a b v (Primitive k) e (inr p) y = let x : false ≡ true = p.1 in absurd cc
  both-least d u a b v (Object c) e (inl p) (inl q) = array-back supers d (Object (first_common (length supers) supers a b)) v (Object c) (inl (p.0, common-least supers tree a b c (p.1) (q.1)))
  both-least d u a b v (Object c) e (inl p) (inr q) = absurd (omega arith)
  both-least d u a b v (Object c) e (inr p) y = array-back supers d (Object (first_common (length supers) supers a b)) v (Object c) (inr p)

  shared-least : (d : ℕ) (e : Element) (u : ℕ) (f : Element) (v : ℕ) (g : Element) → 0 < v → NotBoth d e u f → array_fits supers d e u f ≡ false → ArrayFits supers d e v g → ArrayFits supers u f v g → type_fits supers (objects_of (min (levels_of d e) (levels_of u f))) (Array v g) ≡ true
  shared-least d e u f v g pos n un (inl p) (inl q) = absurd (like d e u f v g n un p q)
  shared-least d e u f v g pos n un (inr p) y =
      objects-array supers tree _ v g pos (let i : v ≤ levels_of d e = level-left supers d e v g (p.1) (inr p) in let j : v ≤ levels_of u f = level-left supers u f v g (p.1) y in omega arith) (p.1)
  shared-least d e u f v g pos n un x (inr p) =
      objects-array supers tree _ v g pos (let i : v ≤ levels_of d e = level-left supers d e v g (p.1) x in let j : v ≤ levels_of u f = level-left supers u f v g (p.1) (inr p) in omega arith) (p.1)

  arrays-left : (d : ℕ) (e : Element) (u : ℕ) (f : Element) → IsType supers (Array d e) → IsType supers (Array u f) → array_type_fits supers d e (arrays_above supers d e u f) ≡ true
  arrays-left d e u f td tu =
      elim (upper supers d e u f) [
        | both a b p q r s ↦ rw s (array-back supers d e d _ (inl (refl, elem-left e f a b q r (td.2) (tu.2))))
        | shared n s ↦ rw s (objects-above supers tree d e _ (td.0) (td.2) (omega arith))
      ]

  arrays-right : (d : ℕ) (e : Element) (u : ℕ) (f : Element) → IsType supers (Array d e) → IsType supers (Array u f) → array_type_fits supers u f (arrays_above supers d e u f) ≡ true
  arrays-right d e u f td tu =
      elim (upper supers d e u f) [
        | both a b p q r s ↦ rw s (array-back supers u f d _ (inl (sym p, elem-right e f a b q r (td.2) (tu.2))))
        | shared n s ↦ rw s (objects-above supers tree u f _ (tu.0) (tu.2) (omega arith))
      ]

  unlike-left : (a b : FlowType) → IsType supers a → IsType supers b → type_fits supers a (unlike_joined supers a b) ≡ true
  unlike-left (Class a) (Class b) p q = common-left supers tree a b p q
  unlike-left (Class a) (Array d e) p q = below-root supers tree a p
  unlike-left (Class a) _ p q = refl
  unlike-left (Array d e) (Array u f) p q = arrays-left d e u f p q
  unlike-left (Array d e) (Class b) p q = refl
  unlike-left (Array d e) _ p q = refl
  unlike-left a b p q = top supers a

  unlike-right : (a b : FlowType) → IsType supers a → IsType supers b → type_fits supers b (unlike_joined supers a b) ≡ true
  unlike-right (Class a) (Class b) p q = common-right supers tree a b p q
  unlike-right (Class a) (Array d e) p q = refl
  unlike-right (Class a) b p q = top supers b
  unlike-right (Array d e) (Array u f) p q = arrays-right d e u f p q
  unlike-right (Array d e) (Class b) p q = below-root supers tree b q
  unlike-right (Array d e) b p q = top supers b
  unlike-right a b p q = top supers b

  arrays-least : (d : ℕ) (e : Element) (u : ℕ) (f : Element) (v : ℕ) (g : Element) → 0 < v → array_fits supers d e u f ≡ false → ArrayFits supers d e v g → ArrayFits supers u f v g → type_fits supers (arrays_above supers d e u f) (Array v g) ≡ true
  arrays-least d e u f v g pos un x y =
      elim (upper supers d e u f) [
        | both a b p q r s ↦ rw s (both-least d u a b v g p (subst (λ z. ArrayFits supers d z v g) q x) (subst (λ z. ArrayFits supers u z v g) r y))
        | shared n s ↦ rw s (shared-least d e u f v g pos n un x y)
      ]

  arrays-class : (d : ℕ) (e : Element) (u : ℕ) (f : Element) → type_fits supers (arrays_above supers d e u f) (Class 0) ≡ true
  arrays-class d e u f =
      elim (upper supers d e u f) [
        | both a b p q r s ↦ rw s refl
        | shared n s ↦ rw s (objects-object supers tree _)
      ]

  null-class : (b : FlowType) (c : ℕ) → type_fits supers b (Class c) ≡ true → null_fits b ≡ true
  null-class Null c h = refl
  null-class (Class b) c h = refl
  null-class (Array d e) c h = refl
  null-class _ c h = absurd cc

  null-array : (b : FlowType) (u : ℕ) (f : Element) → type_fits supers b (Array u f) ≡ true → null_fits b ≡ true
  null-array Null u f h = refl
  null-array (Array d e) u f h = refl
  null-array _ u f h = absurd cc

  same-least : (a b u : FlowType) → same_only u → type_fits supers a b ≡ false → type_fits supers a u ≡ true → type_fits supers b u ≡ true → type_fits supers (unlike_joined supers a b) u ≡ true
  same-least a b u s un p q =
      let x : a ≡ u = only-same supers a u s p in
      let y : b ≡ u = only-same supers b u s q in
      let z : type_fits supers a a ≡ false = subst (λ t. type_fits supers a t ≡ false) (y ∙ sym x) un in
      let w : type_fits supers a a ≡ true = type-refl supers tree a in
      absurd cc

  unlike-least-class : (a b : FlowType) (c : ℕ) → type_fits supers a b ≡ false → type_fits supers b a ≡ false → type_fits supers a (Class c) ≡ true → type_fits supers b (Class c) ≡ true → type_fits supers (unlike_joined supers a b) (Class c) ≡ true
  unlike-least-class Null b c p q x y = let z : null_fits b ≡ true = null-class b c y in absurd cc
  unlike-least-class (Class a) Null c p q x y = absurd cc
  unlike-least-class (Class a) (Class b) c p q x y = common-least supers tree a b c x y
  unlike-least-class (Class a) (Array d e) c p q x y = let z : c ≡ 0 = grind (arith, nat_tests) in rw z (below-refl supers tree 0)
  unlike-least-class (Class a) _ c p q x y = absurd cc
  unlike-least-class (Array d e) Null c p q x y = absurd cc
  unlike-least-class (Array d e) (Class b) c p q x y = let z : c ≡ 0 = grind (arith, nat_tests) in rw z (below-refl supers tree 0)
  unlike-least-class (Array d e) (Array u f) c p q x y = let z : c ≡ 0 = grind (arith, nat_tests) in rw z (arrays-class d e u f)
  unlike-least-class (Array d e) _ c p q x y = absurd cc
  unlike-least-class _ b c p q x y = absurd cc

  unlike-least-array : (a b : FlowType) (v : ℕ) (g : Element) → 0 < v → type_fits supers a b ≡ false → type_fits supers b a ≡ false → type_fits supers a (Array v g) ≡ true → type_fits supers b (Array v g) ≡ true → type_fits supers (unlike_joined supers a b) (Array v g) ≡ true
  unlike-least-array Null b v g pos p q x y = let z : null_fits b ≡ true = null-array b v g y in absurd cc
  unlike-least-array (Array d e) Null v g pos p q x y = absurd cc
  unlike-least-array (Array d e) (Array u f) v g pos p q x y = arrays-least d e u f v g pos p (array-view supers d e v g x) (array-view supers u f v g y)
  unlike-least-array (Array d e) _ v g pos p q x y = absurd cc
  unlike-least-array _ b v g pos p q x y = absurd cc

  unlike-least : (a b u : FlowType) → IsType supers u → type_fits supers a b ≡ false → type_fits supers b a ≡ false → type_fits supers a u ≡ true → type_fits supers b u ≡ true → type_fits supers (unlike_joined supers a b) u ≡ true
  unlike-least a b Unusable t p q x y = top supers (unlike_joined supers a b)
  unlike-least a b (Class c) t p q x y = unlike-least-class a b c p q x y
  unlike-least a b (Array v g) t p q x y = unlike-least-array a b v g (t.0) p q x y
  unlike-least a b Int t p q x y = same-least a b Int tt p x y
  unlike-least a b Long t p q x y = same-least a b Long tt p x y
  unlike-least a b High t p q x y = same-least a b High tt p x y
  unlike-least a b Null t p q x y = same-least a b Null tt p x y
  unlike-least a b (Fresh i) t p q x y = same-least a b (Fresh i) tt p x y
  unlike-least a b FreshThis t p q x y = same-least a b FreshThis tt p x y

  pub joined-left : (a b : FlowType) → IsType supers a → IsType supers b → type_fits supers a (joined supers a b) ≡ true
  joined-left a b p q =
      elim (cases_Bool (type_fits supers a b)) [
        | inl h ↦ rw h h
        | inr h ↦ elim (cases_Bool (type_fits supers b a)) [
          | inl g ↦ rw (h, g) (type-refl supers tree a)
          | inr g ↦ rw (h, g) (unlike-left a b p q)
        ]
      ]

  pub joined-right : (a b : FlowType) → IsType supers a → IsType supers b → type_fits supers b (joined supers a b) ≡ true
  joined-right a b p q =
      elim (cases_Bool (type_fits supers a b)) [
        | inl h ↦ rw h (type-refl supers tree b)
        | inr h ↦ elim (cases_Bool (type_fits supers b a)) [
          | inl g ↦ rw (h, g) g
          | inr g ↦ rw (h, g) (unlike-right a b p q)
        ]
      ]

  pub joined-least : (a b u : FlowType) → IsType supers u → type_fits supers a u ≡ true → type_fits supers b u ≡ true → type_fits supers (joined supers a b) u ≡ true
  joined-least a b u t x y =
      elim (cases_Bool (type_fits supers a b)) [
        | inl h ↦ rw h y
        | inr h ↦ elim (cases_Bool (type_fits supers b a)) [
          | inl g ↦ rw (h, g) x
          | inr g ↦ rw (h, g) (unlike-least a b u t h g x y)
        ]
      ]

  objects-inside : (n : ℕ) → n < 2 ^ 8 → IsType supers (objects_of n)
  objects-inside n small = elim (eqb_tells n 0) [ inl p ↦ rw (p.0) (tree.some) | inr q ↦ rw (q.0) (omega arith, small, tree.some) ]

  elem-inside : (e : Element) (a : ℕ) → e ≡ Object a → IsElem supers e → a < length supers
  elem-inside (Primitive k) a p h = absurd cc
  elem-inside (Object c) a p h = let e : c ≡ a = cc in subst (λ x. x < length supers) e h

  level-small : (d : ℕ) (e : Element) → d < 2 ^ 8 → levels_of d e < 2 ^ 8
  level-small d (Primitive k) h = omega arith
  level-small d (Object c) h = h

  arrays-inside : (d : ℕ) (e : Element) (u : ℕ) (f : Element) → IsType supers (Array d e) → IsType supers (Array u f) → IsType supers (arrays_above supers d e u f)
  arrays-inside d e u f td tu =
      elim (upper supers d e u f) [
        | both a b p q r s ↦ rw s (td.0, td.1, common-inside supers tree a b (elem-inside e a q (td.2)) (elem-inside f b r (tu.2)))
        | shared n s ↦ rw s (objects-inside _ (let i : levels_of d e < 2 ^ 8 = level-small d e (td.1) in omega arith))
      ]

  unlike-inside : (a b : FlowType) → IsType supers a → IsType supers b → IsType supers (unlike_joined supers a b)
  unlike-inside (Class a) (Class b) p q = common-inside supers tree a b p q
  unlike-inside (Class a) (Array d e) p q = tree.some
  unlike-inside (Class a) _ p q = tt
  unlike-inside (Array d e) (Array u f) p q = arrays-inside d e u f p q
  unlike-inside (Array d e) (Class b) p q = tree.some
  unlike-inside (Array d e) _ p q = tt
  unlike-inside _ b p q = tt

  pub joined-inside : (a b : FlowType) → IsType supers a → IsType supers b → IsType supers (joined supers a b)
  joined-inside a b p q =
      elim (cases_Bool (type_fits supers a b)) [
        | inl h ↦ rw h q
        | inr h ↦ elim (cases_Bool (type_fits supers b a)) [
          | inl g ↦ rw (h, g) p
          | inr g ↦ rw (h, g) (unlike-inside a b p q)
        ]
      ]
