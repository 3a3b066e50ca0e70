-- Subclasses are of the types of their classes.
use Rattle.std.proofs.Common.{◌≡◌, ◌∙◌, sym, ap, subst, refl, ℕ, zero, suc, ◌-◌, ◌<◌, ◌==◌, Bool, true, false, List, [], ◌∷◌, Option, Some, None, inl, inr, arith}
use Rattle.std.specs.Prelude.{slice_get, map, length, if◌then◌else◌}
use Rattle.std.specs.List.{list_any}
use Rattle.std.proofs.lemmas.Bool.Decides.{nat_tests}
use Rattle.jvm_base.specs.Words.{from}
use Rattle.jvm_base.specs.declared.desc.Elem.{Elem}
use Rattle.jvm_base.specs.declared.desc.Elem.TheVariants as elem
use Rattle.hierarchy.specs.Hierarchy.{row_of}
use Rattle.hierarchy.specs.Walks.{has}
use Rattle.hierarchy.proofs.Tests.{or_split, or_left, or_right, equal_from, equal_to}
use Rattle.program_image.specs.Buffers.{string_buffer}
use Rattle.program_image.specs.Program.{Program}
use Rattle.program_image.specs.Subclass.{above, part_of, part_in, both, sub_by, is_sub_of}
use Rattle.program_image.specs.declared.info.ArrayInfo.{ArrayInfo}
use Rattle.program_image.specs.declared.info.ClassInfo.{ClassInfo}
use Rattle.flow_types.specs.Tree.{superclasses, superclass, is_below, Up}
use Rattle.flow_types.specs.Types.{type_fits, elem_fits, is_object, array_fits}
use Rattle.flow_types.specs.declared.element.Element.{Element}
use Rattle.flow_types.specs.declared.element.Element.TheVariants.{Object}
use Rattle.flow_types.specs.declared.flow_type.FlowType.{FlowType}
use Rattle.flow_types.specs.declared.flow_type.FlowType.TheVariants as flow
use Rattle.flow_types.proofs.TreeLaws.{below-to}
use Rattle.flow_types.proofs.TypeLaws.{type-refl, type-trans, array-view, array-back, ArrayFits}
use Rattle.instruction_table.specs.ClassTypes.{plain, element_type, ground_type, array_at, class_type, is_an_interface}
use Rattle.machine_state.specs.BootClasses.{string}
use Rattle.frame_soundness.specs.Holding.{component_type}
use Rattle.frame_soundness.specs.Natives.{string_type, buffer_type}
use Rattle.frame_soundness.proofs.HeldLaws.{class-shape, a_class, an_array}
use Rattle.typed_classes.specs.Tables.{is_closed, IsTable}
use Rattle.typed_classes.proofs.Steps.{class_typed, array_typed, super_fits, above_fits}

-- ---- lists and parts

-- an item that passes
any_has : (t : ℕ → Bool) (xs : List ℕ) → list_any t xs ≡ true → (x : ℕ) × (has xs x ≡ true) × (t x ≡ true)
any_has t [] h = absurd cc
any_has t (x ∷ xs) h =
    elim (or_split (t x) (list_any t xs) h) [
      | inl e ↦ (x, or_left (x == x) (has xs x) (equal_to x), e)
      | inr e ↦ let (y, a, b) = any_has t xs e in (y, or_right (x == y) (has xs y) a, b)
    ]

-- two numbers that are there and pass
both_there : (f : ℕ → ℕ → Bool) (a b : Option ℕ) → both f a b ≡ true → (x : ℕ) × (y : ℕ) × (a ≡ Some x) × (b ≡ Some y) × (f x y ≡ true)
both_there f (Some x) (Some y) h = (x, y, refl, refl, h)
both_there f (Some x) None h = absurd cc
both_there f None b h = absurd cc

-- a part is that of an array
array_of_part : (p : Program) (c part : ℕ) → part_of p.classes c ≡ Some part → (a : ArrayInfo) × (array_at p c ≡ Some a) × (a.part ≡ Some part)
array_of_part p c part h = by_class (slice_get p.classes c) h
  where
    by_array : (o : Option ArrayInfo) → from None (λ (a : ArrayInfo). a.part) o ≡ Some part → (a : ArrayInfo) × (o ≡ Some a) × (a.part ≡ Some part)
    by_array None h = absurd cc
    by_array (Some a) h = (a, refl, h)

    by_class : (o : Option ClassInfo) → from None part_in o ≡ Some part → (a : ArrayInfo) × (from None (λ (k : ClassInfo). k.array) o ≡ Some a) × (a.part ≡ Some part)
    by_class None h = absurd cc
    by_class (Some i) h = by_array i.array h

-- ---- arrays

-- a class's type isn't that of an int or a long
no_class_type : (p : Program) (x : ℕ) (t : FlowType) → class_type p x ≡ t → ((c : ℕ) → t ≡ flow.Class c → ⊥) → ((d : ℕ) (e : Element) → t ≡ flow.Array d e → ⊥) → ⊥
no_class_type p x t e f g = elim (class-shape p x) [ a_class c q ↦ f c (sym e ∙ q) | an_array d el q ↦ g d el (sym e ∙ q) ]

-- the parts of an array of one dimension that are of a class are of its elements
ground_class : (p : Program) (x : ℕ) (e : Elem) → class_type p x ≡ ground_type p e → (k : ℕ) × (ground_type p e ≡ flow.Class k) × (element_type p e ≡ Object k)
ground_class p x (elem.Object name) h = (plain p _, refl, refl)
ground_class p x elem.Long h = absurd (no_class_type p x flow.Long h (λ c q. cc) (λ d e q. cc))
ground_class p x _ h = absurd (no_class_type p x flow.Int h (λ c q. cc) (λ d e q. cc))

module _ (p : Program) (table : IsTable p) where
  abbrev supers : List (Option ℕ)
  supers = superclasses p

  -- arrays fit where their parts do (JVMS2 2.6.7)
  arrays_fit : (a b : ArrayInfo) → 0 < a.dims → 0 < b.dims → (x y : ℕ) → class_type p x ≡ component_type p a → class_type p y ≡ component_type p b → type_fits supers (class_type p x) (class_type p y) ≡ true → array_fits supers a.dims (element_type p a.elem) b.dims (element_type p b.elem) ≡ true
  arrays_fit a b la lb x y ex ey h = array-back supers a.dims (element_type p a.elem) b.dims (element_type p b.elem) (by_dims (a.dims == 1) refl (b.dims == 1) refl ex ey)
    where
      by_dims : (s : Bool) → (a.dims == 1) ≡ s → (t : Bool) → (b.dims == 1) ≡ t → class_type p x ≡ (if s then ground_type p a.elem else flow.Array (a.dims - 1) (element_type p a.elem)) → class_type p y ≡ (if t then ground_type p b.elem else flow.Array (b.dims - 1) (element_type p b.elem)) → ArrayFits supers a.dims (element_type p a.elem) b.dims (element_type p b.elem)
      by_dims true q true r f g =
          let (k, gk, ek) = ground_class p x a.elem f in
          let (j, gj, ej) = ground_class p y b.elem g in
          let z : is_below supers k j ≡ true = subst (λ (u : FlowType). type_fits supers u (flow.Class j) ≡ true) (f ∙ gk) (subst (λ (u : FlowType). type_fits supers (class_type p x) u ≡ true) (g ∙ gj) h) in
          inl (grind (arith, nat_tests), subst (λ (u : Element). elem_fits supers u (element_type p b.elem) ≡ true) (sym ek) (subst (λ (u : Element). elem_fits supers (Object k) u ≡ true) (sym ej) z))
      by_dims true q false r f g =
          let (k, gk, ek) = ground_class p x a.elem f in
          let z : type_fits supers (flow.Class k) (flow.Array (b.dims - 1) (element_type p b.elem)) ≡ true = subst (λ (u : FlowType). type_fits supers u (flow.Array (b.dims - 1) (element_type p b.elem)) ≡ true) (f ∙ gk) (subst (λ (u : FlowType). type_fits supers (class_type p x) u ≡ true) g h) in
          absurd cc
      by_dims false q true r f g =
          let (j, gj, ej) = ground_class p y b.elem g in
          let z : (j == 0) ≡ true = subst (λ (u : FlowType). type_fits supers u (flow.Class j) ≡ true) f (subst (λ (u : FlowType). type_fits supers (class_type p x) u ≡ true) (g ∙ gj) h) in
          inr (grind (arith, nat_tests), subst (λ (u : Element). is_object u ≡ true) (sym ej) z)
      by_dims false q false r f g =
          let z : array_fits supers (a.dims - 1) (element_type p a.elem) (b.dims - 1) (element_type p b.elem) ≡ true = subst (λ (u : FlowType). type_fits supers u (flow.Array (b.dims - 1) (element_type p b.elem)) ≡ true) f (subst (λ (u : FlowType). type_fits supers (class_type p x) u ≡ true) g h) in
          elim (array-view supers (a.dims - 1) (element_type p a.elem) (b.dims - 1) (element_type p b.elem) z) [
            | inl v ↦ inl (let w = v.0 in grind (arith, nat_tests), v.1)
            | inr v ↦ inr (let w = v.0 in grind (arith, nat_tests), v.1)
          ]

  -- ---- subclasses

  sub_fits_by : (n a c : ℕ) → sub_by n p.classes a c ≡ true → type_fits supers (class_type p a) (class_type p c) ≡ true
  unfolding sub_by
  sub_fits_by zero a c h = subst (λ (x : ℕ). type_fits supers (class_type p a) (class_type p x) ≡ true) (equal_from a c h) (type-refl supers table.tree (class_type p a))
  sub_fits_by (suc n) a c h =
      elim (or_split (a == c) _ h) [
        | inl e ↦ subst (λ (x : ℕ). type_fits supers (class_type p a) (class_type p x) ≡ true) (equal_from a c e) (type-refl supers table.tree (class_type p a))
        | inr r ↦ elim (or_split (list_any (λ k. sub_by n p.classes k c) (row_of (map above p.classes) a)) _ r) [
          | inl e ↦
              let (k, w, s) = any_has (λ k. sub_by n p.classes k c) (row_of (map above p.classes) a) e in
              type-trans supers table.tree (class_type p a) (class_type p k) (class_type p c) (above_fits p table a k w) (sub_fits_by n k c s)
          | inr e ↦
              let (x, y, ex, ey, s) = both_there (sub_by n p.classes) (part_of p.classes a) (part_of p.classes c) e in
              let (i, ai, pi) = array_of_part p a x ex in
              let (j, aj, pj) = array_of_part p c y ey in
              let f : array_fits supers i.dims (element_type p i.elem) j.dims (element_type p j.elem) ≡ true =
              arrays_fit i j (table.arrays a i ai).deep (table.arrays c j aj).deep x y ((table.arrays a i ai).part_typed x pi) ((table.arrays c j aj).part_typed y pj) (sub_fits_by n x y s) in
              subst (λ (u : FlowType). type_fits supers u (class_type p c) ≡ true) (sym (array_typed p a i ai)) (subst (λ (u : FlowType). type_fits supers (flow.Array i.dims (element_type p i.elem)) u ≡ true) (sym (array_typed p c j aj)) f)
        ]
      ]

  -- a class below another is of its type
  pub sub_fits : (a c : ℕ) → is_sub_of p.classes a c ≡ true → type_fits supers (class_type p a) (class_type p c) ≡ true
  unfolding is_sub_of
  sub_fits a c h = sub_fits_by (suc (length p.classes)) a c h

  -- ---- superclasses

  up_fits : (n c k : ℕ) → array_at p k ≡ None → Up supers n c k → type_fits supers (class_type p c) (flow.Class (plain p k)) ≡ true
  up_fits zero c k e u =
      subst (λ (x : ℕ). type_fits supers (class_type p x) (flow.Class (plain p k)) ≡ true) (sym u) (subst (λ (t : FlowType). type_fits supers t (flow.Class (plain p k)) ≡ true) (sym (class_typed p k e)) (type-refl supers table.tree (flow.Class (plain p k))))
  up_fits (suc n) c k e (d, s, u) = type-trans supers table.tree (class_type p c) (class_type p d) (flow.Class (plain p k)) (super_fits p table c d s) (up_fits n d k e u)

  -- so is one that has it among its superclasses
  pub supers_fit : (c k : ℕ) → array_at p k ≡ None → is_below supers c k ≡ true → type_fits supers (class_type p c) (flow.Class (plain p k)) ≡ true
  supers_fit c k e h = let (n, u) = below-to supers table.tree c k h in up_fits n c k e u

  -- ---- classes without subclasses

  last_step : (n a b : ℕ) → Up supers (suc n) a b → (j : ℕ) × (superclass supers j ≡ Some b)
  last_step zero a b (d, s, u) = (a, s ∙ ap Some u)
  last_step (suc n) a b (d, s, u) = last_step n d b u

  up_closed : (n a b : ℕ) → is_closed b ≡ true → Up supers n a b → a ≡ b
  up_closed zero a b c u = u
  up_closed (suc n) a b c u =
      let (j, s) = last_step n a b u in
      let z : true ≡ false = sym c ∙ (table.supers j b s).no_closed in absurd cc

  -- what is of such a class's type is the class
  only_itself : (b k : ℕ) → is_closed b ≡ true → (b == 0) ≡ false → type_fits supers (class_type p k) (flow.Class b) ≡ true → k ≡ b
  only_itself b k c n h = by_kind (array_at p k) (is_an_interface p k) h
    where
      by_kind : (o : Option ArrayInfo) (i : Bool) → type_fits supers (from (flow.Class (if i then 0 else k)) (λ a. flow.Array a.dims (element_type p a.elem)) o) (flow.Class b) ≡ true → k ≡ b
      by_kind (Some a) i h = let z : false ≡ true = sym n ∙ h in absurd cc
      by_kind None true h =
          let (m, u) = below-to supers table.tree 0 b h in
          let z : 0 ≡ b = up_closed m 0 b c u in
          absurd (grind (arith, nat_tests))
      by_kind None false h = let (m, u) = below-to supers table.tree k b h in up_closed m k b c u

  pub strings : (k : ℕ) → type_fits supers (class_type p k) string_type ≡ true → k ≡ string
  strings k h = only_itself string k refl refl h

  pub buffers : (k : ℕ) → type_fits supers (class_type p k) buffer_type ≡ true → k ≡ string_buffer
  buffers k h = only_itself string_buffer k refl refl h
