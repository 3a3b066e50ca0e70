-- One step up from a class.
use Rattle.std.proofs.Common.{◌≡◌, ◌∙◌, sym, ap, subst, refl, ℕ, zero, suc, ◌<◌, ◌==◌, Bool, true, false, List, [], ◌∷◌, Option, Some, None, ◌⊎◌, inl, inr, arith}
use Rattle.std.specs.Prelude.{slice_get, map, length, if◌then◌else◌}
use Rattle.std.specs.Option.{option_to_list}
use Rattle.jvm_base.specs.Words.{from}
use Rattle.hierarchy.specs.Hierarchy.{row_of}
use Rattle.hierarchy.specs.Walks.{has}
use Rattle.hierarchy.proofs.Tests.{or_split, equal_from, has_append}
use Rattle.program_image.specs.Program.{Program}
use Rattle.program_image.specs.Subclass.{above}
use Rattle.program_image.specs.declared.info.ArrayInfo.{ArrayInfo}
use Rattle.program_image.specs.declared.info.ClassInfo.{ClassInfo}
use Rattle.flow_types.specs.Tree.{superclasses, superclass, flat, is_below}
use Rattle.flow_types.specs.Types.{type_fits}
use Rattle.flow_types.specs.declared.flow_type.FlowType.{FlowType}
use Rattle.flow_types.specs.declared.flow_type.FlowType.TheVariants as flow
use Rattle.flow_types.proofs.TreeLaws.{below-from, below-refl, below-root}
use Rattle.instruction_table.specs.ClassTypes.{plain, element_type, array_at, class_type, is_an_interface}
use Rattle.typed_classes.specs.Tables.{listed_at, IsSuper, IsTable}

-- the type of a class that isn't of arrays, and of one that is
pub class_typed : (p : Program) (c : ℕ) → array_at p c ≡ None → class_type p c ≡ flow.Class (plain p c)
class_typed p c e = ap (λ (o : Option ArrayInfo). from (flow.Class (plain p c)) (λ a. flow.Array a.dims (element_type p a.elem)) o) e

pub array_typed : (p : Program) (c : ℕ) (a : ArrayInfo) → array_at p c ≡ Some a → class_type p c ≡ flow.Array a.dims (element_type p a.elem)
array_typed p c a e = ap (λ (o : Option ArrayInfo). from (flow.Class (plain p c)) (λ a. flow.Array a.dims (element_type p a.elem)) o) e

-- Object stands for an interface, and another class for itself
pub plain_interface : (p : Program) (c : ℕ) → is_an_interface p c ≡ true → plain p c ≡ 0
plain_interface p c e = rw e refl

pub plain_class : (p : Program) (c : ℕ) → is_an_interface p c ≡ false → plain p c ≡ c
plain_class p c e = rw e refl

-- what stands directly above a class: its superclass, or an interface that it lists
pub above_cases : (p : Program) (c k : ℕ) → has (row_of (map above p.classes) c) k ≡ true → (superclass (superclasses p) c ≡ Some k) ⊎ ((has (listed_at p c) k ≡ true) × (c < length (superclasses p)))
above_cases p c k h = in_row p.classes c h
  where
    in_super : (o : Option ℕ) → has (option_to_list o) k ≡ true → o ≡ Some k
    in_super None h = absurd cc
    in_super (Some j) h = elim (or_split (j == k) false h) [ inl e ↦ ap Some (equal_from j k e) | inr e ↦ absurd cc ]

    in_row : (cs : List ClassInfo) (c : ℕ) → has (row_of (map above cs) c) k ≡ true → (flat (slice_get (map (λ (i : ClassInfo). i.super_class) cs) c) ≡ Some k) ⊎ ((has (from [] (λ (i : ClassInfo). i.interfaces) (slice_get cs c)) k ≡ true) × (c < length (map (λ (i : ClassInfo). i.super_class) cs)))
    in_row [] c h = absurd cc
    in_row (i ∷ cs) zero h =
        elim (or_split (has (option_to_list i.super_class) k) (has i.interfaces k) (sym (has_append (option_to_list i.super_class) i.interfaces k) ∙ h)) [
          | inl e ↦ inl (in_super i.super_class e)
          | inr e ↦ inr (e, omega arith)
        ]
    in_row (i ∷ cs) (suc c) h =
        elim (in_row cs c h) [
          | inl e ↦ inl e
          | inr e ↦ inr (e.0, let l = e.1 in omega arith)
        ]

module _ (p : Program) (table : IsTable p) where
  abbrev supers : List (Option ℕ)
  supers = superclasses p

  -- what is there fits Object
  pub fits_object : (c : ℕ) → c < length supers → type_fits supers (class_type p c) (flow.Class 0) ≡ true
  fits_object c l = by_kind (array_at p c) (is_an_interface p c)
    where
      by_kind : (o : Option ArrayInfo) (i : Bool) → type_fits supers (from (flow.Class (if i then 0 else c)) (λ a. flow.Array a.dims (element_type p a.elem)) o) (flow.Class 0) ≡ true
      by_kind (Some a) i = refl
      by_kind None true = below-refl supers table.tree 0
      by_kind None false = below-root supers table.tree c l

  -- a class is of its superclass's type
  pub super_fits : (c k : ℕ) → superclass supers c ≡ Some k → type_fits supers (class_type p c) (class_type p k) ≡ true
  super_fits c k e =
      let s : IsSuper p k = table.supers c k e in
      let t : class_type p k ≡ flow.Class k = class_typed p k s.no_array ∙ ap flow.Class (plain_class p k s.no_interface) in
      subst (λ (x : FlowType). type_fits supers (class_type p c) x ≡ true) (sym t) (by_kind (array_at p c) refl (is_an_interface p c) refl)
    where
      by_kind : (o : Option ArrayInfo) → array_at p c ≡ o → (i : Bool) → is_an_interface p c ≡ i → type_fits supers (from (flow.Class (if i then 0 else c)) (λ a. flow.Array a.dims (element_type p a.elem)) o) (flow.Class k) ≡ true
      by_kind (Some a) q i r =
          let z : Some 0 ≡ Some k = sym ((table.arrays c a q).above) ∙ e in
          let y : 0 ≡ k = cc in
          subst (λ (x : ℕ). (x == 0) ≡ true) y refl
      by_kind None q true r = let y : k ≡ 0 = table.interfaces c k r e in subst (λ (x : ℕ). is_below supers 0 x ≡ true) (sym y) (below-refl supers table.tree 0)
      by_kind None q false r = below-from supers table.tree 1 c k (k, e, refl)

  -- it is of each type that stands directly above it
  pub above_fits : (c k : ℕ) → has (row_of (map above p.classes) c) k ≡ true → type_fits supers (class_type p c) (class_type p k) ≡ true
  above_fits c k h =
      elim (above_cases p c k h) [
        | inl e ↦ super_fits c k e
        | inr e ↦ let i : is_an_interface p k ≡ true = table.listed c k e.0 in subst (λ (x : FlowType). type_fits supers (class_type p c) x ≡ true) (sym (interface_typed k i)) (fits_object c e.1)
      ]
    where
      interface_typed : (k : ℕ) → is_an_interface p k ≡ true → class_type p k ≡ flow.Class 0
      interface_typed k i = by_array (array_at p k) refl
        where
          by_array : (o : Option ArrayInfo) → array_at p k ≡ o → class_type p k ≡ flow.Class 0
          by_array None q = class_typed p k q ∙ ap flow.Class (plain_interface p k i)
          by_array (Some a) q = let z : true ≡ false = sym i ∙ (table.arrays k a q).no_interface in absurd cc
