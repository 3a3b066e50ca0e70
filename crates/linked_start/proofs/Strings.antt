-- The arrays of Strings of an image.
use Rattle.std.proofs.Common.{◌≡◌, ◌∙◌, sym, ap, subst, refl, ℕ, zero, suc, ◌+◌, ◌-◌, ◌==◌, Bool, true, false, List, [], ◌∷◌, ◌++◌, length, slice_get, position, Option, Some, None}
use Rattle.std.specs.Prelude.{nat_eq, codes, if◌then◌else◌}
use Rattle.std.specs.List.{position_from}
use Rattle.std.specs.Option.{option_eq}
use Rattle.std.proofs.lemmas.Iterator.Adapters.{position_from-zero}
use Rattle.jvm_base.specs.Words.{from}
use Rattle.jvm_base.specs.declared.desc.Desc.{Desc}
use Rattle.jvm_base.specs.declared.desc.Elem.{Elem}
use Rattle.jvm_base.specs.declared.desc.Elem.TheVariants as elem
use Rattle.boot_table.specs.Files.{boot_files}
use Rattle.boot_table.specs.Table.{boot_rows, first_rows, exceptions}
use Rattle.class_format.specs.declared.class.ClassFile.{ClassFile}
use Rattle.hierarchy.proofs.Tests.{equal_from}
use Rattle.link_rules.specs.Numbers.{number_of}
use Rattle.link_arrays.specs.ArrayClasses.{array_class, type_number, part_type}
use Rattle.link_arrays.specs.Arrays.{strings}
use Rattle.link_uses.specs.declared.lookup.Found.{Found}
use Rattle.link_image.specs.Image.{image_of}
use Rattle.program_image.specs.Program.{Program}
use Rattle.program_image.specs.declared.info.ArrayInfo.{ArrayInfo}
use Rattle.program_image.specs.declared.info.ClassInfo.{ClassInfo}
use Rattle.flow_types.specs.declared.element.Element.TheVariants.{Object}
use Rattle.flow_types.specs.declared.flow_type.FlowType.TheVariants as flow
use Rattle.instruction_table.specs.ClassTypes.{plain, class_named, element_type, ground_type, array_at, class_type}
use Rattle.machine_state.specs.BootClasses.{string}
use Rattle.machine_state.specs.Classes.{array_class_over}
use Rattle.frame_soundness.specs.Holding.{component_type}
use Rattle.typed_classes.specs.Tables.{IsTable}
use Rattle.typed_classes.proofs.Steps.{array_typed}
use Rattle.linked_classes.specs.Linking.{AreRight}
use Rattle.linked_classes.proofs.Above.{of_array, table_law}
use Rattle.linked_classes.proofs.BootAbove.{number_front}
use Rattle.linked_classes.proofs.Positions.{position_at}
use Rattle.linked_start.specs.Linking.{HaveStrings}
use Rattle.linked_start.proofs.Boot.{string_class}

-- an item that passes is found, or one before it
found_from : {A : Type 0} (t : A → Bool) (n : ℕ) (xs : List A) (i : ℕ) (x : A) → slice_get xs i ≡ Some x → t x ≡ true → (k : ℕ) × (position_from t n xs ≡ Some k)
found_from t n [] i x e h = absurd cc
found_from t n (y ∷ ys) zero x e h = let s : y ≡ x = cc in let q : t y ≡ true = ap t s ∙ h in (n, rw q refl)
found_from t n (y ∷ ys) (suc i) x e h = by_test (t y) (found_from t (n + 1) ys i x e h)
  where
    by_test : (b : Bool) → (k : ℕ) × (position_from t (n + 1) ys ≡ Some k) → (k : ℕ) × ((if b then Some n else position_from t (n + 1) ys) ≡ Some k)
    by_test true again = (n, refl)
    by_test false again = again

-- the same from the front
found : {A : Type 0} (t : A → Bool) (xs : List A) (i : ℕ) (x : A) → slice_get xs i ≡ Some x → t x ≡ true → (k : ℕ) × (position t xs ≡ Some k)
found t xs i x e h = let (k, q) = found_from t 0 xs i x e h in (k, position_from-zero t xs ∙ q)

-- String's number
boot_string : number_of boot_files (codes "java/lang/String") ≡ Some string
unfolding boot_files boot_rows first_rows exceptions
boot_string = refl

-- a class of arrays whose parts are of a class
abbrev is_over : ClassInfo → Bool
is_over k = from false (λ (a : ArrayInfo). option_eq nat_eq a.part (Some string)) k.array

-- what passes has such a part
over_part : (o : Option ArrayInfo) → from false (λ (a : ArrayInfo). option_eq nat_eq a.part (Some string)) o ≡ true → (a : ArrayInfo) × (o ≡ Some a) × (a.part ≡ Some string)
over_part None h = absurd cc
over_part (Some a) h = (a, refl, by_part a.part h)
  where
    by_part : (o : Option ℕ) → option_eq nat_eq o (Some string) ≡ true → o ≡ Some string
    by_part None h = absurd cc
    by_part (Some k) h = ap Some (equal_from k string h)

-- an array class of this component type
one_deep : (p : Program) (dims : ℕ) (e : Elem) (c : ℕ) → (if dims == 1 then ground_type p e else flow.Array (dims - 1) (element_type p e)) ≡ flow.Class c → flow.Array dims (element_type p e) ≡ flow.Array 1 (Object c)
one_deep p dims e c h = by_dims (dims == 1) refl h
  where
    by_elem : (e : Elem) → ground_type p e ≡ flow.Class c → element_type p e ≡ Object c
    by_elem (elem.Object name) h = let s : plain p (class_named p name) ≡ c = cc in ap Object s
    by_elem _ h = absurd cc

    by_dims : (b : Bool) → (dims == 1) ≡ b → (if b then ground_type p e else flow.Array (dims - 1) (element_type p e)) ≡ flow.Class c → flow.Array dims (element_type p e) ≡ flow.Array 1 (Object c)
    by_dims true q h = let s : dims ≡ 1 = equal_from dims 1 q in ap (λ (n : ℕ). flow.Array n (element_type p e)) s ∙ ap (flow.Array 1) (by_elem e h)
    by_dims false q h = absurd cc

module _ (files : List ClassFile) (arrays : List Desc) (literals : List (List ℕ)) (main : Found) (right : AreRight files arrays literals main) (given : HaveStrings arrays) where
  abbrev p : Program
  p = image_of (boot_files ++ files) arrays literals main

  -- the class of arrays whose parts are Strings
  pub record IsOver (c : ℕ) : Type 0 where
    pub info : ArrayInfo
    pub is_array : array_at p c ≡ Some info
    pub component : component_type p info ≡ flow.Class string
    pub type : class_type p c ≡ flow.Array 1 (Object string)

  -- a class of arrays whose parts are Strings is one of arrays of Strings
  is_over_of : (c : ℕ) (a : ArrayInfo) → array_at p c ≡ Some a → a.part ≡ Some string → IsOver c
  is_over_of c a e v =
      let table : IsTable p = table_law files arrays literals main right in
      let s : component_type p a ≡ flow.Class string = sym ((table.arrays c a e).part_typed string v) ∙ (string_class files arrays literals main right).1 in
      record { info = a; is_array = e; component = s; type = array_typed p c a e ∙ one_deep p a.dims a.elem string s }

  -- the part of an array of Strings
  strings_part : type_number (boot_files ++ files) arrays (part_type strings) ≡ Some string
  strings_part = number_front files (codes "java/lang/String") string boot_string

  -- it is there
  pub strings_class : IsOver (array_class_over p string)
  strings_class =
      let there : slice_get p.classes (length (boot_files ++ files) + given.place) ≡ Some (array_class (boot_files ++ files) arrays strings) = of_array files arrays literals main right given.place strings given.is_there in
      let passes : is_over (array_class (boot_files ++ files) arrays strings) ≡ true = ap (λ (o : Option ℕ). option_eq nat_eq o (Some string)) strings_part in
      let (k, q) = found is_over p.classes (length (boot_files ++ files) + given.place) (array_class (boot_files ++ files) arrays strings) there passes in
      let (x, r, t) = position_at is_over p.classes k q in
      let (a, u, v) = over_part x.array t in
      let here : array_class_over p string ≡ k = ap (from 0 (λ (c : ℕ). c)) q in
      let at : array_at p k ≡ Some a = ap (λ (o : Option ClassInfo). from None (λ k. k.array) o) r ∙ u in
      let is : array_at p (array_class_over p string) ≡ Some a = subst (λ (c : ℕ). array_at p c ≡ Some a) (sym here) at in
      is_over_of (array_class_over p string) a is v
