-- The classes of the arrays that code makes.
use Rattle.std.proofs.Common.{◌≡◌, ◌∙◌, sym, ap, subst, refl, ℕ, zero, suc, ◌+◌, ◌-◌, ◌<◌, ◌≤◌, ◌^◌, ◌==◌, Bool, true, false, List, ◌++◌, length, position, slice_get, Option, Some, None, inl, inr, arith}
use Rattle.std.specs.Prelude.{◌&&◌, ◌||◌, if◌then◌else◌, min, nat_eq, nat_le, option_map}
use Rattle.std.specs.List.{AllByRecursion, list_any, position_or_len}
use Rattle.std.specs.Option.{option_eq}
use Rattle.std.proofs.lemmas.Bool.Decides.{nat_tests}
use Rattle.std.proofs.lemmas.Map.Keys.{any_passes_from_place}
use Rattle.jvm_base.specs.Words.{from}
use Rattle.jvm_base.specs.declared.desc.Desc.{Desc}
use Rattle.jvm_base.specs.declared.desc.Elem.{Elem}
use Rattle.jvm_base.specs.declared.desc.Elem.TheVariants as elem
use Rattle.jvm_base.proofs.Options.{and_parts}
use Rattle.boot_table.specs.Files.{boot_files}
use Rattle.class_format.specs.declared.class.ClassFile.{ClassFile}
use Rattle.code_table.specs.ElementKinds.{is_kind, is_left_out_kind}
use Rattle.code_table.specs.declared.element_kind.TheConstants as kind
use Rattle.hierarchy.proofs.Tests.{equal_from, equal_to}
use Rattle.numbering.specs.Seen.{is_seen}
use Rattle.numbering.proofs.Places.{at_position}
use Rattle.link_uses.specs.declared.lookup.Found.{Found}
use Rattle.link_arrays.specs.Arrays.{array, kind_elem}
use Rattle.link_arrays.specs.ArrayClasses.{array_number, elem_number, type_number, part_type, array_info, array_class}
use Rattle.link_arrays.specs.Counting.{AreClosed}
use Rattle.link_arrays.proofs.ArrayLaws.{passes_within}
use Rattle.link_arrays.proofs.Types.{descs_told}
use Rattle.link_image.specs.Image.{image_of}
use Rattle.program_image.specs.Program.{Program}
use Rattle.program_image.specs.Signatures.{same_desc}
use Rattle.program_image.specs.declared.info.ArrayInfo.{ArrayInfo}
use Rattle.program_image.specs.declared.info.ClassInfo.{ClassInfo}
use Rattle.flow_types.specs.Primitives.{primitive_of}
use Rattle.flow_types.specs.declared.element.Element.TheVariants.{Primitive}
use Rattle.flow_types.specs.declared.flow_type.FlowType.TheVariants as flow
use Rattle.instruction_table.specs.ClassTypes.{element_type, ground_type, array_at, class_type, array_over}
use Rattle.machine_state.specs.Classes.{array_class as first_of, array_class_over, array_class_of, kind_number}
use Rattle.frame_soundness.specs.AcceptedProgram.{AreArrays, IsArrayClass}
use Rattle.frame_soundness.specs.Holding.{component_type}
use Rattle.typed_classes.proofs.Steps.{array_typed}
use Rattle.typed_classes.specs.Tables.{IsArrayAt}
use Rattle.linked_classes.specs.Linking.{AreRight}
use Rattle.linked_classes.proofs.Above.{all_at, of_array, kind_of, array_declared, table_law}
use Rattle.linked_classes.proofs.Positions.{position_at}

-- ---- kinds of elements

-- the kind of the element type that `newarray` gives is the number that it had
kind_known : (k : ℕ) → is_kind k ≡ true → is_left_out_kind k ≡ false → (kind_number (kind_elem k) == k) ≡ true
kind_known k there kept =
    by_tests (k == kind.T_BOOLEAN) refl (k == kind.T_CHAR) refl (k == kind.T_FLOAT) refl (k == kind.T_DOUBLE) refl (k == kind.T_BYTE) refl (k == kind.T_SHORT) refl (k == kind.T_INT) refl
  where
    by_tests : (b : Bool) → (k == kind.T_BOOLEAN) ≡ b → (c : Bool) → (k == kind.T_CHAR) ≡ c → (f : Bool) → (k == kind.T_FLOAT) ≡ f → (d : Bool) → (k == kind.T_DOUBLE) ≡ d → (y : Bool) → (k == kind.T_BYTE) ≡ y → (s : Bool) → (k == kind.T_SHORT) ≡ s → (i : Bool) → (k == kind.T_INT) ≡ i → (kind_number (if b then elem.Boolean else (if c then elem.Char else (if f then elem.Float else (if d then elem.Double else (if y then elem.Byte else (if s then elem.Short else (if i then elem.Int else elem.Long))))))) == k) ≡ true
    by_tests true p c q f r d t y u s v i w = grind (arith, nat_tests)
    by_tests false p true q f r d t y u s v i w = grind (arith, nat_tests)
    by_tests false p false q true r d t y u s v i w = absurd (left_out (k == kind.T_DOUBLE) (rw r at kept))
      where
        left_out : (z : Bool) → (true || z) ≡ false → ⊥
        left_out z h = cc
    by_tests false p false q false r true t y u s v i w = absurd (let z : (false || true) ≡ false = rw (r, t) at kept in cc)
    by_tests false p false q false r false t true u s v i w = grind (arith, nat_tests)
    by_tests false p false q false r false t false u true v i w = grind (arith, nat_tests)
    by_tests false p false q false r false t false u false v true w = grind (arith, nat_tests)
    by_tests false p false q false r false t false u false v false w =
        let (low, high) = and_parts (nat_le kind.T_BOOLEAN k) (nat_le k kind.T_LONG) there in
        grind (arith, nat_tests)

-- the number of an option's value
option_is : (o : Option ℕ) (c : ℕ) → option_eq nat_eq o (Some c) ≡ true → o ≡ Some c
option_is None c h = absurd cc
option_is (Some n) c h = ap (λ (x : ℕ). Some x) (equal_from n c h)

module _ (files : List ClassFile) (arrays : List Desc) (literals : List (List ℕ)) (main : Found) (right : AreRight files arrays literals main) where
  abbrev p : Program
  p = image_of (boot_files ++ files) arrays literals main

  -- ---- array types by number

  -- the class of an array type
  pub info_array : (i : ℕ) (d : Desc) → slice_get arrays i ≡ Some d → array_at p (length (boot_files ++ files) + i) ≡ Some (array_info (boot_files ++ files) arrays d)
  info_array i d e = ap (λ (o : Option ClassInfo). from None (λ k. k.array) o) (of_array files arrays literals main right i d e)

  -- where a type that is seen stands, and its number
  pub seen_at : (d : Desc) → is_seen same_desc arrays d ≡ true → (k : ℕ) × (slice_get arrays k ≡ Some d) × (array_number (boot_files ++ files) arrays d ≡ Some (length (boot_files ++ files) + k))
  seen_at d seen =
      let k : ℕ = position_or_len (same_desc d) arrays in
      let q : position (same_desc d) arrays ≡ Some k = at_position (same_desc d) arrays k refl (passes_within (same_desc d) arrays seen) in
      let (x, t, u) = position_at (same_desc d) arrays k q in
      let s : d ≡ x = (descs_told d x).0 u in
      (k, t ∙ ap (λ (z : Desc). Some z) (sym s), ap (option_map (λ n. length (boot_files ++ files) + n)) q)

  -- the first class of arrays that passes a test is that of an array type
  record IsFirst (test : ArrayInfo → Bool) : Type 0 where
    place : ℕ
    type : Desc
    is_type : slice_get arrays place ≡ Some type
    passes : test (array_info (boot_files ++ files) arrays type) ≡ true
    number : first_of test p ≡ length (boot_files ++ files) + place

  first_class : (test : ArrayInfo → Bool) (i : ℕ) (d : Desc) → slice_get arrays i ≡ Some d → test (array_info (boot_files ++ files) arrays d) ≡ true → IsFirst test
  first_class test i d e h =
      let t : ClassInfo → Bool = λ k. from false test k.array in
      let any : list_any t p.classes ≡ true = any_passes_from_place t p.classes (length (boot_files ++ files) + i) (array_class (boot_files ++ files) arrays d) (of_array files arrays literals main right i d e) h in
      let n : ℕ = position_or_len t p.classes in
      let found : position t p.classes ≡ Some n = at_position t p.classes n refl (passes_within t p.classes any) in
      let (info, q, u) = position_at t p.classes n found in
      let same : array_at p n ≡ info.array = ap (λ (o : Option ClassInfo). from None (λ k. k.array) o) q in
      let number : first_of test p ≡ n = ap (λ (o : Option ℕ). from 0 (λ c. c) o) found in
      elim (kind_of files arrays literals main right n info q) [
        | inl a ↦ let z : false ≡ true = subst (λ (o : Option ArrayInfo). from false test o ≡ true) (sym same ∙ array_declared files arrays literals main right n a.file a.is_file) u in absurd cc
        | inr a ↦
            let s : info.array ≡ Some (array_info (boot_files ++ files) arrays a.type) = sym same ∙ ap (array_at p) a.number ∙ info_array a.place a.type a.is_type in
            record {
              place = a.place;
              type = a.type;
              is_type = a.is_type;
              passes = subst (λ (o : Option ArrayInfo). from false test o ≡ true) s u;
              number = number ∙ a.number;
            }
      ]

  -- ---- newarray

  one_kind : (e : Elem) (k : ℕ) → is_kind k ≡ true → kind_number e ≡ k → element_type p e ≡ Primitive (primitive_of k)
  one_kind elem.Boolean k there s = subst (λ (n : ℕ). element_type p elem.Boolean ≡ Primitive (primitive_of n)) s refl
  one_kind elem.Char k there s = subst (λ (n : ℕ). element_type p elem.Char ≡ Primitive (primitive_of n)) s refl
  one_kind elem.Byte k there s = subst (λ (n : ℕ). element_type p elem.Byte ≡ Primitive (primitive_of n)) s refl
  one_kind elem.Short k there s = subst (λ (n : ℕ). element_type p elem.Short ≡ Primitive (primitive_of n)) s refl
  one_kind elem.Int k there s = subst (λ (n : ℕ). element_type p elem.Int ≡ Primitive (primitive_of n)) s refl
  one_kind elem.Long k there s = subst (λ (n : ℕ). element_type p elem.Long ≡ Primitive (primitive_of n)) s refl
  one_kind _ k there s = let z : is_kind 0 ≡ true = subst (λ (n : ℕ). is_kind n ≡ true) (sym s) there in absurd cc

  -- the class of arrays of a kind
  pub kind_array : (k : ℕ) → is_kind k ≡ true → is_left_out_kind k ≡ false → is_seen same_desc arrays (array 1 (kind_elem k)) ≡ true → IsArrayClass p (array_class_of p k) (flow.Array 1 (Primitive (primitive_of k)))
  kind_array k there kept seen =
      let (i, e, n) = seen_at (array 1 (kind_elem k)) seen in
      let x : IsFirst (λ a. a.dims == 1 && kind_number a.elem == k) = first_class (λ a. a.dims == 1 && kind_number a.elem == k) i (array 1 (kind_elem k)) e (kind_known k there kept) in
      let (one, same) = and_parts (x.type.dims == 1) (kind_number x.type.elem == k) x.passes in
      let a : ArrayInfo = array_info (boot_files ++ files) arrays x.type in
      let here : array_at p (array_class_of p k) ≡ Some a = ap (array_at p) x.number ∙ info_array x.place x.type x.is_type in
      let d : x.type.dims ≡ 1 = equal_from x.type.dims 1 one in (
        a,
        here,
        array_typed p (array_class_of p k) a here
            ∙ ap (λ (n : ℕ). flow.Array n (element_type p x.type.elem)) d
            ∙ ap (λ (t : _). flow.Array 1 t) (one_kind x.type.elem k there (equal_from (kind_number x.type.elem) k same)),
      )

  -- ---- anewarray

  -- arrays of what an array's places hold are such arrays
  over_part : (d : Desc) (c : ℕ) → 0 < d.dims → d.dims < 256 → type_number (boot_files ++ files) arrays (part_type d) ≡ Some c → array_over (component_type p (array_info (boot_files ++ files) arrays d)) ≡ flow.Array d.dims (element_type p d.elem)
  over_part d c deep small h = by_dims (d.dims == 1) refl
    where
      ground : (e : Elem) → elem_number (boot_files ++ files) e ≡ Some c → array_over (ground_type p e) ≡ flow.Array 1 (element_type p e)
      ground (elem.Object name) h = refl
      ground _ h = absurd cc

      by_dims : (b : Bool) → (d.dims == 1) ≡ b → array_over (if b then ground_type p d.elem else flow.Array (d.dims - 1) (element_type p d.elem)) ≡ flow.Array d.dims (element_type p d.elem)
      by_dims true q =
          let s : d.dims ≡ 1 = equal_from d.dims 1 q in
          let z : (d.dims - 1 == 0) ≡ true = rw s refl in
          ground d.elem (subst (λ (b : Bool). (if b then elem_number (boot_files ++ files) d.elem else array_number (boot_files ++ files) arrays (part_type d)) ≡ Some c) z h)
          ∙ ap (λ (n : ℕ). flow.Array n (element_type p d.elem)) (sym s)
      by_dims false q =
          let m : min (d.dims - 1 + 1) 255 ≡ d.dims = omega arith in
          ap (λ (n : ℕ). flow.Array n (element_type p d.elem)) m

  -- the class of arrays of a class
  pub array_over_class : AllByRecursion (λ d. d.dims < 2 ^ 8) arrays → (c : ℕ) (d : Desc) → is_seen same_desc arrays d ≡ true → type_number (boot_files ++ files) arrays (part_type d) ≡ Some c → IsArrayClass p (array_class_over p c) (array_over (class_type p c))
  array_over_class shallow c d seen h =
      let (i, e, n) = seen_at d seen in
      let x : IsFirst (λ a. option_eq nat_eq a.part (Some c)) = first_class (λ a. option_eq nat_eq a.part (Some c)) i d e (rw h (equal_to c)) in
      let a : ArrayInfo = array_info (boot_files ++ files) arrays x.type in
      let part : a.part ≡ Some c = option_is a.part c x.passes in
      let here : array_at p (array_class_over p c) ≡ Some a = ap (array_at p) x.number ∙ info_array x.place x.type x.is_type in
      let typed : IsArrayAt p (array_class_over p c) a = (table_law files arrays literals main right).arrays (array_class_over p c) a here in
      let deep : 0 < x.type.dims = all_at (λ (d : Desc). 0 < d.dims) arrays right.deep x.place x.type x.is_type in
      let small : x.type.dims < 2 ^ 8 = all_at (λ (d : Desc). d.dims < 2 ^ 8) arrays shallow x.place x.type x.is_type in (
        a,
        here,
        array_typed p (array_class_over p c) a here
            ∙ sym (over_part x.type c deep (omega arith) part)
            ∙ ap array_over (sym (typed.part_typed c part)),
      )

  -- ---- multianewarray

  -- the classes of an array type and of its parts
  pub arrays_down : AreClosed arrays → (n k : ℕ) (d : Desc) → slice_get arrays k ≡ Some d → n ≤ d.dims → AreArrays p n (length (boot_files ++ files) + k)
  arrays_down closed zero k d e l = tt
  arrays_down closed (suc zero) k d e l = (array_info (boot_files ++ files) arrays d, info_array k d e)
  arrays_down closed (suc (suc n)) k d e l =
      let same : array (d.dims - 1 + 1) d.elem ≡ d = (let s : d.dims - 1 + 1 ≡ d.dims = omega arith in ap (λ (m : ℕ). array m d.elem) s) in
      let seen : is_seen same_desc arrays (array (d.dims - 1 + 1) d.elem) ≡ true = any_passes_from_place (same_desc (array (d.dims - 1 + 1) d.elem)) arrays k d e ((descs_told (array (d.dims - 1 + 1) d.elem) d).1 same) in
      let (j, f, q) = seen_at (part_type d) (closed.part (d.dims - 1) d.elem (omega arith) seen) in
      let some : (d.dims - 1 == 0) ≡ false = grind (arith, nat_tests) in
      let number : type_number (boot_files ++ files) arrays (part_type d) ≡ Some (length (boot_files ++ files) + j) = rw some q in
      (array_info (boot_files ++ files) arrays d, length (boot_files ++ files) + j, info_array k d e, number, arrays_down closed (suc n) j (part_type d) f (omega arith))
