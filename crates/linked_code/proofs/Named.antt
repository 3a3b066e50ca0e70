-- The constants, classes and arrays that instructions name.
use Rattle.std.proofs.Common.{◌≡◌, ◌∙◌, sym, ap, subst, refl, ℕ, ◌+◌, ◌-◌, ◌<◌, ◌≤◌, ◌==◌, Bool, true, false, List, ◌++◌, length, slice_get, Option, Some, None, nat_lt, arith}
use Rattle.std.specs.Prelude.{option_and_then, option_map}
use Rattle.std.proofs.lemmas.Bool.Decides.{nat_tests}
use Rattle.jvm_base.specs.Descriptors.{desc_of}
use Rattle.jvm_base.specs.Words.{from}
use Rattle.jvm_base.specs.declared.desc.Desc.{Desc}
use Rattle.jvm_base.specs.declared.desc.Elem.TheVariants.{Object}
use Rattle.jvm_base.specs.declared.pool.PoolItem.{PoolItem}
use Rattle.jvm_base.specs.declared.pool.PoolItem.TheVariants as item
use Rattle.jvm_base.specs.declared.value.Value.TheVariants.{Int, Long, Ref}
use Rattle.boot_table.specs.Files.{boot_files}
use Rattle.class_format.specs.Flags.{is_interface}
use Rattle.class_format.specs.Meaning.{IsClass}
use Rattle.class_format.specs.declared.class.ClassFile.{ClassFile}
use Rattle.class_names.specs.Texts.{class_text, is_array}
use Rattle.code_table.specs.ElementKinds.{is_kind, is_left_out_kind}
use Rattle.code_table.specs.Items.{class_dimensions}
use Rattle.constant_pool.specs.Items.{class_at}
use Rattle.code_table.specs.declared.code.Placed.{Placed}
use Rattle.code_table.specs.declared.op.Op.{Op}
use Rattle.code_table.specs.declared.op.Op.TheVariants as op
use Rattle.numbering.specs.Seen.{is_seen}
use Rattle.link_rules.specs.Numbers.{number_of, flags_at, flags_of}
use Rattle.link_arrays.specs.Arrays.{array, kind_elem, array_named, array_over as type_over, op_array, array_types}
use Rattle.link_arrays.specs.ArrayClasses.{array_number, type_number, class_number, part_type}
use Rattle.link_arrays.specs.Literals.{literals, literal_name}
use Rattle.link_arrays.proofs.ArrayLaws.{number_within, types_closed}
use Rattle.link_image.specs.Constants.{item_value}
use Rattle.link_image.specs.Image.{image_of}
use Rattle.link_image.specs.Methods.{first_method}
use Rattle.link_image.specs.Targets.{Known, known, op_target}
use Rattle.link_image.proofs.ClassLaws.{count_infos}
use Rattle.link_uses.specs.declared.lookup.Found.{Found}
use Rattle.program_image.specs.Program.{Program, target_of}
use Rattle.program_image.specs.Signatures.{same_desc}
use Rattle.program_image.specs.declared.info.Target.{Target}
use Rattle.program_image.specs.declared.info.Target.TheVariants as target
use Rattle.flow_types.specs.Primitives.{primitive_of}
use Rattle.flow_types.specs.declared.element.Element.TheVariants.{Primitive}
use Rattle.flow_types.specs.declared.flow_type.FlowType.TheVariants as flow
use Rattle.instruction_table.specs.ClassTypes.{array_at, class_type, array_over, class_in}
use Rattle.machine_state.specs.Classes.{array_class_over, array_class_of}
use Rattle.machine_state.specs.PreMade.{text_name}
use Rattle.frame_soundness.specs.AcceptedProgram.{IsConstant, IsArrayClass, AreArrays}
use Rattle.typed_classes.proofs.Steps.{class_typed, plain_class}
use Rattle.typed_code.specs.Decoding.{IsAllowed, IsLoaded, IsLoadedWide}
use Rattle.linked_classes.specs.Linking.{AreRight}
use Rattle.linked_classes.proofs.Above.{item_at, all_at, interface_declared, array_declared}
use Rattle.linked_methods.specs.Linking.{AreRightMembers}
use Rattle.linked_code.specs.Linking.{AreRightUses}
use Rattle.linked_code.proofs.Arrays.{seen_at, kind_array, array_over_class, arrays_down}
use Rattle.linked_code.proofs.Codes.{IsOpAt, all_formed, all_short, linked_pool}
use Rattle.linked_code.proofs.Targets.{target_there}
use Rattle.linked_code.proofs.Texts.{text_dims, class_linked, array_desc, array_deep, deep_array, desc_dims}
use Rattle.linked_code.proofs.Uses.{new_suits, new_named, element_named, array_seen, literal_seen}

module _ (files : List ClassFile) (main : Found) (right : AreRight files (array_types files) (literals files) main) (members : AreRightMembers files) (uses : AreRightUses files) (m at : ℕ) (o : Placed) (x : IsOpAt (boot_files ++ files) m at o) where
  abbrev p : Program
  p = image_of (boot_files ++ files) (array_types files) (literals files) main

  abbrev names : Known
  names = known (boot_files ++ files) (array_types files) (literals files)

  -- what the instruction names is its target
  pub targeted : (t : Target) → op_target (known (boot_files ++ files) (array_types files) (literals files)) x.file o.op ≡ Some t → target_of p m at ≡ Some t
  unfolding image_of
  targeted t e =
      let there = target_there (known (boot_files ++ files) (array_types files) (literals files)) (all_short (boot_files ++ files) (all_formed files members.formed)) x.class x.place x.index x.file x.item o t x.is_file x.is_item x.is_op e in
      ap (λ (n : ℕ). target_of p n at) x.number
      ∙ ap (λ (n : ℕ). target_of p (first_method (boot_files ++ files) x.class + x.place) n) (sym x.here)
      ∙ there

  pub count : length p.classes ≡ length (boot_files ++ files) + length (array_types files)
  unfolding image_of
  count = count_infos (boot_files ++ files) (array_types files) (literals files)

  -- what its class's pool and its own numbers allow
  pub allowed : (z : Op) → o.op ≡ z → IsAllowed x.file.pool z
  allowed z e = subst (IsAllowed x.file.pool) e x.fine.allowed

  -- ---- constants

  literal_there : (k : ℕ) → k < length (literals files) → (i : ℕ) × (i < length p.literals) × (literal_name (length (boot_files ++ files) + length (array_types files)) k ≡ text_name (length p.classes + i))
  unfolding image_of
  literal_there k l = (k, l, ap (λ (n : ℕ). text_name (n + k)) (sym count))

  pub loads : (i : ℕ) → o.op ≡ op.Ldc i → IsConstant p (target_of p m at)
  loads i e = by_item (slice_get x.file.pool i) refl (allowed (op.Ldc i) e)
    where
      value_of : (it : PoolItem) → slice_get x.file.pool i ≡ Some it → op_target names x.file o.op ≡ option_map target.Constant (item_value (length (boot_files ++ files) + length (array_types files)) (literals files) x.file.pool it)
      value_of it q = ap (op_target names x.file) e ∙ ap (λ (z : Option PoolItem). option_map target.Constant (option_and_then (item_value (length (boot_files ++ files) + length (array_types files)) (literals files) x.file.pool) z)) q

      by_item : (it : Option PoolItem) → slice_get x.file.pool i ≡ it → IsLoaded it → IsConstant p (target_of p m at)
      by_item (Some (item.Integer n)) q h = (Int n, targeted (target.Constant (Int n)) (value_of (item.Integer n) q), tt)
      by_item (Some (item.Text j)) q h =
          let (k, l, n) = literal_seen files m at o x i j e q in
          let name = literal_name (length (boot_files ++ files) + length (array_types files)) k in
          (Ref name, targeted (target.Constant (Ref name)) (value_of (item.Text j) q ∙ ap (λ (z : Option ℕ). option_map target.Constant (option_map (λ n. Ref (literal_name (length (boot_files ++ files) + length (array_types files)) n)) z)) n), literal_there k l)
      by_item _ q h = absurd h

  pub loads_wide : (i : ℕ) → o.op ≡ op.Ldc2 i → IsConstant p (target_of p m at)
  loads_wide i e = by_item (slice_get x.file.pool i) refl (allowed (op.Ldc2 i) e)
    where
      by_item : (it : Option PoolItem) → slice_get x.file.pool i ≡ it → IsLoadedWide it → IsConstant p (target_of p m at)
      by_item (Some (item.Long n)) q h = (Long n, targeted (target.Constant (Long n)) (ap (op_target names x.file) e ∙ ap (λ (z : Option PoolItem). option_map target.Constant (option_and_then (item_value (length (boot_files ++ files) + length (array_types files)) (literals files) x.file.pool) z)) q), tt)
      by_item _ q h = absurd h

  -- ---- classes

  pub makes : (i : ℕ) → o.op ≡ op.New i → (class_in (target_of p m at) < length p.classes) × (array_at p (class_in (target_of p m at)) ≡ None) × (class_type p (class_in (target_of p m at)) ≡ flow.Class (class_in (target_of p m at)))
  makes i e =
      let text : List ℕ = class_text x.file.pool i in
      let (a, b) = new_suits files main right uses m at o x i e in
      let (k, n) = new_named files main right uses m at o x i e a in
      let number : class_number (boot_files ++ files) (array_types files) text ≡ Some k = rw a n in
      let t : target_of p m at ≡ Some (target.Class k) = targeted (target.Class k) (ap (op_target names x.file) e ∙ ap (option_map target.Class) number) in
      let l : k < length (boot_files ++ files) = number_within (boot_files ++ files) text k n in
      let (g, q) = item_at (boot_files ++ files) k l in
      let flags : flags_of (boot_files ++ files) text ≡ g.flags = ap (λ (z : Option ℕ). from 0 (flags_at (boot_files ++ files)) z) n ∙ ap (λ (z : Option ClassFile). from 0 (λ f. f.flags) z) q in
      let none : array_at p k ≡ None = array_declared files (array_types files) (literals files) main right k g q in
      let bound : k < length p.classes = (let c = count in omega arith) in
      let typed : class_type p k ≡ flow.Class k = class_typed p k none ∙ ap flow.Class (plain_class p k (interface_declared files (array_types files) (literals files) main right k g q ∙ ap is_interface (sym flags) ∙ b)) in
      subst (λ (z : Option Target). (class_in z < length p.classes) × (array_at p (class_in z) ≡ None) × (class_type p (class_in z) ≡ flow.Class (class_in z))) (sym t) (bound, none, typed)

  -- ---- arrays

  pub makes_kind : (k : ℕ) → o.op ≡ op.NewArray k → IsArrayClass p (array_class_of p k) (flow.Array 1 (Primitive (primitive_of k)))
  makes_kind k e =
      let (there, kept) : (is_kind k ≡ true) × (is_left_out_kind k ≡ false) = allowed (op.NewArray k) e in
      kind_array files (array_types files) (literals files) main right k there kept (array_seen files m at o x (array 1 (kind_elem k)) (ap (op_array x.file.pool) e) (omega arith))

  -- the type of an array class that is named
  record IsNamed (i : ℕ) (d : Desc) : Type 0 where
    is_array : is_array (class_text x.file.pool i) ≡ true
    is_desc : desc_of (class_text x.file.pool i) ≡ Some d
    deep : 0 < d.dims

  named_array : (i : ℕ) → is_array (class_text x.file.pool i) ≡ true → (name : ℕ) → class_at x.file.pool i ≡ Some name → (d : Desc) × IsNamed i d
  named_array i a name n =
      let text : List ℕ = class_text x.file.pool i in
      let formed = all_at IsClass (boot_files ++ files) (all_formed files members.formed) x.class x.file x.is_file in
      let (d, q) = array_desc text (class_linked x.file.pool (linked_pool x.file formed) i name n) a in
      let deep = array_deep text a in
      let same = desc_dims text d q in
      (d, record { is_array = a; is_desc = q; deep = omega arith })

  -- its number
  array_numbered : (text : List ℕ) (d : Desc) (c : ℕ) → is_array text ≡ true → desc_of text ≡ Some d → array_number (boot_files ++ files) (array_types files) d ≡ Some c → class_number (boot_files ++ files) (array_types files) text ≡ Some c
  array_numbered text d c a q k = rw (a, q) k

  -- the arrays of what an array's text names
  deeper_named : (text : List ℕ) (d : Desc) → is_array text ≡ true → desc_of text ≡ Some d → nat_lt d.dims 255 ≡ true → type_over text ≡ Some (array (d.dims + 1) d.elem)
  deeper_named text d a q l = rw (a, q, l) refl

  pub makes_over : (i : ℕ) → o.op ≡ op.AnewArray i → IsArrayClass p (array_class_over p (class_in (target_of p m at))) (array_over (class_type p (class_in (target_of p m at))))
  makes_over i e = by_array (is_array (class_text x.file.pool i)) refl
    where
      -- arrays of a class whose number is found
      over : (c : ℕ) (d : Desc) → class_number (boot_files ++ files) (array_types files) (class_text x.file.pool i) ≡ Some c → op_array x.file.pool o.op ≡ Some d → 0 < d.dims → type_number (boot_files ++ files) (array_types files) (part_type d) ≡ Some c → IsArrayClass p (array_class_over p (class_in (target_of p m at))) (array_over (class_type p (class_in (target_of p m at))))
      over c d n a l h =
          let t : target_of p m at ≡ Some (target.Class c) = targeted (target.Class c) (ap (op_target names x.file) e ∙ ap (option_map target.Class) n) in
          let made : IsArrayClass p (array_class_over p c) (array_over (class_type p c)) = array_over_class files (array_types files) (literals files) main right uses.shallow c d (array_seen files m at o x d a l) h in
          subst (λ (z : Option Target). IsArrayClass p (array_class_over p (class_in z)) (array_over (class_type p (class_in z)))) (sym t) made

      -- arrays of an array class
      over_array : (y : Desc) (c : ℕ) → IsNamed i y → op_array x.file.pool o.op ≡ Some (array (y.dims + 1) y.elem) → array_number (boot_files ++ files) (array_types files) y ≡ Some c → IsArrayClass p (array_class_over p (class_in (target_of p m at))) (array_over (class_type p (class_in (target_of p m at))))
      over_array y c h made k =
          let deep : 0 < y.dims = h.deep in
          let part : part_type (array (y.dims + 1) y.elem) ≡ y = (let z : y.dims + 1 - 1 ≡ y.dims = omega arith in ap (λ (n : ℕ). array n y.elem) z) in
          let some : (y.dims == 0) ≡ false = grind (arith, nat_tests) in
          let number : type_number (boot_files ++ files) (array_types files) y ≡ Some c = rw some k in
          over c (array (y.dims + 1) y.elem) (array_numbered (class_text x.file.pool i) y c h.is_array h.is_desc k) made (omega arith) (ap (type_number (boot_files ++ files) (array_types files)) part ∙ number)

      by_array : (b : Bool) → is_array (class_text x.file.pool i) ≡ b → IsArrayClass p (array_class_over p (class_in (target_of p m at))) (array_over (class_type p (class_in (target_of p m at))))
      by_array true a =
          let (dims, c, small) : (dims : ℕ) × (class_dimensions x.file.pool i ≡ Some dims) × (dims < 255) = allowed (op.AnewArray i) e in
          let (told, (name, n)) = text_dims x.file.pool i dims c in
          let (y, h) = named_array i a name n in
          let same = desc_dims (class_text x.file.pool i) y h.is_desc in
          let few : nat_lt y.dims 255 ≡ true = grind (arith, nat_tests) in
          let made : op_array x.file.pool o.op ≡ Some (array (y.dims + 1) y.elem) = ap (op_array x.file.pool) e ∙ deeper_named (class_text x.file.pool i) y a h.is_desc few in
          let seen : is_seen same_desc (array_types files) (array (y.dims + 1) y.elem) ≡ true = array_seen files m at o x (array (y.dims + 1) y.elem) made (omega arith) in
          let (j, f, k) = seen_at files (array_types files) (literals files) main right y ((types_closed files).part y.dims y.elem h.deep seen) in
          over_array y (length (boot_files ++ files) + j) h made k
      by_array false a =
          let (k, n) = element_named files main right uses m at o x i e a in
          over_class k n
        where
          over_class : (k : ℕ) → number_of (boot_files ++ files) (class_text x.file.pool i) ≡ Some k → IsArrayClass p (array_class_over p (class_in (target_of p m at))) (array_over (class_type p (class_in (target_of p m at))))
          over_class k n = over k (array 1 (Object (class_text x.file.pool i))) (rw a n) (ap (op_array x.file.pool) e ∙ rw a refl) (omega arith) n

  pub makes_many : (i n : ℕ) → o.op ≡ op.MultiNewArray i n → (0 < n) × AreArrays p n (class_in (target_of p m at))
  makes_many i n e =
      let (dims, c, some, few) : (dims : ℕ) × (class_dimensions x.file.pool i ≡ Some dims) × (0 < n) × (n ≤ dims) = allowed (op.MultiNewArray i n) e in
      let (told, (name, r)) = text_dims x.file.pool i dims c in
      let a : is_array (class_text x.file.pool i) ≡ true = deep_array (class_text x.file.pool i) (omega arith) in
      let (y, h) = named_array i a name r in
      let same = desc_dims (class_text x.file.pool i) y h.is_desc in
      let named : array_named (class_text x.file.pool i) ≡ Some y = rw a h.is_desc in
      let (j, f, k) = seen_at files (array_types files) (literals files) main right y (array_seen files m at o x y (ap (op_array x.file.pool) e ∙ named) h.deep) in
      (some, by_number y h (length (boot_files ++ files) + j) k (arrays_down files (array_types files) (literals files) main right (types_closed files) n j y f (omega arith)))
    where
      by_number : (y : Desc) → IsNamed i y → (c : ℕ) → array_number (boot_files ++ files) (array_types files) y ≡ Some c → AreArrays p n c → AreArrays p n (class_in (target_of p m at))
      by_number y h c k made =
          let number : class_number (boot_files ++ files) (array_types files) (class_text x.file.pool i) ≡ Some c = array_numbered (class_text x.file.pool i) y c h.is_array h.is_desc k in
          let t : target_of p m at ≡ Some (target.Class c) = targeted (target.Class c) (ap (op_target names x.file) e ∙ ap (option_map target.Class) number) in
          subst (λ (z : Option Target). AreArrays p n (class_in z)) (sym t) made
