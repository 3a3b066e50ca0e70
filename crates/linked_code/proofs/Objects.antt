-- The fields of objects that instructions name.
use Rattle.std.proofs.Common.{◌≡◌, ◌∙◌, sym, ap, subst, refl, ℕ, ◌+◌, ◌<◌, ◌==◌, Bool, true, false, not, List, [], ◌∷◌, ◌++◌, take, slice_get, Option, Some, inl, inr, arith}
use Rattle.std.specs.Prelude.{◌&&◌, ◌||◌, option_map}
use Rattle.std.specs.List.{count_by, flat_map, list_all}
use Rattle.std.proofs.lemmas.Bool.Decides.{nat_tests}
use Rattle.std.proofs.lemmas.Option.{slice_get-map}
use Rattle.jvm_base.specs.Words.{from}
use Rattle.jvm_base.specs.declared.desc.Desc.{Desc}
use Rattle.boot_table.specs.Files.{boot_files}
use Rattle.boot_table.specs.Table.{boot_rows, first_rows, exceptions}
use Rattle.class_format.specs.Flags.{is_interface, is_static}
use Rattle.class_format.specs.declared.class.ClassFile.{ClassFile}
use Rattle.class_format.specs.declared.class.FieldItem.{FieldItem}
use Rattle.class_names.specs.Texts.{Member, text_in, member_in}
use Rattle.code_table.specs.declared.code.Placed.{Placed}
use Rattle.code_table.specs.declared.op.Op.TheVariants as op
use Rattle.link_members.specs.declared.row_table.Step.TheVariants.{Super}
use Rattle.link_members.proofs.RowLaws.{ranked_by}
use Rattle.link_rules.specs.Members.{wrong_field, wrong_method, wrong_members}
use Rattle.link_rules.specs.Numbers.{fields_at}
use Rattle.link_rules.specs.declared.error.LinkWhy.TheVariants.{WrongKind}
use Rattle.link_arrays.specs.Arrays.{array_types}
use Rattle.link_arrays.specs.Literals.{literals}
use Rattle.link_image.specs.Fields.{is_instance, base_of}
use Rattle.link_image.specs.Image.{image_of}
use Rattle.link_image.specs.Targets.{known, op_target}
use Rattle.link_uses.specs.declared.lookup.Found.{Found}
use Rattle.program_image.specs.Program.{Program, target_of}
use Rattle.program_image.specs.declared.info.FieldInfo.{FieldInfo}
use Rattle.program_image.specs.declared.info.Target.TheVariants as target
use Rattle.flow_types.specs.Tree.{superclasses}
use Rattle.flow_types.specs.Types.{type_fits}
use Rattle.flow_types.specs.declared.flow_type.FlowType.TheVariants as flow
use Rattle.instruction_table.specs.ClassTypes.{plain, class_type, desc_type}
use Rattle.frame_soundness.specs.AcceptedProgram.{HasField}
use Rattle.frame_soundness.specs.Holding.{instance_fields, field_types}
use Rattle.typed_classes.specs.Tables.{is_closed}
use Rattle.typed_classes.proofs.ClassLaws.{classes_law}
use Rattle.typed_classes.proofs.Steps.{plain_class}
use Rattle.linked_classes.specs.Linking.{AreRight}
use Rattle.linked_classes.proofs.Above.{flat_none, kept, neither, interface_declared, place_of, table_law}
use Rattle.linked_classes.proofs.BootAbove.{boot_count, front_at, tested_at}
use Rattle.linked_methods.specs.Linking.{AreRightMembers}
use Rattle.linked_code.specs.Linking.{AreRightUses}
use Rattle.linked_code.proofs.Codes.{IsOpAt}
use Rattle.linked_code.proofs.Instances.{instance_placed}
use Rattle.linked_code.proofs.Lookups.{FindsField}
use Rattle.linked_code.proofs.Members.{info_in, field_placed, field_typed, spelled}
use Rattle.linked_code.proofs.Named.{targeted}
use Rattle.linked_code.proofs.Uses.{field_there}

-- ---- boot classes

abbrev are_static : List FieldItem → Bool
are_static fields = list_all (λ y. is_static y.flags) fields

-- interfaces have no fields for objects
boot_static : list_all (λ f. not (is_interface f.flags) || are_static f.fields) boot_files ≡ true
unfolding boot_files boot_rows first_rows exceptions
boot_static = refl

-- nor have Object, Class, String and StringBuffer
object_static : are_static (fields_at boot_files 0) ≡ true
unfolding boot_files boot_rows first_rows exceptions
object_static = refl

class_static : are_static (fields_at boot_files 1) ≡ true
unfolding boot_files boot_rows first_rows exceptions
class_static = refl

string_static : are_static (fields_at boot_files 2) ≡ true
unfolding boot_files boot_rows first_rows exceptions
string_static = refl

buffer_static : are_static (fields_at boot_files 3) ≡ true
unfolding boot_files boot_rows first_rows exceptions
buffer_static = refl

closed_static : (c : ℕ) → (c == 0 || is_closed c) ≡ true → (c < 34) × (are_static (fields_at boot_files c) ≡ true)
closed_static c e = by_tests (c == 0) refl (c == 1) refl (c == 3) refl (c == 2) refl e
  where
    by_tests : (w : Bool) → (c == 0) ≡ w → (x : Bool) → (c == 1) ≡ x → (y : Bool) → (c == 3) ≡ y → (z : Bool) → (c == 2) ≡ z → (w || (x || (y || z))) ≡ true → (c < 34) × (are_static (fields_at boot_files c) ≡ true)
    by_tests true o x p y q z r h = let s : 0 ≡ c = grind (arith, nat_tests) in (omega arith, subst (λ (k : ℕ). are_static (fields_at boot_files k) ≡ true) s object_static)
    by_tests false o true p y q z r h = let s : 1 ≡ c = grind (arith, nat_tests) in (omega arith, subst (λ (k : ℕ). are_static (fields_at boot_files k) ≡ true) s class_static)
    by_tests false o false p true q z r h = let s : 3 ≡ c = grind (arith, nat_tests) in (omega arith, subst (λ (k : ℕ). are_static (fields_at boot_files k) ≡ true) s buffer_static)
    by_tests false o false p false q true r h = let s : 2 ≡ c = grind (arith, nat_tests) in (omega arith, subst (λ (k : ℕ). are_static (fields_at boot_files k) ≡ true) s string_static)
    by_tests false o false p false q false r h = absurd cc

module _ (files : List ClassFile) (main : Found) (right : AreRight files (array_types files) (literals files) main) (members : AreRightMembers files) where
  abbrev p : Program
  p = image_of (boot_files ++ files) (array_types files) (literals files) main

  -- a class that declares a field for objects is no interface
  no_interface : (c i : ℕ) (f : ClassFile) (y : FieldItem) → slice_get (boot_files ++ files) c ≡ Some f → slice_get f.fields i ≡ Some y → is_static y.flags ≡ false → is_interface f.flags ≡ false
  unfolding wrong_members wrong_field
  no_interface c i f y e q fixed =
      elim (place_of files (array_types files) (literals files) main right c f e) [
        | inl b ↦ by_flag (is_interface f.flags) (tested_at (λ (f : ClassFile). not (is_interface f.flags) || are_static f.fields) boot_files boot_static c f b)
        | inr (j, b) ↦
            let none : flat_map (wrong_field f) f.fields ≡ [] = front_none (flat_map (wrong_field f) f.fields) (flat_map (wrong_method f) f.methods) (flat_none wrong_members files members.right j f b) in
            let w : (is_interface f.flags && not (is_static y.flags)) ≡ false = kept _ WrongKind f (text_in f.pool y.name ++ text_in f.pool y.desc) (flat_none (wrong_field f) f.fields none i y q) in
            by_test (is_interface f.flags) (rw fixed at w)
      ]
    where
      front_none : {A : Type 0} (xs ys : List A) → xs ++ ys ≡ [] → xs ≡ []
      front_none [] ys h = refl
      front_none (z ∷ zs) ys h = absurd cc

      by_test : (b : Bool) → (b && not false) ≡ false → b ≡ false
      by_test true h = absurd cc
      by_test false h = refl

      by_flag : (b : Bool) → (not b || are_static f.fields) ≡ true → b ≡ false
      by_flag true h = let z : true ≡ false = sym (tested_at (λ (y : FieldItem). is_static y.flags) f.fields h i y q) ∙ fixed in absurd cc
      by_flag false h = refl

  -- nor Object, or a class without fields
  is_open : (c i : ℕ) (f : ClassFile) (y : FieldItem) → slice_get (boot_files ++ files) c ≡ Some f → slice_get f.fields i ≡ Some y → is_static y.flags ≡ false → (c == 0 || is_closed c) ≡ false
  is_open c i f y e q fixed = by_test (c == 0 || is_closed c) refl
    where
      by_test : (b : Bool) → (c == 0 || is_closed c) ≡ b → b ≡ false
      by_test false h = refl
      by_test true h =
          let (l, s) = closed_static c h in
          let n = boot_count in
          let b : slice_get boot_files c ≡ Some f = sym (front_at boot_files files c (omega arith)) ∙ e in
          let t : are_static f.fields ≡ true = sym (ap (λ (o : Option ClassFile). are_static (from [] (λ f. f.fields) o)) b) ∙ s in
          let z : true ≡ false = sym (tested_at (λ (y : FieldItem). is_static y.flags) f.fields t i y q) ∙ fixed in absurd cc

module _ (files : List ClassFile) (main : Found) (right : AreRight files (array_types files) (literals files) main) (members : AreRightMembers files) (uses : AreRightUses files) (m at : ℕ) (o : Placed) (x : IsOpAt (boot_files ++ files) m at o) where
  abbrev image : Program
  image = image_of (boot_files ++ files) (array_types files) (literals files) main

  -- the field as the image has it
  abbrev info : (n : Member) → FindsField (boot_files ++ files) n false → FieldInfo
  info n y = info_in files main right members uses m at o x n false y

  -- a field for objects stands at its place
  field_stands : (n : Member) (y : FindsField (boot_files ++ files) n false) → slice_get (field_types image y.found.class) (info n y).place ≡ Some (desc_type image (info n y).desc)
  field_stands n y =
      let open_class = is_open files main right members y.found.class y.found.place y.file y.item y.is_file y.is_item y.is_fixed in
      let other : (y.found.class == 0) ≡ false = (neither (y.found.class == 0) (is_closed y.found.class) open_class).0 in
      let place : (info n y).place ≡ base_of (boot_files ++ files) (0 + y.found.class) + count_by is_instance (take (0 + y.found.place) y.file.fields) = rw y.is_fixed refl in
      let u : 0 + y.found.class ≡ y.found.class = omega arith in
      let v : 0 + y.found.place ≡ y.found.place = omega arith in
      let same : (info n y).place ≡ base_of (boot_files ++ files) y.found.class + count_by is_instance (take y.found.place y.file.fields) =
      place ∙ ap (λ (c : ℕ). base_of (boot_files ++ files) c + count_by is_instance (take (0 + y.found.place) y.file.fields)) u
      ∙ ap (λ (i : ℕ). base_of (boot_files ++ files) y.found.class + count_by is_instance (take i y.file.fields)) v in
      slice_get-map (λ (f : FieldInfo). desc_type image f.desc) (instance_fields image y.found.class) (info n y).place
      ∙ ap (λ (k : ℕ). option_map (λ (f : FieldInfo). desc_type image f.desc) (slice_get (instance_fields image y.found.class) k)) same
      ∙ ap (option_map (λ (f : FieldInfo). desc_type image f.desc)) (instance_placed files (array_types files) (literals files) main right uses.ranked.0 (ranked_by Super (boot_files ++ files) uses.ranked.0 uses.ranked.1) y.found.class y.found.place y.file y.item y.is_file y.is_item y.is_fixed other)

  pub reads_field : (k i : ℕ) (d : Desc) → o.op ≡ op.Field k i d → (c place : ℕ) × (target_of image m at ≡ Some (target.Field c place false)) × (plain image c ≡ c) × ((j : ℕ) → type_fits (superclasses image) (class_type image j) (flow.Class c) ≡ true → HasField image j place (desc_type image d))
  reads_field k i d e =
      let n : Member = member_in x.file.pool i in
      let y : FindsField (boot_files ++ files) n false = field_there files main right uses m at o x k i d e in
      let t : target_of image m at ≡ Some (target.Field y.found.class (info n y).place false) = targeted files main right members uses m at o x (target.Field y.found.class (info n y).place false) (ap (op_target (known (boot_files ++ files) (array_types files) (literals files)) x.file) e ∙ field_placed files main right members uses m at o x n false y) in
      let interface = interface_declared files (array_types files) (literals files) main right y.found.class y.file y.is_file ∙ no_interface files main right members y.found.class y.found.place y.file y.item y.is_file y.is_item y.is_fixed in
      let open_class = is_open files main right members y.found.class y.found.place y.file y.item y.is_file y.is_item y.is_fixed in
      let typed : desc_type image (info n y).desc ≡ desc_type image d = ap (desc_type image) (field_typed files main right members uses m at o x n false y d (spelled files main right members uses m at o x (op.Field k i d) e)) in
      let stands = field_stands n y ∙ ap (λ (s : _). Some s) typed in
      (y.found.class, (info n y).place, t, plain_class image y.found.class interface, (classes_law image (table_law files (array_types files) (literals files) main right)).fields y.found.class (info n y).place (desc_type image d) open_class stands)
