-- What the rules on code say of one instruction, where they refuse nothing.
use Rattle.std.proofs.Common.{◌≡◌, ◌∙◌, sym, ap, subst, refl, ℕ, zero, suc, ◌+◌, ◌<◌, Bool, true, false, not, List, [], ◌∷◌, ◌++◌, length, map, slice_get, Option, Some, None, Result, Ok, Err, ◌⊎◌, inl, inr, arith}
use Rattle.std.specs.Prelude.{◌||◌, option_and_then, option_map}
use Rattle.std.specs.List.{flat_map, list_all, position_or_len}
use Rattle.std.specs.Option.{is_some, is_none, option_to_list}
use Rattle.std.proofs.Math.Bool.{beq}
use Rattle.std.proofs.lemmas.Map.Keys.{any_passes_from_place}
use Rattle.std.proofs.lemmas.Option.{slice_get-map}
use Rattle.jvm_base.specs.Descriptors.{method_of, args_at, desc_of, desc_at, elem_at}
use Rattle.jvm_base.specs.Words.{from}
use Rattle.jvm_base.specs.declared.code_item.CodeItem.{CodeItem}
use Rattle.jvm_base.specs.declared.desc.Desc.{Desc}
use Rattle.jvm_base.specs.declared.desc.Elem.{Elem}
use Rattle.jvm_base.specs.declared.desc.MethodDesc.{MethodDesc}
use Rattle.jvm_base.specs.declared.pool.PoolItem.{PoolItem}
use Rattle.jvm_base.specs.declared.pool.PoolItem.TheVariants.{Text}
use Rattle.boot_table.specs.Files.{boot_files}
use Rattle.boot_table.specs.Table.{boot_rows, first_rows, exceptions}
use Rattle.class_format.specs.Flags.{is_interface, is_static}
use Rattle.class_format.specs.declared.class.ClassFile.{ClassFile}
use Rattle.class_format.specs.declared.class.MethodItem.{MethodItem}
use Rattle.class_names.specs.Classes.{this_name, super_text, interface_texts, code_of as code_in, ok_of, ops_of, table_of, codes_of}
use Rattle.class_names.specs.Known.{is_name, is_known}
use Rattle.class_names.specs.Named.{named_by, op_names, entry_names, method_desc_names, field_names, method_names, class_names}
use Rattle.class_names.specs.Texts.{Member, text_in, member_in, class_text, is_array}
use Rattle.code_table.specs.Decoded.{decoded}
use Rattle.code_table.specs.Instructions.{sized_at, instruction_at}
use Rattle.code_table.specs.Pooled.{field, method, interface_method}
use Rattle.code_table.specs.Sequences.{instructions_from, instructions_of}
use Rattle.code_table.specs.Table.{table, form_at}
use Rattle.code_table.specs.Targets.{is_start, leads_off, is_bad_entry}
use Rattle.code_table.specs.declared.code.Code.{Code}
use Rattle.code_table.specs.declared.code.Placed.{Placed}
use Rattle.code_table.specs.declared.error.CodeErr.{CodeErr}
use Rattle.code_table.specs.declared.op.Op.{Op}
use Rattle.code_table.specs.declared.op.Op.TheVariants as op
use Rattle.numbering.specs.Seen.{is_seen}
use Rattle.numbering.proofs.Places.{at_position}
use Rattle.hierarchy.proofs.Tests.{or_right}
use Rattle.link_rules.specs.Answers.{refused_if}
use Rattle.link_rules.specs.Classes.{missing, no_class}
use Rattle.link_rules.specs.Decoding.{refused_code, undecoded, undecoded_file}
use Rattle.link_rules.specs.Numbers.{numbered, number_of, flags_of}
use Rattle.link_rules.specs.Descriptors.{key_text}
use Rattle.link_rules.specs.declared.error.LinkWhy.TheVariants.{NoClass, NoField, NoMethod, WrongKind}
use Rattle.link_members.proofs.LoopLaws.{parts_none}
use Rattle.link_arrays.specs.Arrays.{array, levels, op_array, op_types, code_types, file_types, strings, array_types}
use Rattle.link_arrays.specs.Literals.{field_literals, op_literals, code_literals, file_literals, literals, literal_number}
use Rattle.link_arrays.proofs.ArrayLaws.{passes_within}
use Rattle.link_arrays.proofs.BootLaws.{is_decoded, boot_code, types_of_files, literals_of_files}
use Rattle.link_arrays.proofs.LiteralLaws.{names_equivalent}
use Rattle.link_arrays.proofs.SeenLaws.{seen_items}
use Rattle.link_arrays.proofs.Types.{descs_equivalent}
use Rattle.link_uses.specs.Lookups.{is_field_of, is_method_of, own_field, own_method, found_field, found_method, field_flags, method_flags}
use Rattle.link_uses.specs.Uses.{lacking, lacking_placed, lacking_in, no_members, wrong_use, wrong_use_placed, wrong_uses_in, wrong_uses, wrong_field_use, wrong_call, wrong_new, is_wrong_new, wrong_holder, wrong_name, wrong_method_flags, finds_wrong_method}
use Rattle.link_uses.specs.declared.lookup.Found.{Found}
use Rattle.program_image.specs.Signatures.{same_desc}
use Rattle.linked_classes.proofs.Above.{flat_none, kept, not_false, neither, place_of}
use Rattle.linked_classes.proofs.BootAbove.{tested_at}
use Rattle.typed_code.proofs.Edges.{IsIn}
use Rattle.linked_classes.specs.Linking.{AreRight}
use Rattle.linked_code.specs.Linking.{AreRightUses}
use Rattle.linked_code.proofs.Codes.{IsOpAt}
use Rattle.linked_code.proofs.Lookups.{FindsField, FindsMethod, finds_field, finds_method, has_own_field, has_own_method, boot_field, boot_method}
use Rattle.linked_code.proofs.Targets.{in_left, in_right, in_flat}

-- ---- boot classes

-- what a boot class's instruction uses is as it should be: it names no class by itself
abbrev is_right_use : ClassFile → Op → Bool
is_right_use f (op.Field o i d) = has_own_field (member_in f.pool i)
is_right_use f (op.Invoke o i d) = has_own_method o (member_in f.pool i)
is_right_use f (op.Static o i d) = false
is_right_use f (op.New i) = false
is_right_use f (op.AnewArray i) = false
is_right_use f _ = true

-- in a method's code, and in a file's
abbrev are_right_in : ClassFile → MethodItem → Bool
are_right_in f x = list_all (λ o. is_right_use f o.op) (ops_of f.pool x)

abbrev are_right_uses : ClassFile → Bool
are_right_uses f = list_all (are_right_in f) f.methods

boot_uses : list_all are_right_uses boot_files ≡ true
unfolding boot_files boot_rows first_rows exceptions decoded sized_at instruction_at field method interface_method instructions_from instructions_of table form_at is_start leads_off is_bad_entry desc_of desc_at elem_at args_at method_of own_field own_method is_field_of is_method_of wrong_name wrong_method_flags
boot_uses = refl

-- ---- lists of refusals

numbered_none : {A B : Type 0} (g : ℕ → A → List B) (k : ℕ) (xs : List A) → numbered g k xs ≡ [] → (i : ℕ) (x : A) → slice_get xs i ≡ Some x → (n : ℕ) × (g n x ≡ [])
numbered_none g k [] none i x e = absurd cc
numbered_none g k (y ∷ ys) none zero x e = let s : y ≡ x = cc in (k, subst (λ z. g k z ≡ []) s (parts_none (g k y) (numbered g (k + 1) ys) none).0)
numbered_none g k (y ∷ ys) none (suc i) x e = numbered_none g (k + 1) ys (parts_none (g k y) (numbered g (k + 1) ys) none).1 i x e

some_none : {A : Type 0} (o : Option A) → is_none o ≡ false → (x : A) × (o ≡ Some x)
some_none None e = absurd cc
some_none (Some x) e = (x, refl)

pub same_bool : (a b : Bool) → beq a b ≡ true → a ≡ b
same_bool true true e = refl
same_bool false false e = refl
same_bool true false e = absurd cc
same_bool false true e = absurd cc

-- ---- an instruction that is declared

module _ (files : List ClassFile) (main : Found) (right : AreRight files (array_types files) (literals files) main) (uses : AreRightUses files) (m at : ℕ) (o : Placed) (x : IsOpAt (boot_files ++ files) m at o) where
  -- where its class is declared
  pub where_declared : (slice_get boot_files x.class ≡ Some x.file) ⊎ ((j : ℕ) × (slice_get files j ≡ Some x.file))
  where_declared = place_of files (array_types files) (literals files) main right x.class x.file x.is_file

  -- the instruction of a boot class passes its test
  boot_use : slice_get boot_files x.class ≡ Some x.file → is_right_use x.file o.op ≡ true
  boot_use b =
      tested_at (λ (k : Placed). is_right_use x.file k.op) (ops_of x.file.pool x.item)
      (tested_at (are_right_in x.file) x.file.methods (tested_at are_right_uses boot_files boot_uses x.class x.file b) x.place x.item x.is_item) x.index o x.is_op

  -- nothing is refused of that of a file's class
  file_found : (j : ℕ) → slice_get files j ≡ Some x.file → lacking (boot_files ++ files) x.file o.op ≡ []
  unfolding no_members lacking_in
  file_found j e =
      flat_none (lacking_placed (boot_files ++ files) x.file) (ops_of x.file.pool x.item)
      (flat_none (lacking_in (boot_files ++ files) x.file) x.file.methods (flat_none (no_members (boot_files ++ files)) files uses.found j x.file e) x.place x.item x.is_item) x.index o x.is_op

  file_suits : (j : ℕ) → slice_get files j ≡ Some x.file → wrong_use (boot_files ++ files) x.file o.op ≡ []
  unfolding wrong_uses wrong_uses_in
  file_suits j e =
      flat_none (wrong_use_placed (boot_files ++ files) x.file) (ops_of x.file.pool x.item)
      (flat_none (wrong_uses_in (boot_files ++ files) x.file) x.file.methods (flat_none (wrong_uses (boot_files ++ files)) files uses.suited j x.file e) x.place x.item x.is_item) x.index o x.is_op

  -- ---- fields

  -- a field of a file's class that is found and suits
  field_of : (n : Member) (fixed : Bool) → refused_if (is_none (found_field (boot_files ++ files) n)) NoField x.file (key_text n) ≡ [] → wrong_field_use (boot_files ++ files) x.file fixed n ≡ [] → FindsField (boot_files ++ files) n fixed
  unfolding wrong_field_use
  field_of n fixed found suits =
      let (y, q) = some_none (found_field (boot_files ++ files) n) (kept (is_none (found_field (boot_files ++ files) n)) NoField x.file (key_text n) found) in
      let w : from false (λ z. not (beq (is_static (field_flags (boot_files ++ files) z)) fixed)) (found_field (boot_files ++ files) n) ≡ false = kept _ WrongKind x.file (key_text n) suits in
      let v : not (beq (is_static (field_flags (boot_files ++ files) y)) fixed) ≡ false = subst (λ (z : Option Found). from false (λ z. not (beq (is_static (field_flags (boot_files ++ files) z)) fixed)) z ≡ false) q w in
      finds_field (boot_files ++ files) n fixed y q (same_bool _ fixed (not_false _ v))

  -- the field that getfield or putfield names
  pub field_there : (k i : ℕ) (d : Desc) → o.op ≡ op.Field k i d → FindsField (boot_files ++ files) (member_in x.file.pool i) false
  field_there k i d e =
      elim where_declared [
        | inl b ↦ boot_field files (member_in x.file.pool i) (subst (λ (z : Op). is_right_use x.file z ≡ true) e (boot_use b))
        | inr (j, b) ↦
            field_of (member_in x.file.pool i) false
            (subst (λ (z : Op). lacking (boot_files ++ files) x.file z ≡ []) e (file_found j b))
            (subst (λ (z : Op). wrong_use (boot_files ++ files) x.file z ≡ []) e (file_suits j b))
      ]

  -- that of getstatic or putstatic
  pub static_there : (k i : ℕ) (d : Desc) → o.op ≡ op.Static k i d → FindsField (boot_files ++ files) (member_in x.file.pool i) true
  static_there k i d e =
      elim where_declared [
        | inl b ↦ let z : false ≡ true = subst (λ (z : Op). is_right_use x.file z ≡ true) e (boot_use b) in absurd cc
        | inr (j, b) ↦
            field_of (member_in x.file.pool i) true
            (subst (λ (z : Op). lacking (boot_files ++ files) x.file z ≡ []) e (file_found j b))
            (subst (λ (z : Op). wrong_use (boot_files ++ files) x.file z ≡ []) e (file_suits j b))
      ]

  -- ---- methods

  method_of_call : (k : ℕ) (n : Member) → refused_if (is_none (found_method (boot_files ++ files) n)) NoMethod x.file (key_text n) ≡ [] → wrong_call (boot_files ++ files) x.file k n ≡ [] → FindsMethod (boot_files ++ files) n k
  unfolding wrong_call
  method_of_call k n found suits =
      let (y, q) = some_none (found_method (boot_files ++ files) n) (kept (is_none (found_method (boot_files ++ files) n)) NoMethod x.file (key_text n) found) in
      let w : (wrong_holder (boot_files ++ files) k n || (wrong_name k n.name || finds_wrong_method (boot_files ++ files) k n)) ≡ false = kept _ WrongKind x.file (key_text n) suits in
      let (a, r) = neither (wrong_holder (boot_files ++ files) k n) (wrong_name k n.name || finds_wrong_method (boot_files ++ files) k n) w in
      let (named, flags) = neither (wrong_name k n.name) (finds_wrong_method (boot_files ++ files) k n) r in
      finds_method (boot_files ++ files) n k y q (subst (λ (z : Option Found). from false (λ z. wrong_method_flags k (method_flags (boot_files ++ files) z)) z ≡ false) q flags) named

  -- the method that a call names
  pub method_there : (k i : ℕ) (d : MethodDesc) → o.op ≡ op.Invoke k i d → FindsMethod (boot_files ++ files) (member_in x.file.pool i) k
  method_there k i d e =
      elim where_declared [
        | inl b ↦ boot_method files k (member_in x.file.pool i) (subst (λ (z : Op). is_right_use x.file z ≡ true) e (boot_use b))
        | inr (j, b) ↦
            method_of_call k (member_in x.file.pool i)
            (subst (λ (z : Op). lacking (boot_files ++ files) x.file z ≡ []) e (file_found j b))
            (subst (λ (z : Op). wrong_use (boot_files ++ files) x.file z ≡ []) e (file_suits j b))
      ]

  -- ---- classes

  -- a class of which `new` makes an object is no interface and no array
  pub new_suits : (i : ℕ) → o.op ≡ op.New i → (is_array (class_text x.file.pool i) ≡ false) × (is_interface (flags_of (boot_files ++ files) (class_text x.file.pool i)) ≡ false)
  unfolding wrong_new is_wrong_new
  new_suits i e =
      elim where_declared [
        | inl b ↦ let z : false ≡ true = subst (λ (z : Op). is_right_use x.file z ≡ true) e (boot_use b) in absurd cc
        | inr (j, b) ↦
            let w : wrong_new (boot_files ++ files) x.file (class_text x.file.pool i) ≡ [] = subst (λ (z : Op). wrong_use (boot_files ++ files) x.file z ≡ []) e (file_suits j b) in
            let v : is_wrong_new (boot_files ++ files) (class_text x.file.pool i) ≡ false = kept _ WrongKind x.file (class_text x.file.pool i) w in
            let (a, r) = neither (is_array (class_text x.file.pool i)) _ v in
            (a, (neither (is_interface (flags_of (boot_files ++ files) (class_text x.file.pool i))) _ r).0)
      ]

  -- a class that an instruction names by itself has a number
  named_by_op : (text : List ℕ) → IsIn text (op_names x.file.pool o.op) → is_right_use x.file o.op ≡ false → (k : ℕ) × (number_of (boot_files ++ files) text ≡ Some k)
  unfolding class_names
  named_by_op text h plain =
      elim where_declared [
        | inl b ↦ let z : false ≡ true = sym plain ∙ boot_use b in absurd cc
        | inr (j, b) ↦
            let f : ClassFile = x.file in
            let code : IsIn text (flat_map (λ p. op_names f.pool p.op) (ops_of f.pool x.item)) = in_flat (λ (p : Placed). op_names f.pool p.op) text (ops_of f.pool x.item) x.index o x.is_op h in
            let own : IsIn text (method_names f.pool x.item) = in_right text (from [] method_desc_names (method_of (text_in f.pool x.item.desc))) _ (in_left text (flat_map (λ p. op_names f.pool p.op) (ops_of f.pool x.item)) (flat_map (entry_names f.pool) (table_of x.item)) code) in
            let methods : IsIn text (flat_map (method_names f.pool) f.methods) = in_flat (method_names f.pool) text f.methods x.place x.item x.is_item own in
            let (i, e) : IsIn text (class_names f) =
            in_right text (flat_map named_by (option_to_list (super_text f))) _
            (in_right text (flat_map named_by (interface_texts f)) _
            (in_right text (flat_map (field_names f.pool) f.fields) (flat_map (method_names f.pool) f.methods) methods)) in
            let none : missing (map this_name (boot_files ++ files)) f text ≡ [] = flat_none (missing (map this_name (boot_files ++ files)) f) (class_names f) (flat_none (no_class (map this_name (boot_files ++ files))) files uses.named j f b) i text e in
            let there : is_known (map this_name (boot_files ++ files)) text ≡ true = not_false _ (kept _ NoClass f text none) in
            let n : ℕ = position_or_len (is_name text) (map this_name (boot_files ++ files)) in
            (n, at_position (is_name text) (map this_name (boot_files ++ files)) n refl (passes_within (is_name text) (map this_name (boot_files ++ files)) there))
      ]

  pub new_named : (i : ℕ) → o.op ≡ op.New i → is_array (class_text x.file.pool i) ≡ false → (k : ℕ) × (number_of (boot_files ++ files) (class_text x.file.pool i) ≡ Some k)
  new_named i e a = named_by_op (class_text x.file.pool i) (subst (λ (z : Op). IsIn (class_text x.file.pool i) (op_names x.file.pool z)) (sym e) (rw a (0, refl))) (ap (is_right_use x.file) e)

  pub element_named : (i : ℕ) → o.op ≡ op.AnewArray i → is_array (class_text x.file.pool i) ≡ false → (k : ℕ) × (number_of (boot_files ++ files) (class_text x.file.pool i) ≡ Some k)
  element_named i e a = named_by_op (class_text x.file.pool i) (subst (λ (z : Op). IsIn (class_text x.file.pool i) (op_names x.file.pool z)) (sym e) (rw a (0, refl))) (ap (is_right_use x.file) e)

-- ---- code is decoded

decoded_one : (pool : List PoolItem) (c k : ℕ) (code : Option CodeItem) → undecoded c k pool code ≡ [] → (not (is_some code) || is_some (option_and_then (λ c. ok_of (decoded c pool)) code)) ≡ true
decoded_one pool c k None e = refl
decoded_one pool c k (Some item) e = by_result (decoded item pool) e
  where
    by_result : (r : Result Code CodeErr) → refused_code c k r ≡ [] → is_some (ok_of r) ≡ true
    by_result (Ok d) h = refl
    by_result (Err why) h = absurd cc

-- that of each method
pub decoded_there : (files : List ClassFile) (main : Found) → AreRight files (array_types files) (literals files) main → AreRightUses files → (c i : ℕ) (f : ClassFile) (y : MethodItem) → slice_get (boot_files ++ files) c ≡ Some f → slice_get f.methods i ≡ Some y → is_decoded f.pool y ≡ true
decoded_there files main right uses c i f y e q =
    elim (place_of files (array_types files) (literals files) main right c f e) [
      | inl b ↦ tested_at (is_decoded f.pool) f.methods (tested_at (λ (f : ClassFile). list_all (is_decoded f.pool) f.methods) boot_files boot_code c f b) i y q
      | inr (j, b) ↦
          let (n, h) = numbered_none undecoded_file 0 files uses.decoded j f b in
          let (k, g) = numbered_none (λ k m. undecoded n k f.pool m.code) 0 f.methods h i y q in
          decoded_one f.pool n k y.code g
    ]

-- ---- arrays and literals

level_first : (n : ℕ) (e : Elem) → 0 < n → IsIn (array n e) (levels n e)
level_first zero e l = absurd (omega arith)
level_first (suc n) e l = (0, refl)

module _ (files : List ClassFile) (m at : ℕ) (o : Placed) (x : IsOpAt (boot_files ++ files) m at o) where
  -- the array type that an instruction names is among those of the files
  pub array_seen : (d : Desc) → op_array x.file.pool o.op ≡ Some d → 0 < d.dims → is_seen same_desc (array_types files) d ≡ true
  unfolding array_types
  array_seen d e l =
      let own : IsIn d (op_types x.file.pool o.op) = rw e (level_first d.dims d.elem l) in
      let code : IsIn d (code_types x.file.pool (code_in x.file.pool x.item)) = in_flat (λ (p : Placed). op_types x.file.pool p.op) d (ops_of x.file.pool x.item) x.index o x.is_op own in
      let here : slice_get (codes_of x.file) x.place ≡ Some (code_in x.file.pool x.item) = slice_get-map (code_in x.file.pool) x.file.methods x.place ∙ ap (option_map (code_in x.file.pool)) x.is_item in
      let file : IsIn d (file_types x.file) = in_flat (code_types x.file.pool) d (codes_of x.file) x.place (code_in x.file.pool x.item) here code in
      let (i, q) : IsIn d (flat_map file_types (boot_files ++ files)) = in_flat file_types d (boot_files ++ files) x.class x.file x.is_file file in
      let any : is_seen same_desc (flat_map file_types (boot_files ++ files)) d ≡ true = any_passes_from_place (same_desc d) (flat_map file_types (boot_files ++ files)) i d q (descs_equivalent.refl d) in
      ap (λ (ds : List Desc). is_seen same_desc ds d) (sym (types_of_files files))
      ∙ seen_items same_desc descs_equivalent [] (strings ∷ flat_map file_types (boot_files ++ files)) d
      ∙ or_right (same_desc d strings) (is_seen same_desc (flat_map file_types (boot_files ++ files)) d) any

  -- the text that `ldc` loads is a literal of the files
  pub literal_seen : (i j : ℕ) → o.op ≡ op.Ldc i → slice_get x.file.pool i ≡ Some (Text j) → (k : ℕ) × (k < length (literals files)) × (literal_number (literals files) (text_in x.file.pool j) ≡ Some k)
  unfolding literals
  literal_seen i j e r =
      let text : List ℕ = text_in x.file.pool j in
      let own : IsIn text (op_literals x.file.pool o.op) = subst (λ (z : Op). IsIn text (op_literals x.file.pool z)) (sym e) (rw r (0, refl)) in
      let code : IsIn text (code_literals x.file.pool (code_in x.file.pool x.item)) = in_flat (λ (p : Placed). op_literals x.file.pool p.op) text (ops_of x.file.pool x.item) x.index o x.is_op own in
      let here : slice_get (codes_of x.file) x.place ≡ Some (code_in x.file.pool x.item) = slice_get-map (code_in x.file.pool) x.file.methods x.place ∙ ap (option_map (code_in x.file.pool)) x.is_item in
      let file : IsIn text (file_literals x.file) = in_right text (flat_map (field_literals x.file.pool) x.file.fields) _ (in_flat (code_literals x.file.pool) text (codes_of x.file) x.place (code_in x.file.pool x.item) here code) in
      let (n, q) : IsIn text (flat_map file_literals (boot_files ++ files)) = in_flat file_literals text (boot_files ++ files) x.class x.file x.is_file file in
      let any : is_seen is_name (flat_map file_literals (boot_files ++ files)) text ≡ true = any_passes_from_place (is_name text) (flat_map file_literals (boot_files ++ files)) n text q (names_equivalent.refl text) in
      let seen : is_seen is_name (literals files) text ≡ true =
      ap (λ (ts : List (List ℕ)). is_seen is_name ts text) (sym (literals_of_files files)) ∙ seen_items is_name names_equivalent [] (flat_map file_literals (boot_files ++ files)) text ∙ any in
      let l = passes_within (is_name text) (literals files) seen in
      (position_or_len (is_name text) (literals files), l, at_position (is_name text) (literals files) (position_or_len (is_name text) (literals files)) refl l)
