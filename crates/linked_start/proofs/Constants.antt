-- Constants of fields are literals of their types.
use Rattle.std.proofs.Common.{◌≡◌, ◌∙◌, sym, ap, subst, refl, ℕ, ◌+◌, ◌<◌, Bool, true, false, List, [], ◌∷◌, ◌++◌, length, map, slice_get, Option, Some, None, inl, inr}
use Rattle.std.specs.Prelude.{codes}
use Rattle.std.specs.List.{AllByRecursion}
use Rattle.std.specs.Option.{option_map_or}
use Rattle.std.proofs.lemmas.List.Elements.{recursion_from_All}
use Rattle.std.proofs.lemmas.Option.{slice_get_within}
use Rattle.jvm_base.specs.Descriptors.{desc_of, desc_at, elem_at}
use Rattle.jvm_base.specs.Words.{from}
use Rattle.jvm_base.specs.declared.desc.Desc.{Desc}
use Rattle.jvm_base.specs.declared.pool.PoolItem.{PoolItem}
use Rattle.jvm_base.specs.declared.pool.PoolItem.TheVariants as item
use Rattle.jvm_base.specs.declared.value.Value.{Value}
use Rattle.jvm_base.specs.declared.value.Value.TheVariants as value
use Rattle.jvm_base.proofs.Options.{map_some, then_some}
use Rattle.boot_table.specs.Files.{boot_files}
use Rattle.boot_table.specs.Table.{boot_rows, first_rows, exceptions}
use Rattle.boot_table.proofs.BootLaws.{boot_formed}
use Rattle.constant_pool.specs.Items.{text_at, is_text_that}
use Rattle.class_format.specs.KnownTexts.{is_int_desc, is_constant, is_constant_at}
use Rattle.class_format.specs.Meaning.{IsClass, IsField, IsConstant, Spelled, contents_of, keeps_constant, plain_field}
use Rattle.class_format.specs.Spelling.{Member}
use Rattle.class_format.specs.declared.class.ClassFile.{ClassFile}
use Rattle.class_format.specs.declared.class.FieldItem.{FieldItem}
use Rattle.class_names.specs.Known.{is_name}
use Rattle.class_names.specs.Texts.{text_in}
use Rattle.hierarchy.proofs.Tests.{or_split}
use Rattle.link_rules.specs.Numbers.{map_from}
use Rattle.link_arrays.specs.Literals.{literal_number, literal_name}
use Rattle.link_uses.specs.declared.lookup.Found.{Found}
use Rattle.link_image.specs.Classes.{class_infos}
use Rattle.link_image.specs.Constants.{literal_value, item_value, constant_value}
use Rattle.link_image.specs.Fields.{no_desc, base_of, place_in, field_info}
use Rattle.link_image.specs.Image.{image_of}
use Rattle.link_image.proofs.ClassLaws.{count_infos}
use Rattle.program_image.specs.Program.{Program}
use Rattle.program_image.specs.Words.{fields_of}
use Rattle.program_image.specs.declared.info.ClassInfo.{ClassInfo}
use Rattle.flow_types.specs.Tree.{superclasses}
use Rattle.flow_types.specs.Types.{type_fits}
use Rattle.flow_types.specs.declared.flow_type.FlowType.{FlowType}
use Rattle.flow_types.specs.declared.flow_type.FlowType.TheVariants as flow
use Rattle.flow_types.proofs.TreeLaws.{below-refl}
use Rattle.instruction_table.specs.ClassTypes.{class_at, desc_type, value_type}
use Rattle.machine_state.specs.BootClasses.{string}
use Rattle.frame_soundness.specs.AcceptedProgram.{IsLiteral, ConstantFits, ConstantsFit}
use Rattle.linked_classes.specs.Linking.{AreRight}
use Rattle.linked_classes.proofs.Above.{all_at, same_name, declared, of_array, kind_of, place_of}
use Rattle.linked_classes.proofs.Positions.{position_at}
use Rattle.linked_start.proofs.Boot.{string_class}

-- ---- class files

-- a field's constant is an item of its descriptor
abbrev HasConstant : List PoolItem → FieldItem → Type 0
HasConstant pool x = (i : ℕ) → x.constant ≡ Some i → is_constant_at pool x.desc i ≡ true

-- by what spells the field
has_constant : (pool : List PoolItem) (desc : ℕ) (o : Option ℕ) (contents : List (List ℕ)) → IsConstant pool desc o contents → (i : ℕ) → o ≡ Some i → is_constant_at pool desc i ≡ true
has_constant pool desc None contents h i e = absurd cc
has_constant pool desc (Some k) contents h i e = let s : k ≡ i = cc in subst (λ n. is_constant_at pool desc n ≡ true) s (h.2)

-- so each field
spelled_constants : (pool : List PoolItem) (earlier : List FieldItem) (sources : List Member) (xs : List FieldItem) → Spelled (IsField pool) earlier sources xs → AllByRecursion (HasConstant pool) xs
spelled_constants pool earlier [] [] h = tt
spelled_constants pool earlier [] (x ∷ xs) h = absurd h
spelled_constants pool earlier (a ∷ sources) [] h = absurd h
spelled_constants pool earlier (a ∷ sources) (x ∷ xs) h = (
  λ i e. ap (λ (n : ℕ). is_constant_at pool n i) h.0.desc ∙ has_constant pool a.desc x.constant (contents_of (keeps_constant pool a.flags) a.attributes) h.0.constant i e,
  spelled_constants pool (earlier ++ x ∷ []) sources xs h.1,
)

-- each of a class file
constants_file : (f : ClassFile) → IsClass f → AllByRecursion (HasConstant f.pool) f.fields
constants_file f h = spelled_constants f.pool [] (map (plain_field f.pool) f.fields) f.fields h.fields

-- a text that passes
text_passes : (test : List ℕ → Bool) (pool : List PoolItem) (i : ℕ) → is_text_that test pool i ≡ true → test (text_in pool i) ≡ true
text_passes test pool i h = by_text (text_at pool i) h
  where
    by_text : (o : Option (List ℕ)) → option_map_or test o false ≡ true → test (from [] (λ us. us) o) ≡ true
    by_text None h = absurd cc
    by_text (Some us) h = h

-- ---- types of descriptors

-- the type that a text gives
abbrev text_type : Program → List ℕ → FlowType
text_type p us = desc_type p (from no_desc (λ d. d) (desc_of us))

-- what is an int on the stack
int_type : (p : Program) → text_type p (codes "I") ≡ flow.Int
unfolding desc_of desc_at elem_at
int_type p = refl

short_type : (p : Program) → text_type p (codes "S") ≡ flow.Int
unfolding desc_of desc_at elem_at
short_type p = refl

char_type : (p : Program) → text_type p (codes "C") ≡ flow.Int
unfolding desc_of desc_at elem_at
char_type p = refl

byte_type : (p : Program) → text_type p (codes "B") ≡ flow.Int
unfolding desc_of desc_at elem_at
byte_type p = refl

boolean_type : (p : Program) → text_type p (codes "Z") ≡ flow.Int
unfolding desc_of desc_at elem_at
boolean_type p = refl

-- each descriptor of int constants gives an int
int_text : (p : Program) (us : List ℕ) → is_int_desc us ≡ true → text_type p us ≡ flow.Int
int_text p us h =
    elim (or_split _ (is_name us (codes "Z")) h) [
      | inr e ↦ ap (text_type p) (same_name us (codes "Z") e) ∙ boolean_type p
      | inl h ↦ elim (or_split _ (is_name us (codes "B")) h) [
        | inr e ↦ ap (text_type p) (same_name us (codes "B") e) ∙ byte_type p
        | inl h ↦ elim (or_split _ (is_name us (codes "C")) h) [
          | inr e ↦ ap (text_type p) (same_name us (codes "C") e) ∙ char_type p
          | inl h ↦ elim (or_split (is_name us (codes "I")) (is_name us (codes "S")) h) [
            | inr e ↦ ap (text_type p) (same_name us (codes "S") e) ∙ short_type p
            | inl e ↦ ap (text_type p) (same_name us (codes "I") e) ∙ int_type p
          ]
        ]
      ]
    ]

-- a long is a long
long_type : (p : Program) → text_type p (codes "J") ≡ flow.Long
unfolding desc_of desc_at elem_at
long_type p = refl

-- ---- an image

module _ (files : List ClassFile) (arrays : List Desc) (literals : List (List ℕ)) (main : Found) (right : AreRight files arrays literals main) where
  abbrev p : Program
  p = image_of (boot_files ++ files) arrays literals main

  abbrev count : ℕ
  count = length (boot_files ++ files) + length arrays

  abbrev fits : Value → FlowType → Bool
  fits v t = type_fits (superclasses p) (value_type p v) t

  -- the type that the descriptor of Strings gives
  string_desc : text_type p (codes "Ljava/lang/String;") ≡ flow.Class string
  unfolding image_of class_infos boot_files boot_rows first_rows exceptions desc_of desc_at elem_at
  string_desc = refl

  -- a String's value
  text_fits : (text : List ℕ) (v : Value) → literal_value count literals text ≡ Some v → IsLiteral p v × (fits v (flow.Class string) ≡ true)
  unfolding image_of
  text_fits text v e =
      let (n, q, s) = map_some (λ n. value.Ref (literal_name count n)) (literal_number literals text) v e in
      let (x, r, t) = position_at (is_name text) literals n q in
      let l : n < length literals = slice_get_within literals n x r in
      let c = count_infos (boot_files ++ files) arrays literals in
      let there : IsLiteral p (value.Ref (literal_name count n)) = (n, l, ap (λ (k : ℕ). literal_name k n) (sym c)) in
      let suits : fits (value.Ref (literal_name count n)) (flow.Class string) ≡ true = ap (λ (t : FlowType). type_fits (superclasses p) t (flow.Class string)) (string_class files arrays literals main right).1 ∙ below-refl (superclasses p) right.tree string in
      subst (λ (w : Value). IsLiteral p w × (fits w (flow.Class string) ≡ true)) s (there, suits)

  -- the value of an item of the descriptor
  item_fits : (pool : List PoolItem) (x : PoolItem) (desc : List ℕ) (v : Value) → is_constant desc x ≡ true → item_value count literals pool x ≡ Some v → IsLiteral p v × (fits v (text_type p desc) ≡ true)
  item_fits pool (item.Integer n) desc v h e =
      let s : value.Int n ≡ v = cc in
      subst (λ (w : Value). IsLiteral p w × (fits w (text_type p desc) ≡ true)) s (tt, ap (λ (t : FlowType). fits (value.Int n) t) (int_text p desc h))
  item_fits pool (item.Long n) desc v h e =
      let s : value.Long n ≡ v = cc in
      let t : desc ≡ codes "J" = same_name desc (codes "J") h in
      subst (λ (w : Value). IsLiteral p w × (fits w (text_type p desc) ≡ true)) s (tt, ap (λ (us : List ℕ). fits (value.Long n) (text_type p us)) t ∙ ap (λ (t : FlowType). fits (value.Long n) t) (long_type p))
  item_fits pool (item.Text i) desc v h e =
      let t : desc ≡ codes "Ljava/lang/String;" = same_name desc (codes "Ljava/lang/String;") h in
      let w : text_type p desc ≡ flow.Class string = ap (text_type p) t ∙ string_desc in
      let (a, b) = text_fits (text_in pool i) v e in
      (a, ap (fits v) w ∙ b)
  item_fits pool _ desc v h e = absurd cc

  -- the constant of a field
  constant_fits : (f : ClassFile) (owner place : ℕ) (x : FieldItem) → HasConstant f.pool x → (v : Value) → (field_info count literals f owner place x).constant ≡ Some v → ConstantFits p (field_info count literals f owner place x) v
  constant_fits f owner place x h v e =
      let (i, q, r) = then_some (constant_value count literals f.pool) x.constant v e in
      let (it, s, t) = then_some (item_value count literals f.pool) (slice_get f.pool i) v r in
      let k : is_text_that (λ us. is_constant us it) f.pool x.desc ≡ true = subst (λ (o : Option PoolItem). option_map_or (λ y. is_text_that (λ us. is_constant us y) f.pool x.desc) o false ≡ true) s (h i q) in
      let (a, b) = item_fits f.pool it (text_in f.pool x.desc) v (text_passes (λ us. is_constant us it) f.pool x.desc k) t in
      record { literal = a; suits = b }

  -- those of some fields, the first of which has the number n
  fields_fit : (f : ClassFile) (owner : ℕ) (place : ℕ → FieldItem → ℕ) (n : ℕ) (xs : List FieldItem) → AllByRecursion (HasConstant f.pool) xs → ConstantsFit p (map_from (λ i x. field_info count literals f owner (place i x) x) n xs)
  fields_fit f owner place n [] h = tt
  fields_fit f owner place n (x ∷ xs) h = (constant_fits f owner (place n x) x h.0, fields_fit f owner place (n + 1) xs h.1)

  -- each declared class is a class file
  formed_at : AllByRecursion IsClass files → (c : ℕ) (f : ClassFile) → slice_get (boot_files ++ files) c ≡ Some f → IsClass f
  formed_at formed c f e =
      elim (place_of files arrays literals main right c f e) [
        | inl b ↦ all_at IsClass boot_files (recursion_from_All IsClass boot_files boot_formed) c f b
        | inr b ↦ all_at IsClass files formed b.0 f b.1
      ]

  -- those of each class
  pub constants : AllByRecursion IsClass files → (c : ℕ) → ConstantsFit p (fields_of p c)
  constants formed c = by_class (class_at p c) refl
    where
      by_class : (o : Option ClassInfo) → class_at p c ≡ o → ConstantsFit p (fields_of p c)
      by_class None q = subst (λ (o : Option ClassInfo). ConstantsFit p (from [] (λ k. k.fields) o)) (sym q) tt
      by_class (Some info) q =
          elim (kind_of files arrays literals main right c info q) [
            | inl d ↦
                subst (λ (o : Option ClassInfo). ConstantsFit p (from [] (λ k. k.fields) o)) (sym (declared files arrays literals main right c d.file d.is_file))
                (fields_fit d.file (0 + c) (λ i x. place_in (base_of (boot_files ++ files) (0 + c)) d.file.fields i x) 0 d.file.fields (constants_file d.file (formed_at formed c d.file d.is_file)))
            | inr a ↦ subst (λ (o : Option ClassInfo). ConstantsFit p (from [] (λ k. k.fields) o)) (sym (ap (class_at p) a.number ∙ of_array files arrays literals main right a.place a.type a.is_type)) tt
          ]
