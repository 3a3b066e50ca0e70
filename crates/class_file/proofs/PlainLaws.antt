-- What some bytes spell is spelled without the attributes that are skipped, too.
use Rattle.std.proofs.Common.{◌≡◌, ℕ, ◌+◌, ◌*◌, ◌^◌, ◌<◌, Bool, true, false, cond, List, [], ◌∷◌, ◌++◌, length, map, get_or, Option, Some, None, slice_get, refl, sym, ap, subst, ◌∙◌, arith, inl, inr, length-append}
use Rattle.std.specs.List.{flat_map}
use Rattle.std.specs.Option.{option_map_or}
use Rattle.std.specs.Prelude.{is_some, option_and_then}
use Rattle.std.proofs.lemmas.Bool.{cases_lt}
use Rattle.std.proofs.lemmas.List.Concat.{flat_map-cons}
use Rattle.std.proofs.lemmas.List.{length-map}
use Rattle.std.proofs.lemmas.List.Sums.{fails_before_first, passes_at_first}
use Rattle.std.proofs.lemmas.Option.{slice_get-get_or, slice_get_within, get_or_from_slice_get}
use Rattle.jvm_base.specs.declared.code_item.CodeItem.{CodeItem}
use Rattle.jvm_base.specs.declared.code_item.TableItem.{TableItem}
use Rattle.jvm_base.specs.declared.pool.PoolItem.{PoolItem}
use Rattle.jvm_base.specs.declared.pool.PoolItem.TheVariants.{Gap}
use Rattle.jvm_base.proofs.Options.{and_parts}
use Rattle.class_format.specs.declared.class.ClassFile.{ClassFile}
use Rattle.class_format.specs.declared.class.FieldItem.{FieldItem}
use Rattle.class_format.specs.declared.class.MethodItem.{MethodItem}
use Rattle.class_format.specs.Flags.{is_static}
use Rattle.constant_pool.specs.Items.{text_of, text_at, is_text_that}
use Rattle.class_format.specs.Meaning.{FitsAttribute, AreAttributes, IsField, IsMethod, IsCode, IsConstant, HasCode, Means, Spelled, contents_of, keeps_constant, holds_code, lowest_that, constant_attributes, code_attributes, plain_field, plain_method, plain, IsClass}
use Rattle.class_format.specs.KnownTexts.{is_code, is_constant_value}
use Rattle.class_format.specs.Spelling.{Attribute, Member, Source, number2, number4, listed, attribute_bytes, table_bytes, code_bytes}
use Rattle.class_file.proofs.KeptLaws.{contents_cons}
use Rattle.class_file.proofs.PartLaws.{spelled_long}

-- ---- the lowest index of a text

module _ (test : List ℕ → Bool) (pool : List PoolItem) where
  stands_by : (i : ℕ) (o : Option PoolItem) → slice_get pool i ≡ o → option_map_or test (option_and_then text_of o) false ≡ true → lowest_that test pool < length pool
  stands_by i None e h = absurd cc
  stands_by i (Some item) e h =
      let within : i < length pool = slice_get_within pool i item e in
      let here : get_or pool i Gap ≡ item = get_or_from_slice_get pool i item Gap e in
      elim (cases_lt i (lowest_that test pool)) [
        | inl lt ↦ absurd (
            let fails : option_map_or test (text_of (get_or pool i Gap)) false ≡ false = fails_before_first (λ item. option_map_or test (text_of item) false) pool i Gap lt in
            let holds : option_map_or test (text_of (get_or pool i Gap)) false ≡ true = rw here h in
            cc)
        | inr le ↦ omega arith
      ]

  pub lowest_stands : (i : ℕ) → is_text_that test pool i ≡ true → lowest_that test pool < length pool
  lowest_stands i h = stands_by i (slice_get pool i) refl h

  pub lowest_passes : lowest_that test pool < length pool → is_text_that test pool (lowest_that test pool) ≡ true
  lowest_passes lt =
      ap (λ (o : Option PoolItem). option_map_or test (option_and_then text_of o) false) (slice_get-get_or pool (lowest_that test pool) Gap lt)
      ∙ passes_at_first (λ item. option_map_or test (text_of item) false) pool Gap lt

pub text_there : (test : List ℕ → Bool) (o : Option (List ℕ)) → option_map_or test o false ≡ true → is_some o ≡ true
text_there test (Some us) h = refl
text_there test None h = absurd cc

-- ---- one attribute of the plain spelling

fits_plain : (test : List ℕ → Bool) (pool : List PoolItem) (contents : List ℕ) → length pool < 2 ^ 16 → lowest_that test pool < length pool → length contents < 2 ^ 32 → FitsAttribute pool (record { name = lowest_that test pool; contents = contents })
fits_plain test pool contents count lt long = record { name = omega (arith, count, lt); text = text_there test (text_at pool (lowest_that test pool)) (lowest_passes test pool lt); contents = long }

only_one : (test : Attribute → Bool) (a : Attribute) → test a ≡ true → contents_of test (a ∷ []) ≡ a.contents ∷ []
only_one test a h = contents_cons test a [] ∙ ap (λ (b : Bool). cond b (a.contents ∷ []) []) h

-- an attribute that passes, where one has contents
record HasOne (test : Attribute → Bool) : Type 0 where
  pub a : Attribute
  pub passes : test a ≡ true

one_by : (b : Bool) (test : Attribute → Bool) (a : Attribute) (contents : List (List ℕ)) (one : List ℕ) (more : List (List ℕ)) → test a ≡ b → cond b (a.contents ∷ contents) contents ≡ one ∷ more → (contents ≡ one ∷ more → HasOne test) → HasOne test
one_by true test a contents one more e h later = record { a = a; passes = e }
one_by false test a contents one more e h later = later h

has_one : (test : Attribute → Bool) (attributes : List Attribute) (one : List ℕ) (more : List (List ℕ)) → contents_of test attributes ≡ one ∷ more → HasOne test
has_one test [] one more h = absurd cc
has_one test (a ∷ attributes) one more h = one_by (test a) test a (contents_of test attributes) one more refl (sym (contents_cons test a attributes) ∙ h) (has_one test attributes one more)

-- ---- fields

record PlainConstant (pool : List PoolItem) (flags desc : ℕ) (constant : Option ℕ) : Type 0 where
  pub attributes : AreAttributes pool (constant_attributes pool constant)
  pub constant_is : IsConstant pool desc constant (contents_of (keeps_constant pool flags) (constant_attributes pool constant))

plain_constant : (pool : List PoolItem) (flags desc : ℕ) (constant : Option ℕ) (attributes : List Attribute) → length pool < 2 ^ 16 → IsConstant pool desc constant (contents_of (keeps_constant pool flags) attributes) → PlainConstant pool flags desc constant
plain_constant pool flags desc None attributes count h = record { attributes = (tt, omega arith); constant_is = refl }
plain_constant pool flags desc (Some value) attributes count h =
    let one = has_one (keeps_constant pool flags) attributes (number2 value) [] h.0 in
    let parts = and_parts (is_static flags) (is_text_that is_constant_value pool one.a.name) one.passes in
    let stands : lowest_that is_constant_value pool < length pool = lowest_stands is_constant_value pool one.a.name parts.1 in
    let a : Attribute = record { name = lowest_that is_constant_value pool; contents = number2 value } in
    let kept : keeps_constant pool flags a ≡ true = rw (parts.0, lowest_passes is_constant_value pool stands) refl in
    record {
      attributes = ((fits_plain is_constant_value pool (number2 value) count stands (omega arith), tt), omega arith);
      constant_is = (only_one (keeps_constant pool flags) a kept, h.1, h.2);
    }

field_is_plain : (pool : List PoolItem) (earlier : List FieldItem) (m : Member) (f : FieldItem) → length pool < 2 ^ 16 → IsField pool earlier m f → IsField pool earlier (plain_field pool f) f
field_is_plain pool earlier m f count h =
    let constant = plain_constant pool m.flags m.desc f.constant m.attributes count h.constant in
    let same : Member = record { flags = m.flags; name = m.name; desc = m.desc; attributes = constant_attributes pool f.constant } in
    let is : IsField pool earlier same f = record {
      member = record { head = h.member.head; attributes = constant.attributes };
      new = h.new;
      flags = h.flags;
      name = h.name;
      desc = h.desc;
      constant = constant.constant_is;
    } in
    let one : same ≡ plain_field pool f = rw (h.flags, h.name, h.desc) refl in
    subst (λ (n : Member). IsField pool earlier n f) one is

fields_are_plain : (pool : List PoolItem) (earlier : List FieldItem) (ms : List Member) (fs : List FieldItem) → length pool < 2 ^ 16 → Spelled (IsField pool) earlier ms fs → Spelled (IsField pool) earlier (map (plain_field pool) fs) fs
fields_are_plain pool earlier [] [] count h = tt
fields_are_plain pool earlier [] (f ∷ fs) count h = absurd h
fields_are_plain pool earlier (m ∷ ms) [] count h = absurd h
fields_are_plain pool earlier (m ∷ ms) (f ∷ fs) count h = (field_is_plain pool earlier m f count h.0, fields_are_plain pool (earlier ++ f ∷ []) ms fs count h.1)

-- ---- methods

table_long : (table : List TableItem) → length (flat_map table_bytes table) ≡ length table * 8
table_long [] = refl
table_long (t ∷ table) =
    let rest : length (flat_map table_bytes table) ≡ length table * 8 = table_long table in
    ap length (flat_map-cons table_bytes t table) ∙ omega (arith, rest)

code_long : (c : CodeItem) → length (code_bytes c []) ≡ 12 + length c.code + length c.table * 8
code_long c =
    let front : List ℕ = number2 c.max_stack ++ number2 c.max_locals ++ number4 (length c.code) in
    omega (arith, table_long c.table, length-append (front ++ c.code ++ listed table_bytes c.table) (listed attribute_bytes []), length-append (front ++ c.code) (listed table_bytes c.table), length-append front c.code)

record PlainCode (pool : List PoolItem) (flags : ℕ) (code : Option CodeItem) : Type 0 where
  pub attributes : AreAttributes pool (code_attributes pool code)
  pub code_is : HasCode pool flags code (contents_of (holds_code pool) (code_attributes pool code))

plain_code : (pool : List PoolItem) (flags : ℕ) (code : Option CodeItem) (attributes : List Attribute) → length pool < 2 ^ 16 → HasCode pool flags code (contents_of (holds_code pool) attributes) → PlainCode pool flags code
plain_code pool flags None attributes count h = record { attributes = (tt, omega arith); code_is = (h.0, refl) }
plain_code pool flags (Some c) attributes count h =
    let one = has_one (holds_code pool) attributes h.1 [] h.2 in
    let stands : lowest_that is_code pool < length pool = lowest_stands is_code pool one.a.name one.passes in
    let a : Attribute = record { name = lowest_that is_code pool; contents = code_bytes c [] } in
    let long : length (code_bytes c []) < 2 ^ 32 = omega (arith, code_long c, h.3.code.sizes.short, h.3.code.count) in
    let is : IsCode pool c (code_bytes c []) = record {
      others = [];
      spelled = refl;
      code = h.3.code;
      attributes = (tt, omega arith);
    } in
    record {
      attributes = ((fits_plain is_code pool (code_bytes c []) count stands long, tt), omega arith);
      code_is = (h.0, code_bytes c [], only_one (holds_code pool) a (lowest_passes is_code pool stands), is);
    }

method_is_plain : (pool : List PoolItem) (earlier : List MethodItem) (m : Member) (x : MethodItem) → length pool < 2 ^ 16 → IsMethod pool earlier m x → IsMethod pool earlier (plain_method pool x) x
method_is_plain pool earlier m x count h =
    let code = plain_code pool m.flags x.code m.attributes count h.code in
    let same : Member = record { flags = m.flags; name = m.name; desc = m.desc; attributes = code_attributes pool x.code } in
    let is : IsMethod pool earlier same x = record {
      member = record { head = h.member.head; attributes = code.attributes };
      new = h.new;
      flags = h.flags;
      name = h.name;
      desc = h.desc;
      code = code.code_is;
    } in
    let one : same ≡ plain_method pool x = rw (h.flags, h.name, h.desc) refl in
    subst (λ (n : Member). IsMethod pool earlier n x) one is

methods_are_plain : (pool : List PoolItem) (earlier : List MethodItem) (ms : List Member) (xs : List MethodItem) → length pool < 2 ^ 16 → Spelled (IsMethod pool) earlier ms xs → Spelled (IsMethod pool) earlier (map (plain_method pool) xs) xs
methods_are_plain pool earlier [] [] count h = tt
methods_are_plain pool earlier [] (x ∷ xs) count h = absurd h
methods_are_plain pool earlier (m ∷ ms) [] count h = absurd h
methods_are_plain pool earlier (m ∷ ms) (x ∷ xs) count h = (method_is_plain pool earlier m x count h.0, methods_are_plain pool (earlier ++ x ∷ []) ms xs count h.1)

-- ---- class files

-- the source of a class file with plain members
abbrev plain_of : Source → ClassFile → Source
plain_of s c = record {
  minor = s.minor;
  major = s.major;
  pool = s.pool;
  flags = s.flags;
  this_class = s.this_class;
  super_class = s.super_class;
  interfaces = s.interfaces;
  fields = map (plain_field s.pool) c.fields;
  methods = map (plain_method s.pool) c.methods;
  attributes = [];
}

pub is_class : (s : Source) (c : ClassFile) → Means s c → IsClass c
is_class s c h =
    let long_fields : length (map (plain_field s.pool) c.fields) ≡ length s.fields = length-map c.fields (plain_field s.pool) ∙ spelled_long (IsField s.pool) [] s.fields c.fields h.fields in
    let long_methods : length (map (plain_method s.pool) c.methods) ≡ length s.methods = length-map c.methods (plain_method s.pool) ∙ spelled_long (IsMethod s.pool) [] s.methods c.methods h.methods in
    let is : Means (plain_of s c) c = record {
      minor = h.minor;
      major = h.major;
      pool = h.pool;
      flags = h.flags;
      this_class = h.this_class;
      super_class = h.super_class;
      interfaces = h.interfaces;
      fields = fields_are_plain s.pool [] s.fields c.fields h.front.pool.count h.fields;
      methods = methods_are_plain s.pool [] s.methods c.methods h.front.pool.count h.methods;
      front = record { version = h.front.version; pool = h.front.pool; links = h.front.links; names = h.front.names };
      field_count = omega (arith, h.field_count, long_fields);
      method_count = omega (arith, h.method_count, long_methods);
      attributes = (tt, omega arith);
    } in
    let one : plain_of s c ≡ plain c = rw (← h.minor, ← h.major, ← h.pool, ← h.flags, ← h.this_class, ← h.super_class, ← h.interfaces) refl in
    subst (λ (t : Source). Means t c) one is
