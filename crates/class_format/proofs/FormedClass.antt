-- A class file can be spelled exactly where each of its parts is as it has to be.
use Rattle.std.proofs.Common.{◌≡◌, ℕ, zero, suc, ◌<◌, ◌+◌, ◌^◌, Bool, true, false, cond, not, ◌&&◌, ◌||◌, List, [], ◌∷◌, ◌++◌, length, map, Option, Some, None, slice_get, refl, sym, ap, subst, arith}
use Rattle.std.specs.Prelude.{All, is_some}
use Rattle.std.specs.Option.{option_map_or}
use Rattle.std.specs.List.{AllByRecursion, list_any}
use Rattle.std.proofs.lemmas.List.{length-map}
use Rattle.jvm_base.specs.declared.code_item.CodeItem.{CodeItem}
use Rattle.jvm_base.specs.declared.pool.PoolItem.{PoolItem}
use Rattle.jvm_base.specs.declared.pool.PoolItem.TheVariants.{Gap}
use Rattle.jvm_base.proofs.Options.{and_parts, not_true}
use Rattle.class_format.specs.declared.class.ClassFile.{ClassFile}
use Rattle.class_format.specs.declared.class.FieldItem.{FieldItem}
use Rattle.class_format.specs.declared.class.MethodItem.{MethodItem}
use Rattle.class_format.specs.Flags.{is_static}
use Rattle.constant_pool.specs.Items.{text_at, is_text_that, is_item_that}
use Rattle.class_format.specs.KnownTexts.{is_code, is_constant_value, is_constant_at}
use Rattle.class_format.specs.Members.{is_among, field_keys, method_keys, field_key, method_key}
use Rattle.class_format.specs.Spelling.{Attribute, Member, number2, code_bytes}
use Rattle.class_format.specs.Meaning.{IsPool, FormedPool, AreAttributes, contents_of, keeps_constant, holds_code, IsConstant, IsCode, HasCode, IsField, IsMethod, Spelled, lowest_that, constant_attributes, code_attributes, plain_field, plain_method, IsClass}
use Rattle.class_format.specs.Judging.Formed.{has_text_that, constant_passes, FitsConstant, FormedField, FormedCodeOf, FormedMethod, AreNew, FormedMembers, FormedParts}
use Rattle.class_format.proofs.Recursion.{all_of, by_recursion}
use Rattle.class_format.proofs.Lengths.{code-length}

-- ---- tests

joined : (a b : Bool) → a ≡ true → b ≡ true → (a && b) ≡ true
joined a b h k = rw (h, k) refl

-- ---- the lowest index of a text

record IsLowest (test : List ℕ → Bool) (pool : List PoolItem) (i : ℕ) : Type 0 where
  pub within : i < length pool
  pub passes : is_text_that test pool i ≡ true

lowest : (test : List ℕ → Bool) (pool : List PoolItem) → has_text_that test pool ≡ true → IsLowest test pool (lowest_that test pool)
lowest test [] e = absurd cc
lowest test (item ∷ items) e =
    let cases : (b : Bool) → is_item_that test item ≡ b → (b || list_any (is_item_that test) items) ≡ true → IsLowest test (item ∷ items) (cond (not b) (1 + lowest_that test items) 0) = λ b. elim b as (λ b. is_item_that test item ≡ b → (b || list_any (is_item_that test) items) ≡ true → IsLowest test (item ∷ items) (cond (not b) (1 + lowest_that test items) 0)) [
      | true ↦ λ h k. record { within = omega arith; passes = h }
      | false ↦ λ h k.
          let below = lowest test items k in
          let next : suc (lowest_that test items) ≡ 1 + lowest_that test items = omega arith in
          subst (λ i. IsLowest test (item ∷ items) i) next (record { within = omega (arith, below.within); passes = below.passes })
    ] in
    cases (is_item_that test item) refl e

text_there : (test : List ℕ → Bool) (pool : List PoolItem) (i : ℕ) → is_text_that test pool i ≡ true → has_text_that test pool ≡ true
text_there test [] i e = absurd cc
text_there test (item ∷ items) zero e = rw e refl
text_there test (item ∷ items) (suc i) e =
    let there = text_there test items i e in
    elim (is_item_that test item) as (λ b. (b || list_any (is_item_that test) items) ≡ true) [ true ↦ refl | false ↦ there ]

is_text : (test : List ℕ → Bool) (text : Option (List ℕ)) → option_map_or test text false ≡ true → is_some text ≡ true
is_text test None e = absurd cc
is_text test (Some us) e = refl

-- ---- attributes

one_attribute : (pool : List PoolItem) (test : List ℕ → Bool) (contents : List ℕ) → length pool < 2 ^ 16 → has_text_that test pool ≡ true → length contents < 2 ^ 32 → AreAttributes pool (record { name = lowest_that test pool; contents = contents } ∷ [])
one_attribute pool test contents few e short =
    let at = lowest test pool e in
    ((record { name = omega (arith, at.within); text = is_text test (text_at pool (lowest_that test pool)) at.passes; contents = short }, tt), omega arith)

-- the contents of an attribute that passes are kept, and of no other
kept : (b : Bool) (a : Attribute) → b ≡ true → map (λ (x : Attribute). x.contents) (cond b (a ∷ []) []) ≡ a.contents ∷ []
kept b a e = rw e refl

was_kept : (b : Bool) (a : Attribute) (one : List ℕ) → map (λ (x : Attribute). x.contents) (cond b (a ∷ []) []) ≡ one ∷ [] → b ≡ true
was_kept true a one e = refl
was_kept false a one e = absurd cc

-- ---- fields

constant_is : (pool : List PoolItem) (flags desc : ℕ) (constant : Option ℕ) → length pool < 2 ^ 16 → FitsConstant constant → constant_passes pool flags desc constant ≡ true → AreAttributes pool (constant_attributes pool constant) × IsConstant pool desc constant (contents_of (keeps_constant pool flags) (constant_attributes pool constant))
constant_is pool flags desc None few fits e = ((tt, omega arith), refl)
constant_is pool flags desc (Some value) few fits e =
    let last = and_parts (is_static flags && has_text_that is_constant_value pool) (is_constant_at pool desc value) e in
    let first = and_parts (is_static flags) (has_text_that is_constant_value pool) last.0 in
    let a : Attribute = record { name = lowest_that is_constant_value pool; contents = number2 value } in
    let keeps = joined (is_static flags) (is_text_that is_constant_value pool (lowest_that is_constant_value pool)) first.0 (lowest is_constant_value pool first.1).passes in
    (one_attribute pool is_constant_value (number2 value) few first.1 (omega arith), (kept (keeps_constant pool flags a) a keeps, fits, last.1))

constant_passed : (pool : List PoolItem) (flags desc : ℕ) (constant : Option ℕ) → IsConstant pool desc constant (contents_of (keeps_constant pool flags) (constant_attributes pool constant)) → FitsConstant constant × (constant_passes pool flags desc constant ≡ true)
constant_passed pool flags desc None h = (tt, refl)
constant_passed pool flags desc (Some value) h =
    let a : Attribute = record { name = lowest_that is_constant_value pool; contents = number2 value } in
    let keeps = and_parts (is_static flags) (is_text_that is_constant_value pool (lowest_that is_constant_value pool)) (was_kept (keeps_constant pool flags a) a (number2 value) h.0) in
    let there = text_there is_constant_value pool (lowest_that is_constant_value pool) keeps.1 in
    (h.1, rw (keeps.0, there, h.2) refl)

field_is : (pool : List PoolItem) (earlier : List FieldItem) (f : FieldItem) → length pool < 2 ^ 16 → FormedField pool f → is_among pool (field_keys earlier) f.name f.desc ≡ false → IsField pool earlier (plain_field pool f) f
field_is pool earlier f few formed new =
    let constant = constant_is pool f.flags f.desc f.constant few formed.fits_constant formed.constant in
    record { member = record { head = formed.head; attributes = constant.0 }; new = new; flags = refl; name = refl; desc = refl; constant = constant.1 }

field_formed : (pool : List PoolItem) (earlier : List FieldItem) (f : FieldItem) → IsField pool earlier (plain_field pool f) f → FormedField pool f
field_formed pool earlier f is =
    let constant = constant_passed pool f.flags f.desc f.constant is.constant in
    record { head = is.member.head; fits_constant = constant.0; constant = constant.1 }

-- ---- methods

code_is : (pool : List PoolItem) (flags : ℕ) (code : Option CodeItem) → length pool < 2 ^ 16 → FormedCodeOf pool flags code → AreAttributes pool (code_attributes pool code) × HasCode pool flags code (contents_of (holds_code pool) (code_attributes pool code))
code_is pool flags None few h = ((tt, omega arith), (h, refl))
code_is pool flags (Some c) few h =
    let formed = h.1 in
    let a : Attribute = record { name = lowest_that is_code pool; contents = code_bytes c [] } in
    let is : IsCode pool c (code_bytes c []) = record { others = []; spelled = refl; code = formed.code; attributes = (tt, omega arith) } in
    (one_attribute pool is_code (code_bytes c []) few formed.name (omega (arith, code-length c, formed.code.sizes.short, formed.code.count)), (h.0, code_bytes c [], kept (holds_code pool a) a (lowest is_code pool formed.name).passes, is))

code_formed : (pool : List PoolItem) (flags : ℕ) (code : Option CodeItem) → HasCode pool flags code (contents_of (holds_code pool) (code_attributes pool code)) → FormedCodeOf pool flags code
code_formed pool flags None h = h.0
code_formed pool flags (Some c) h =
    let is = h.3 in
    let a : Attribute = record { name = lowest_that is_code pool; contents = code_bytes c [] } in
    let there = text_there is_code pool (lowest_that is_code pool) (was_kept (holds_code pool a) a h.1 h.2) in
    (h.0, record { code = is.code; name = there })

method_is : (pool : List PoolItem) (earlier : List MethodItem) (m : MethodItem) → length pool < 2 ^ 16 → FormedMethod pool m → is_among pool (method_keys earlier) m.name m.desc ≡ false → IsMethod pool earlier (plain_method pool m) m
method_is pool earlier m few formed new =
    let code = code_is pool m.flags m.code few formed.code in
    record { member = record { head = formed.head; attributes = code.0 }; new = new; flags = refl; name = refl; desc = refl; code = code.1 }

method_formed : (pool : List PoolItem) (earlier : List MethodItem) (m : MethodItem) → IsMethod pool earlier (plain_method pool m) m → FormedMethod pool m
method_formed pool earlier m is = record { head = is.member.head; code = code_formed pool m.flags m.code is.code }

-- ---- all of them

fields_are : (pool : List PoolItem) (earlier fields : List FieldItem) → length pool < 2 ^ 16 → AllByRecursion (FormedField pool) fields → AreNew pool field_key earlier fields → Spelled (IsField pool) earlier (map (plain_field pool) fields) fields
fields_are pool earlier [] few h new = tt
fields_are pool earlier (f ∷ fields) few h new = (field_is pool earlier f few h.0 new.0, fields_are pool (earlier ++ f ∷ []) fields few h.1 new.1)

fields_formed : (pool : List PoolItem) (earlier fields : List FieldItem) → Spelled (IsField pool) earlier (map (plain_field pool) fields) fields → AllByRecursion (FormedField pool) fields × AreNew pool field_key earlier fields
fields_formed pool earlier [] h = (tt, tt)
fields_formed pool earlier (f ∷ fields) h =
    let rest = fields_formed pool (earlier ++ f ∷ []) fields h.1 in
    ((field_formed pool earlier f h.0, rest.0), (h.0.new, rest.1))

methods_are : (pool : List PoolItem) (earlier methods : List MethodItem) → length pool < 2 ^ 16 → AllByRecursion (FormedMethod pool) methods → AreNew pool method_key earlier methods → Spelled (IsMethod pool) earlier (map (plain_method pool) methods) methods
methods_are pool earlier [] few h new = tt
methods_are pool earlier (m ∷ methods) few h new = (method_is pool earlier m few h.0 new.0, methods_are pool (earlier ++ m ∷ []) methods few h.1 new.1)

methods_formed : (pool : List PoolItem) (earlier methods : List MethodItem) → Spelled (IsMethod pool) earlier (map (plain_method pool) methods) methods → AllByRecursion (FormedMethod pool) methods × AreNew pool method_key earlier methods
methods_formed pool earlier [] h = (tt, tt)
methods_formed pool earlier (m ∷ methods) h =
    let rest = methods_formed pool (earlier ++ m ∷ []) methods h.1 in
    ((method_formed pool earlier m h.0, rest.0), (h.0.new, rest.1))

class_is : (c : ClassFile) → FormedPool c.pool → FormedParts c c.pool → IsClass c
class_is c pool parts = let members = parts.members in record {
  minor = refl;
  major = refl;
  pool = refl;
  flags = refl;
  this_class = refl;
  super_class = refl;
  interfaces = refl;
  fields = fields_are c.pool [] c.fields pool.count (by_recursion (FormedField c.pool) c.fields members.formed_fields) members.new_fields;
  methods = methods_are c.pool [] c.methods pool.count (by_recursion (FormedMethod c.pool) c.methods members.formed_methods) members.new_methods;
  front = record { version = parts.version; pool = pool; links = parts.links; names = parts.names };
  field_count = omega (arith, length-map c.fields (plain_field c.pool), members.field_count);
  method_count = omega (arith, length-map c.methods (plain_method c.pool), members.method_count);
  attributes = (tt, omega arith);
}

members_formed : (c : ClassFile) → IsClass c → FormedMembers c.pool c.fields c.methods
members_formed c is =
    let fields = fields_formed c.pool [] c.fields is.fields in
    let methods = methods_formed c.pool [] c.methods is.methods in
    record {
      field_count = omega (arith, length-map c.fields (plain_field c.pool), is.field_count);
      method_count = omega (arith, length-map c.methods (plain_method c.pool), is.method_count);
      formed_fields = all_of (FormedField c.pool) c.fields fields.0;
      formed_methods = all_of (FormedMethod c.pool) c.methods methods.0;
      new_fields = fields.1;
      new_methods = methods.1;
    }

parts_formed : (c : ClassFile) → IsClass c → FormedParts c c.pool
parts_formed c is = record { links = is.front.links; version = is.front.version; names = is.front.names; members = members_formed c is }

-- the parts, asked one after the other of the pool that the class file has
pub is_class : (c : ClassFile) (pool : List PoolItem) → pool ≡ c.pool → FormedPool pool × FormedParts c pool → IsClass c
is_class c pool same h = class_is c (subst FormedPool same h.0) (subst (FormedParts c) same h.1)

pub is_formed : (c : ClassFile) (pool : List PoolItem) → pool ≡ c.pool → IsClass c → FormedPool pool × FormedParts c pool
is_formed c pool same is = (subst FormedPool (sym same) is.front.pool, subst (FormedParts c) (sym same) (parts_formed c is))

-- a pool begins with a gap
pub begins : (pool : List PoolItem) → IsPool pool → slice_get pool 0 ≡ Some Gap
begins [] is = absurd is
begins (item ∷ items) is = ap Some is.0
