-- Which structures are class files, and the value that each of them spells.
use Rattle.std.specs.Prelude.{◌≡◌, ◌<◌, ◌^◌, ℕ, List, [], ◌∷◌, ◌++◌, length, map, Bool, true, false, ◌&&◌, ◌||◌, nat_eq, Option, Some, None, FitsSigned}
use Rattle.std.specs.Int.{w32, w64}
use Rattle.std.specs.List.{AllByRecursion, filter, position_or_len}
use Rattle.std.proofs.Common.{get_or}
use Rattle.jvm_base.specs.declared.code_item.CodeItem.{CodeItem}
use Rattle.jvm_base.specs.declared.code_item.TableItem.{TableItem}
use Rattle.jvm_base.specs.declared.pool.PoolItem.{PoolItem}
use Rattle.jvm_base.specs.declared.pool.PoolItem.TheVariants.{Gap, Utf8, Integer, Float, Long, Double, Class, Text, Field, Method, InterfaceMethod, NameAndKind}
use Rattle.jvm_base.specs.Text.{text_bytes}
use Rattle.jvm_base.specs.Units.{AreUnits}
use Rattle.class_format.specs.declared.class.ClassFile.{ClassFile}
use Rattle.class_format.specs.declared.class.FieldItem.{FieldItem}
use Rattle.class_format.specs.declared.class.MethodItem.{MethodItem}
use Rattle.class_format.specs.declared.member_kind.MemberHead.{MemberHead}
use Rattle.class_format.specs.declared.member_kind.MemberKind.{MemberKind}
use Rattle.class_format.specs.declared.member_kind.MemberKind.TheVariants as kinds
use Rattle.class_format.specs.Versions.{is_other_version}
use Rattle.class_format.specs.Flags.{is_static, class_flags_clash}
use Rattle.constant_pool.specs.Items.{is_text_at, is_text_that, is_class_at, is_item_that, is_wide}
use Rattle.constant_pool.specs.Links.{bad_link}
use Rattle.class_format.specs.KnownTexts.{is_named, is_code, is_constant_value, is_constant_at}
use Rattle.class_format.specs.Members.{is_without_receiver, is_desc_of, flags_clash, is_among, field_keys, method_keys, code_count}
use Rattle.class_format.specs.Spelling.{Attribute, Member, Source, head_of, number2, code_bytes, source_bytes}

-- ---- the pool

-- the numbers in an item have its widths; a gap is no item by itself
abbrev pub FitsItem : PoolItem → Type 0
FitsItem Gap = ⊥
FitsItem (Utf8 us) = AreUnits us × (length (text_bytes us) < 2 ^ 16)
FitsItem (Integer n) = FitsSigned w32 n
FitsItem (Float bits) = bits < 2 ^ 32
FitsItem (Long n) = FitsSigned w64 n
FitsItem (Double bits) = bits < 2 ^ 64
FitsItem (Class name) = name < 2 ^ 16
FitsItem (Text text) = text < 2 ^ 16
FitsItem (Field class pair) = (class < 2 ^ 16) × (pair < 2 ^ 16)
FitsItem (Method class pair) = (class < 2 ^ 16) × (pair < 2 ^ 16)
FitsItem (InterfaceMethod class pair) = (class < 2 ^ 16) × (pair < 2 ^ 16)
FitsItem (NameAndKind name desc) = (name < 2 ^ 16) × (desc < 2 ^ 16)

-- gaps stand behind a Long or a Double, and nowhere else
abbrev pub AreItems : Bool → List PoolItem → Type 0
AreItems after_wide [] = after_wide ≡ false
AreItems true (item ∷ items) = (item ≡ Gap) × AreItems false items
AreItems false (item ∷ items) = FitsItem item × AreItems (is_wide item) items

-- index 0 is a gap
abbrev pub IsPool : List PoolItem → Type 0
IsPool [] = ⊥
IsPool (item ∷ items) = (item ≡ Gap) × AreItems false items

-- its items fit, and so does their count
pub record FormedPool (pool : List PoolItem) : Type 0 where
  pub items : IsPool pool
  pub count : length pool < 2 ^ 16

-- ---- attributes

-- its name is a text of the pool, its length fits four bytes
pub record FitsAttribute (pool : List PoolItem) (a : Attribute) : Type 0 where
  pub name : a.name < 2 ^ 16
  pub text : is_text_at pool a.name ≡ true
  pub contents : length a.contents < 2 ^ 32

-- attributes of one class, member or code
abbrev pub AreAttributes : List PoolItem → List Attribute → Type 0
AreAttributes pool attributes =
    AllByRecursion (FitsAttribute pool) attributes × (length attributes < 2 ^ 16)

-- the contents of the attributes that pass
abbrev pub contents_of : (Attribute → Bool) → List Attribute → List (List ℕ)
contents_of test attributes = map (λ a. a.contents) (filter test attributes)

-- only a static field keeps its constant
abbrev pub keeps_constant : List PoolItem → ℕ → Attribute → Bool
keeps_constant pool flags a = is_static flags && is_text_that is_constant_value pool a.name

-- the attribute is a Code
abbrev pub holds_code : List PoolItem → Attribute → Bool
holds_code pool a = is_text_that is_code pool a.name

-- at most one constant, and one of the field's descriptor
abbrev pub IsConstant : List PoolItem → ℕ → Option ℕ → List (List ℕ) → Type 0
IsConstant pool desc None contents = contents ≡ []
IsConstant pool desc (Some value) contents =
    (contents ≡ number2 value ∷ []) × (value < 2 ^ 16) × (is_constant_at pool desc value ≡ true)

-- each number is one of a byte
abbrev pub AreBytes : List ℕ → Type 0
AreBytes bytes = (i : ℕ) → get_or bytes i 0 < 256

-- the numbers of an entry of an exception table
pub record FitsNumbers (t : TableItem) : Type 0 where
  pub start : t.start < 2 ^ 16
  pub end : t.end < 2 ^ 16
  pub handler : t.handler < 2 ^ 16
  pub class : t.class < 2 ^ 16

-- an entry of an exception table; the class 0 stands for any
pub record FitsEntry (pool : List PoolItem) (t : TableItem) : Type 0 where
  pub fits : FitsNumbers t
  pub link : (nat_eq t.class 0 || is_class_at pool t.class) ≡ true

-- the numbers that a code begins with: its last one is how many bytes the code itself takes
pub record FitsSizes (max_stack max_locals len : ℕ) : Type 0 where
  pub fits_stack : max_stack < 2 ^ 16
  pub fits_locals : max_locals < 2 ^ 16
  pub some : 0 < len
  pub short : len < 65536

-- a code whatever its attributes
pub record FitsCode (pool : List PoolItem) (c : CodeItem) : Type 0 where
  pub sizes : FitsSizes c.max_stack c.max_locals (length c.code)
  pub bytes : AreBytes c.code
  pub entries : AllByRecursion (FitsEntry pool) c.table
  pub count : length c.table < 2 ^ 16

-- contents of a Code attribute, of which the attributes that it has itself are skipped
pub record IsCode (pool : List PoolItem) (c : CodeItem) (contents : List ℕ) : Type 0 where
  pub others : List Attribute
  pub spelled : contents ≡ code_bytes c others
  pub code : FitsCode pool c
  pub attributes : AreAttributes pool others

-- a native or abstract method has no code, and every other method has one
abbrev pub HasCode : List PoolItem → ℕ → Option CodeItem → List (List ℕ) → Type 0
HasCode pool flags None contents = (code_count flags ≡ 0) × (contents ≡ [])
HasCode pool flags (Some c) contents =
    (code_count flags ≡ 1) × (one : List ℕ) × (contents ≡ one ∷ []) × IsCode pool c one

-- ---- fields and methods

-- three numbers of two bytes
pub record FitsHead (h : MemberHead) : Type 0 where
  pub flags : h.flags < 2 ^ 16
  pub name : h.name < 2 ^ 16
  pub desc : h.desc < 2 ^ 16

-- what a field or method begins with: a name, a descriptor and flags that go together
pub record IsHead (kind : MemberKind) (pool : List PoolItem) (h : MemberHead) : Type 0 where
  pub fits : FitsHead h
  pub named : is_text_that is_named pool h.name ≡ true
  pub typed : is_desc_of kind (is_without_receiver pool h.flags h.name) pool h.desc ≡ true
  pub plain : flags_clash kind (is_without_receiver pool h.flags h.name) h.flags ≡ false

-- what is asked of a field or method, whatever its attributes mean
pub record IsMember (kind : MemberKind) (pool : List PoolItem) (m : Member) : Type 0 where
  pub head : IsHead kind pool (head_of m)
  pub attributes : AreAttributes pool m.attributes

-- the field that is spelled so behind the earlier ones
pub record IsField (pool : List PoolItem) (earlier : List FieldItem) (m : Member)
    (f : FieldItem) : Type 0 where
  pub member : IsMember kinds.Field pool m
  pub new : is_among pool (field_keys earlier) m.name m.desc ≡ false
  pub flags : f.flags ≡ m.flags
  pub name : f.name ≡ m.name
  pub desc : f.desc ≡ m.desc
  pub constant : IsConstant pool m.desc f.constant
      (contents_of (keeps_constant pool m.flags) m.attributes)

-- the method that is spelled so behind the earlier ones
pub record IsMethod (pool : List PoolItem) (earlier : List MethodItem) (m : Member)
    (x : MethodItem) : Type 0 where
  pub member : IsMember kinds.Method pool m
  pub new : is_among pool (method_keys earlier) m.name m.desc ≡ false
  pub flags : x.flags ≡ m.flags
  pub name : x.name ≡ m.name
  pub desc : x.desc ≡ m.desc
  pub code : HasCode pool m.flags x.code (contents_of (holds_code pool) m.attributes)

-- each of the items is what its source spells behind the earlier ones
abbrev pub Spelled : {A X : Type 0} → (List X → A → X → Type 0) → List X → List A → List X → Type 0
Spelled Is earlier [] [] = Unit {0}
Spelled Is earlier [] (x ∷ xs) = ⊥
Spelled Is earlier (a ∷ sources) [] = ⊥
Spelled Is earlier (a ∷ sources) (x ∷ xs) =
    Is earlier a x × Spelled Is (earlier ++ x ∷ []) sources xs

-- ---- class files

-- the index of a class item
abbrev pub FitsLink : List PoolItem → ℕ → Type 0
FitsLink pool n = (n < 2 ^ 16) × (is_class_at pool n ≡ true)

-- the index of a superclass, or 0
pub record FitsSuper (pool : List PoolItem) (n : ℕ) : Type 0 where
  pub fits : n < 2 ^ 16
  pub link : (nat_eq n 0 || is_class_at pool n) ≡ true

-- flags of a class
pub record FitsFlags (flags : ℕ) : Type 0 where
  pub fits : flags < 2 ^ 16
  pub plain : class_flags_clash flags ≡ false

-- a version that is read
pub record IsKnown (minor major : ℕ) : Type 0 where
  pub fits_minor : minor < 2 ^ 16
  pub fits_major : major < 2 ^ 16
  pub version : is_other_version major minor ≡ false

-- flags of a class, and the classes that it names
pub record AreNames (pool : List PoolItem) (flags this_class super_class : ℕ)
    (interfaces : List ℕ) : Type 0 where
  pub fits_flags : FitsFlags flags
  pub this_link : FitsLink pool this_class
  pub super_link : FitsSuper pool super_class
  pub interface_links : AllByRecursion (FitsLink pool) interfaces
  pub interface_count : length interfaces < 2 ^ 16

-- what is asked of a class file up to its fields
pub record IsFront (s : Source) : Type 0 where
  pub version : IsKnown s.minor s.major
  pub pool : FormedPool s.pool
  pub links : bad_link s.pool ≡ None
  pub names : AreNames s.pool s.flags s.this_class s.super_class s.interfaces

-- the class file that is spelled so
pub record Means (s : Source) (c : ClassFile) : Type 0 where
  pub front : IsFront s
  pub minor : c.minor ≡ s.minor
  pub major : c.major ≡ s.major
  pub pool : c.pool ≡ s.pool
  pub flags : c.flags ≡ s.flags
  pub this_class : c.this_class ≡ s.this_class
  pub super_class : c.super_class ≡ s.super_class
  pub interfaces : c.interfaces ≡ s.interfaces
  pub fields : Spelled (IsField s.pool) [] s.fields c.fields
  pub methods : Spelled (IsMethod s.pool) [] s.methods c.methods
  pub field_count : length s.fields < 2 ^ 16
  pub method_count : length s.methods < 2 ^ 16
  pub attributes : AreAttributes s.pool s.attributes

-- the bytes spell the class file
pub record Spells (c : ClassFile) (bytes : List ℕ) : Type 0 where
  pub source : Source
  pub spelled : bytes ≡ source_bytes source
  pub means : Means source c

-- ---- the spelling without what is skipped

-- the lowest index of a text that passes
abbrev pub lowest_that : (List ℕ → Bool) → List PoolItem → ℕ
lowest_that test pool = position_or_len (is_item_that test) pool

-- a ConstantValue, where there is a constant
abbrev pub constant_attributes : List PoolItem → Option ℕ → List Attribute
constant_attributes pool None = []
constant_attributes pool (Some value) =
    record { name = lowest_that is_constant_value pool; contents = number2 value } ∷ []

-- a Code, where there is one
abbrev pub code_attributes : List PoolItem → Option CodeItem → List Attribute
code_attributes pool None = []
code_attributes pool (Some c) =
    record { name = lowest_that is_code pool; contents = code_bytes c [] } ∷ []

-- a field with no attribute but its constant
abbrev pub plain_field : List PoolItem → FieldItem → Member
plain_field pool f =
    record { flags = f.flags; name = f.name; desc = f.desc; attributes = constant_attributes pool f.constant }

-- a method with no attribute but its code
abbrev pub plain_method : List PoolItem → MethodItem → Member
plain_method pool m =
    record { flags = m.flags; name = m.name; desc = m.desc; attributes = code_attributes pool m.code }

-- a class file with no attribute that is skipped
abbrev pub plain : ClassFile → Source
plain c = record {
  minor = c.minor;
  major = c.major;
  pool = c.pool;
  flags = c.flags;
  this_class = c.this_class;
  super_class = c.super_class;
  interfaces = c.interfaces;
  fields = map (plain_field c.pool) c.fields;
  methods = map (plain_method c.pool) c.methods;
  attributes = [];
}

-- what is written of a class file
abbrev pub spelling : ClassFile → List ℕ
spelling c = source_bytes (plain c)

-- which values some bytes spell
abbrev pub IsClass : ClassFile → Type 0
IsClass c = Means (plain c) c
