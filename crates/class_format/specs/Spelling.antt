-- The bytes of a class file (JVMS2 4.1 to 4.7), each attribute with its contents as they stand.
use Rattle.std.specs.Prelude.{ℕ, List, [], ◌∷◌, ◌++◌, length}
use Rattle.std.specs.Int.{w16, w32, w64, to_be_bytes, cast_unsigned}
use Rattle.std.specs.List.{flat_map}
use Rattle.jvm_base.specs.declared.code_item.CodeItem.{CodeItem}
use Rattle.jvm_base.specs.declared.code_item.TableItem.{TableItem}
use Rattle.jvm_base.specs.declared.pool.PoolItem.{PoolItem}
use Rattle.jvm_base.specs.declared.pool.PoolItem.TheVariants.{Gap, Utf8, Integer, Float, Long, Double, Class, Text, Field, Method, InterfaceMethod, NameAndKind}
use Rattle.jvm_base.specs.Text.{text_bytes}
use Rattle.class_format.specs.declared.member_kind.MemberHead.{MemberHead}

-- ---- the structure of a file

-- the index of its name, and its contents
pub record Attribute : Type 0 where
  pub name : ℕ
  pub contents : List ℕ

-- a field or a method
pub record Member : Type 0 where
  pub flags : ℕ
  pub name : ℕ
  pub desc : ℕ
  pub attributes : List Attribute

-- what it begins with
abbrev pub head_of : Member → MemberHead
head_of m = record { flags = m.flags; name = m.name; desc = m.desc }

-- a class file, its attributes unread
pub record Source : Type 0 where
  pub minor : ℕ
  pub major : ℕ
  pub pool : List PoolItem
  pub flags : ℕ
  pub this_class : ℕ
  pub super_class : ℕ
  pub interfaces : List ℕ
  pub fields : List Member
  pub methods : List Member
  pub attributes : List Attribute

-- ---- its bytes

-- CA FE BA BE
abbrev pub magic_number : ℕ
magic_number = 3405691582

-- two bytes, the most significant first; so the other numbers
abbrev pub number2 : ℕ → List ℕ
number2 n = to_be_bytes w16 n

-- four bytes
abbrev pub number4 : ℕ → List ℕ
number4 n = to_be_bytes w32 n

-- eight bytes
abbrev pub number8 : ℕ → List ℕ
number8 n = to_be_bytes w64 n

-- a count of two bytes, and so many parts
abbrev pub listed : {X : Type 0} → (X → List ℕ) → List X → List ℕ
listed bytes xs = number2 (length xs) ++ flat_map bytes xs

-- the tag of an item, and what it holds (JVMS2 4.4)
abbrev pub item_bytes : PoolItem → List ℕ
item_bytes Gap = []
item_bytes (Utf8 us) = 1 ∷ number2 (length (text_bytes us)) ++ text_bytes us
item_bytes (Integer n) = 3 ∷ number4 (cast_unsigned w32 n)
item_bytes (Float bits) = 4 ∷ number4 bits
item_bytes (Long n) = 5 ∷ number8 (cast_unsigned w64 n)
item_bytes (Double bits) = 6 ∷ number8 bits
item_bytes (Class name) = 7 ∷ number2 name
item_bytes (Text text) = 8 ∷ number2 text
item_bytes (Field class pair) = 9 ∷ number2 class ++ number2 pair
item_bytes (Method class pair) = 10 ∷ number2 class ++ number2 pair
item_bytes (InterfaceMethod class pair) = 11 ∷ number2 class ++ number2 pair
item_bytes (NameAndKind name desc) = 12 ∷ number2 name ++ number2 desc

-- index 0 counts, and has no bytes
abbrev pub pool_bytes : List PoolItem → List ℕ
pool_bytes pool = listed item_bytes pool

-- name, length, contents (JVMS2 4.7)
abbrev pub attribute_bytes : Attribute → List ℕ
attribute_bytes a = number2 a.name ++ number4 (length a.contents) ++ a.contents

-- a field or method (JVMS2 4.5, 4.6)
abbrev pub member_bytes : Member → List ℕ
member_bytes m =
    number2 m.flags ++ number2 m.name ++ number2 m.desc ++ listed attribute_bytes m.attributes

-- an entry of an exception table
abbrev pub table_bytes : TableItem → List ℕ
table_bytes t = number2 t.start ++ number2 t.end ++ number2 t.handler ++ number2 t.class

-- the contents of a Code attribute, with the attributes that it has itself
abbrev pub code_bytes : CodeItem → List Attribute → List ℕ
code_bytes c others =
    number2 c.max_stack ++ number2 c.max_locals ++ number4 (length c.code) ++ c.code
    ++ listed table_bytes c.table ++ listed attribute_bytes others

-- a class file (JVMS2 4.1)
abbrev pub source_bytes : Source → List ℕ
source_bytes s =
    number4 magic_number ++ number2 s.minor ++ number2 s.major ++ pool_bytes s.pool
    ++ number2 s.flags ++ number2 s.this_class ++ number2 s.super_class
    ++ listed number2 s.interfaces
    ++ listed member_bytes s.fields ++ listed member_bytes s.methods
    ++ listed attribute_bytes s.attributes
