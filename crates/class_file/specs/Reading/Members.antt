-- Fields and methods, read with their attributes (JVMS2 4.5 to 4.7).
use Rattle.std.specs.Prelude.{ℕ, ◌+◌, List, [], ◌∷◌, ◌++◌, length, Option, Some, None, Result, Ok, nat_eq, nat_lt, not, ◌&&◌, ◌||◌, ◌==◌, if◌then◌else◌, slice_get, is_some}
use Rattle.std.specs.Int.{w16, w32}
use Rattle.jvm_base.specs.declared.code_item.CodeItem.{CodeItem}
use Rattle.jvm_base.specs.declared.code_item.TableItem.{TableItem}
use Rattle.jvm_base.specs.declared.pool.PoolItem.{PoolItem}
use Rattle.class_file.specs.declared.error.ClassErr.{ClassErr}
use Rattle.class_file.specs.declared.error.ClassErr.TheVariants.{ItemLink, Flags, AttrLength, CodeLength, CodeCount, Twice}
use Rattle.class_file.specs.declared.attribute.AttributeHead.{AttributeHead}
use Rattle.class_file.specs.declared.code.CodeSizes.{CodeSizes}
use Rattle.class_format.specs.declared.class.FieldItem.{FieldItem}
use Rattle.class_format.specs.declared.class.MethodItem.{MethodItem}
use Rattle.class_format.specs.declared.member_kind.MemberHead.{MemberHead}
use Rattle.class_format.specs.declared.member_kind.MemberKind.{MemberKind}
use Rattle.class_format.specs.declared.member_kind.MemberKind.TheVariants.{Field, Method}
use Rattle.class_format.specs.Flags.{is_static}
use Rattle.constant_pool.specs.Items.{is_text_at, is_text_that, is_class_at}
use Rattle.class_format.specs.KnownTexts.{is_named, is_code, is_constant_value, is_constant_at}
use Rattle.class_format.specs.Members.{is_without_receiver, is_desc_of, flags_clash, is_among, field_keys, method_keys, code_count, is_code_len}
use Rattle.class_file.specs.Reading.Words.{Place, offset_of, after, ◌>>=◌, need, number_at, bytes_at, counted_at, listed_at}

-- ---- attributes

-- an attribute up to its length
unfoldable pub attribute_at : List PoolItem → Place → Result (AttributeHead × Place) ClassErr
attribute_at pool p = do
  name ← number_at w16 p
  _ ← need (is_text_at pool name.0) (ItemLink (offset_of p))
  len ← number_at w32 name.1
  Ok (record { name = name.0; len = len.0; at = offset_of name.1 }, len.1)

-- contents that are skipped
unfoldable pub skipped_at : {S : Type 0} → S → AttributeHead → Place → Result (S × Place) ClassErr
skipped_at s a p = do
  contents ← bytes_at a.len p
  Ok (s, contents.1)

-- an attribute that is skipped whatever its name
unfoldable pub other_at : List PoolItem → Unit {0} → Place → Result (Unit {0} × Place) ClassErr
other_at pool s p = do
  a ← attribute_at pool p
  skipped_at s a.0 a.1

-- ---- what fields and methods begin with

-- flags, name and descriptor of a field or method
unfoldable pub head_numbers_at : Place → Result (MemberHead × Place) ClassErr
head_numbers_at p = do
  flags ← number_at w16 p
  name ← number_at w16 flags.1
  desc ← number_at w16 name.1
  Ok (record { flags = flags.0; name = name.0; desc = desc.0 }, desc.1)

-- all three are read before the first is asked
unfoldable pub head_at : MemberKind → List PoolItem → Place → Result (MemberHead × Place) ClassErr
head_at kind pool p = do
  h ← head_numbers_at p
  _ ← need (is_text_that is_named pool h.0.name) (ItemLink (offset_of (after 2 p)))
  _ ← need (is_desc_of kind (is_without_receiver pool h.0.flags h.0.name) pool h.0.desc)
      (ItemLink (offset_of (after 4 p)))
  _ ← need (not (flags_clash kind (is_without_receiver pool h.0.flags h.0.name) h.0.flags))
      (Flags (offset_of p))
  Ok h

-- the earlier ones are of the same kind
unfoldable pub new_head_at : MemberKind → List PoolItem → List (ℕ × ℕ) → Place
    → Result (MemberHead × Place) ClassErr
new_head_at kind pool earlier p = do
  head ← head_at kind pool p
  _ ← need (not (is_among pool earlier head.0.name head.0.desc)) (Twice (offset_of p))
  Ok head

-- ---- fields

-- the contents of a ConstantValue (JVMS2 4.7.2)
unfoldable pub constant_at : List PoolItem → ℕ → Option ℕ → AttributeHead → Place
    → Result (Option ℕ × Place) ClassErr
constant_at pool desc kept a p = do
  _ ← need (not (is_some kept)) (AttrLength a.at)
  value ← number_at w16 p
  _ ← need (is_constant_at pool desc value.0) (ItemLink (offset_of p))
  _ ← need (nat_eq a.len 2) (AttrLength a.at)
  Ok (Some value.0, value.1)

-- only a static field keeps its constant
unfoldable pub field_attribute_at : List PoolItem → MemberHead → Option ℕ → Place
    → Result (Option ℕ × Place) ClassErr
field_attribute_at pool head kept p = do
  a ← attribute_at pool p
  if is_static head.flags && is_text_that is_constant_value pool a.0.name
      then constant_at pool head.desc kept a.0 a.1
      else skipped_at kept a.0 a.1

-- a field, behind the earlier ones
unfoldable pub field_at : List PoolItem → List FieldItem → Place
    → Result (FieldItem × Place) ClassErr
field_at pool earlier p = do
  head ← new_head_at Field pool (field_keys earlier) p
  constant ← counted_at (field_attribute_at pool head.0) None head.1
  Ok (record { flags = head.0.flags; name = head.0.name; desc = head.0.desc; constant = constant.0 }, constant.1)

-- ---- methods

-- an entry of the exception table
unfoldable pub entry_numbers_at : Place → Result (TableItem × Place) ClassErr
entry_numbers_at p = do
  start ← number_at w16 p
  end ← number_at w16 start.1
  handler ← number_at w16 end.1
  class ← number_at w16 handler.1
  Ok (record { start = start.0; end = end.0; handler = handler.0; class = class.0 }, class.1)

-- its class 0 stands for any (JVMS2 4.7.3)
unfoldable pub table_item_at : List PoolItem → List TableItem → Place
    → Result (TableItem × Place) ClassErr
table_item_at pool earlier p = do
  t ← entry_numbers_at p
  _ ← need (nat_eq t.0.class 0 || is_class_at pool t.0.class) (ItemLink (offset_of (after 6 p)))
  Ok t

-- the numbers that a Code begins with
unfoldable pub sizes_at : Place → Result (CodeSizes × Place) ClassErr
sizes_at p = do
  max_stack ← number_at w16 p
  max_locals ← number_at w16 max_stack.1
  len ← number_at w32 max_locals.1
  Ok (record { max_stack = max_stack.0; max_locals = max_locals.0; len = len.0 }, len.1)

-- the contents of the Code of method m (JVMS2 4.7.3)
unfoldable pub code_contents_at : List PoolItem → ℕ → Place → Result (CodeItem × Place) ClassErr
code_contents_at pool m p = do
  sizes ← sizes_at p
  _ ← need (is_code_len sizes.0.len) (CodeLength m)
  code ← bytes_at sizes.0.len sizes.1
  table ← listed_at (table_item_at pool) code.1
  others ← counted_at (other_at pool) tt table.1
  Ok (record { max_stack = sizes.0.max_stack; max_locals = sizes.0.max_locals; code = code.0; table = table.0 }, others.1)

-- contents that take as many bytes as their length says
unfoldable pub code_at : List PoolItem → ℕ → AttributeHead → Place
    → Result (CodeItem × Place) ClassErr
code_at pool m a p = do
  code ← code_contents_at pool m p
  _ ← need (nat_eq (length p.rest) (a.len + length code.1.rest)) (AttrLength a.at)
  Ok code

-- one more Code attribute of method m
unfoldable pub another_code_at : List PoolItem → ℕ → List CodeItem → AttributeHead → Place
    → Result (List CodeItem × Place) ClassErr
another_code_at pool m codes a p = do
  code ← code_at pool m a p
  Ok (codes ++ code.0 ∷ [], code.1)

-- an attribute of method m: each Code is kept, every other one is skipped
unfoldable pub method_attribute_at : List PoolItem → ℕ → List CodeItem → Place
    → Result (List CodeItem × Place) ClassErr
method_attribute_at pool m codes p = do
  a ← attribute_at pool p
  if is_text_that is_code pool a.0.name
      then another_code_at pool m codes a.0 a.1
      else skipped_at codes a.0 a.1

-- a method, behind the earlier ones; its number is how many they are
unfoldable pub method_at : List PoolItem → List MethodItem → Place
    → Result (MethodItem × Place) ClassErr
method_at pool earlier p = do
  head ← new_head_at Method pool (method_keys earlier) p
  codes ← counted_at (method_attribute_at pool (length earlier)) [] head.1
  _ ← need (length codes.0 == code_count head.0.flags) (CodeCount (length earlier))
  Ok (record { flags = head.0.flags; name = head.0.name; desc = head.0.desc; code = slice_get codes.0 0 }, codes.1)
