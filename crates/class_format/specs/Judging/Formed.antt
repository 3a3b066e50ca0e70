-- What is asked of a class file one part after the other, so that some bytes spell it.
use Rattle.std.specs.Prelude.{◌≡◌, ◌↔◌, [], ◌∷◌, ◌++◌, ◌<◌, ◌^◌, ℕ, List, length, map, Bool, true, false, not, ◌&&◌, ◌||◌, nat_eq, Option, Some, None, All}
use Rattle.std.specs.List.{list_any}
use Rattle.jvm_base.specs.declared.code_item.CodeItem.{CodeItem}
use Rattle.jvm_base.specs.declared.pool.PoolItem.{PoolItem}
use Rattle.class_format.specs.declared.class.ClassFile.{ClassFile}
use Rattle.class_format.specs.declared.class.FieldItem.{FieldItem}
use Rattle.class_format.specs.declared.class.MethodItem.{MethodItem}
use Rattle.class_format.specs.declared.member_kind.MemberKind.{MemberKind}
use Rattle.class_format.specs.declared.member_kind.MemberKind.TheVariants as kinds
use Rattle.class_format.specs.Versions.{is_other_version}
use Rattle.class_format.specs.Flags.{is_static, class_flags_clash}
use Rattle.constant_pool.specs.Items.{is_text_that, is_class_at, is_item_that}
use Rattle.constant_pool.specs.Links.{bad_link}
use Rattle.class_format.specs.KnownTexts.{is_named, is_code, is_constant_value, is_constant_at}
use Rattle.class_format.specs.Members.{is_without_receiver, is_desc_of, flags_clash, is_among, code_count, field_key, method_key}
use Rattle.class_format.specs.Meaning.{AreItems, FitsCode, IsHead, IsKnown, AreNames}

-- there is a text that passes
abbrev pub has_text_that : (List ℕ → Bool) → List PoolItem → Bool
has_text_that test pool = list_any (is_item_that test) pool

-- an item behind one that was wide or not (`after_wide`), and whether it is wide itself
abbrev pub Follows : PoolItem → Bool → Option Bool → Type 0
Follows item after_wide None = (items : List PoolItem) → ¬ AreItems after_wide (item ∷ items)
Follows item after_wide (Some wide) =
    (items : List PoolItem) → AreItems after_wide (item ∷ items) ↔ AreItems wide items

-- ---- fields and methods by themselves

-- static fields alone have constants, whose attribute needs its name in the pool
abbrev pub constant_passes : List PoolItem → ℕ → ℕ → Option ℕ → Bool
constant_passes pool flags desc None = true
constant_passes pool flags desc (Some value) =
    is_static flags && has_text_that is_constant_value pool && is_constant_at pool desc value

-- the index of a constant, if any, takes two bytes
abbrev pub FitsConstant : Option ℕ → Type 0
FitsConstant None = Unit {0}
FitsConstant (Some value) = value < 2 ^ 16

-- a field by itself
pub record FormedField (pool : List PoolItem) (f : FieldItem) : Type 0 where
  pub head : IsHead kinds.Field pool (record { flags = f.flags; name = f.name; desc = f.desc })
  pub fits_constant : FitsConstant f.constant
  pub constant : constant_passes pool f.flags f.desc f.constant ≡ true

-- a code, which needs the name of its attribute in the pool
pub record FormedCode (pool : List PoolItem) (c : CodeItem) : Type 0 where
  pub code : FitsCode pool c
  pub name : has_text_that is_code pool ≡ true

-- the code that these flags ask for, or none
abbrev pub FormedCodeOf : List PoolItem → ℕ → Option CodeItem → Type 0
FormedCodeOf pool flags None = code_count flags ≡ 0
FormedCodeOf pool flags (Some c) = (code_count flags ≡ 1) × FormedCode pool c

-- a method by itself
pub record FormedMethod (pool : List PoolItem) (m : MethodItem) : Type 0 where
  pub head : IsHead kinds.Method pool (record { flags = m.flags; name = m.name; desc = m.desc })
  pub code : FormedCodeOf pool m.flags m.code

-- ---- no two alike

-- none is like an earlier one
abbrev pub AreNew : {X : Type 0} → List PoolItem → (X → ℕ × ℕ) → (earlier : List X) → List X
    → Type 0
AreNew pool key earlier [] = Unit {0}
AreNew pool key earlier (x ∷ xs) =
    (is_among pool (map key earlier) (key x).0 (key x).1 ≡ false)
    × AreNew pool key (earlier ++ x ∷ []) xs

-- ---- the parts of a class file

-- fields and methods, each by itself, and no two alike
pub record FormedMembers (pool : List PoolItem) (fields : List FieldItem)
    (methods : List MethodItem) : Type 0 where
  pub field_count : length fields < 2 ^ 16
  pub method_count : length methods < 2 ^ 16
  pub formed_fields : All (FormedField pool) fields
  pub formed_methods : All (FormedMethod pool) methods
  pub new_fields : AreNew pool field_key [] fields
  pub new_methods : AreNew pool method_key [] methods

-- what is asked beside the pool
pub record FormedParts (c : ClassFile) (pool : List PoolItem) : Type 0 where
  pub links : bad_link pool ≡ None
  pub version : IsKnown c.minor c.major
  pub names : AreNames pool c.flags c.this_class c.super_class c.interfaces
  pub members : FormedMembers pool c.fields c.methods
