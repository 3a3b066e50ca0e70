-- What is asked of fields and methods (JVMS2 4.5, 4.6, 4.10).
use Rattle.std.specs.Prelude.{ℕ, List, map, Bool, nat_lt, ◌&&◌, ◌||◌, if◌then◌else◌}
use Rattle.std.specs.List.{list_any}
use Rattle.jvm_base.specs.declared.pool.PoolItem.{PoolItem}
use Rattle.jvm_base.specs.Descriptors.{is_method_of}
use Rattle.class_format.specs.declared.class.FieldItem.{FieldItem}
use Rattle.class_format.specs.declared.class.MethodItem.{MethodItem}
use Rattle.class_format.specs.declared.member_kind.MemberKind.{MemberKind}
use Rattle.class_format.specs.declared.member_kind.MemberKind.TheVariants.{Field, Method}
use Rattle.class_format.specs.Flags.{is_static, is_native, is_abstract, field_flags_clash, method_flags_clash}
use Rattle.constant_pool.specs.Items.{text_at, is_text_that, is_same_text}
use Rattle.class_format.specs.KnownTexts.{is_clinit}
use Rattle.constant_pool.specs.Links.{is_field_text}

-- no receiver comes with a call of a static method, and of `<clinit>` whatever its flags
abbrev pub is_without_receiver : List PoolItem → ℕ → ℕ → Bool
is_without_receiver pool flags name = is_static flags || is_text_that is_clinit pool name

-- the arguments of a method, and its receiver, take at most 255 slots (JVMS2 4.10)
abbrev pub is_desc_of : MemberKind → Bool → List PoolItem → ℕ → Bool
is_desc_of Field without_receiver pool desc = is_text_that is_field_text pool desc
is_desc_of Method without_receiver pool desc =
    if without_receiver then is_text_that (λ us. is_method_of us 255) pool desc
    else is_text_that (λ us. is_method_of us 254) pool desc

-- by the rules of fields, or of methods
abbrev pub flags_clash : MemberKind → Bool → ℕ → Bool
flags_clash Field without_receiver flags = field_flags_clash flags
flags_clash Method without_receiver flags = method_flags_clash without_receiver flags

-- one of these names and descriptors has the texts of that name and descriptor
abbrev pub is_among : List PoolItem → List (ℕ × ℕ) → ℕ → ℕ → Bool
is_among pool keys name desc =
    list_any (λ k. is_same_text (text_at pool k.0) (text_at pool name)
    && is_same_text (text_at pool k.1) (text_at pool desc)) keys

-- the indices of a field's name and descriptor
abbrev pub field_key : FieldItem → ℕ × ℕ
field_key f = (f.name, f.desc)

-- the same of a method
abbrev pub method_key : MethodItem → ℕ × ℕ
method_key m = (m.name, m.desc)

-- of fields
abbrev pub field_keys : List FieldItem → List (ℕ × ℕ)
field_keys fields = map field_key fields

-- of methods
abbrev pub method_keys : List MethodItem → List (ℕ × ℕ)
method_keys methods = map method_key methods

-- code has 1 to 65,535 bytes (JVMS2 4.8.1)
abbrev pub is_code_len : ℕ → Bool
is_code_len n = nat_lt 0 n && nat_lt n 65536

-- how many Code attributes a method has
abbrev pub code_count : ℕ → ℕ
code_count flags = if is_native flags || is_abstract flags then 0 else 1
