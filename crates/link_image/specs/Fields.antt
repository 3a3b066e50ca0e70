-- The fields of a class, and the places of their values.
use Rattle.std.specs.Prelude.{ℕ, ◌+◌, Bool, not, List, take, option_and_then, if◌then◌else◌}
use Rattle.std.specs.List.{count_by, sum_by}
use Rattle.jvm_base.specs.Words.{from}
use Rattle.jvm_base.specs.Descriptors.{desc_of}
use Rattle.jvm_base.specs.declared.desc.Desc.{Desc}
use Rattle.jvm_base.specs.declared.desc.Elem.TheVariants as elem
use Rattle.class_format.specs.declared.class.ClassFile.{ClassFile}
use Rattle.class_format.specs.declared.class.FieldItem.{FieldItem}
use Rattle.class_format.specs.Flags.{is_static}
use Rattle.class_names.specs.Texts.{text_in}
use Rattle.link_rules.specs.Numbers.{map_from, fields_at, supers_of}
use Rattle.program_image.specs.declared.info.FieldInfo.{FieldInfo}
use Rattle.link_image.specs.Constants.{constant_value}

-- each object has a value of an instance field, and the class one of a static field
abbrev pub is_fixed : FieldItem → Bool
is_fixed x = is_static x.flags

abbrev pub is_instance : FieldItem → Bool
is_instance x = not (is_static x.flags)

-- how many instance fields the class of a number declares
abbrev pub instances_at : List ClassFile → ℕ → ℕ
instances_at all k = count_by is_instance (fields_at all k)

-- the first place for them: behind those of the superclasses
unfoldable pub base_of : List ClassFile → ℕ → ℕ
base_of all c = sum_by (instances_at all) (supers_of all c)

-- the place of the field of a number among a class's fields: behind the fields of its kind before it,
-- instance fields from a base on
abbrev pub place_in : ℕ → List FieldItem → ℕ → FieldItem → ℕ
place_in base fields i x =
    if is_static x.flags then count_by is_fixed (take i fields)
    else base + count_by is_instance (take i fields)

-- where a text is no descriptor, which doesn't happen in a class file
abbrev pub no_desc : Desc
no_desc = record { dims = 0; elem = elem.Int }

-- the field at a place of the class of a number: `classes` counts the program's classes
abbrev pub field_info : ℕ → List (List ℕ) → ClassFile → ℕ → ℕ → FieldItem → FieldInfo
field_info classes literals f owner place x = record {
  owner = owner;
  name = text_in f.pool x.name;
  desc = from no_desc (λ d. d) (desc_of (text_in f.pool x.desc));
  flags = x.flags;
  place = place;
  constant = option_and_then (constant_value classes literals f.pool) x.constant;
}

-- the fields of a class whose number is `owner`, in order of declaration, from a base on
abbrev pub field_infos : ℕ → List (List ℕ) → ClassFile → ℕ → ℕ → List FieldInfo
field_infos classes literals f owner base =
    map_from (λ i x. field_info classes literals f owner (place_in base f.fields i x) x) 0 f.fields
