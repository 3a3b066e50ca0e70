-- Array classes by number: they come behind the classes that are declared.
use Rattle.std.specs.Prelude.{ℕ, ◌+◌, ◌-◌, ◌==◌, Bool, nat_lt, List, [], length, map, Option, Some, None, option_map, option_and_then, position, if◌then◌else◌}
use Rattle.jvm_base.specs.declared.desc.Desc.{Desc}
use Rattle.jvm_base.specs.declared.desc.Elem.{Elem}
use Rattle.jvm_base.specs.declared.desc.Elem.TheVariants.{Object}
use Rattle.jvm_base.specs.Descriptors.{desc_of, desc_text}
use Rattle.class_format.specs.declared.class.ClassFile.{ClassFile}
use Rattle.class_names.specs.Texts.{is_array}
use Rattle.link_rules.specs.Numbers.{number_of}
use Rattle.program_image.specs.declared.info.ArrayInfo.{ArrayInfo}
use Rattle.program_image.specs.declared.info.ClassInfo.{ClassInfo}
use Rattle.program_image.specs.Signatures.{same_desc}
use Rattle.link_arrays.specs.Arrays.{array_types}

-- ---- how many there may be

-- the most classes of a program
abbrev pub class_limit : ℕ
class_limit = 16777216

-- with so many declared classes, boot classes among them, these files have too many
abbrev pub too_many : ℕ → List ClassFile → Bool
too_many declared files = nat_lt class_limit (declared + length (array_types files))

-- ---- numbers, where `all` has the declared classes and `arrays` the array types

-- the number of an array type
abbrev pub array_number : List ClassFile → List Desc → Desc → Option ℕ
array_number all arrays d = option_map (λ k. length all + k) (position (same_desc d) arrays)

-- the number of the class that an element type is
abbrev pub elem_number : List ClassFile → Elem → Option ℕ
elem_number all (Object name) = number_of all name
elem_number all _ = None

-- the number of the class that a type is; a primitive type is none
abbrev pub type_number : List ClassFile → List Desc → Desc → Option ℕ
type_number all arrays d = if d.dims == 0 then elem_number all d.elem else array_number all arrays d

-- the number of the class that a class item's text names
abbrev pub class_number : List ClassFile → List Desc → List ℕ → Option ℕ
class_number all arrays text = if is_array text then option_and_then (array_number all arrays) (desc_of text) else number_of all text

-- ---- what they are

-- the type of what an array's places hold
abbrev pub part_type : Desc → Desc
part_type d = record { dims = d.dims - 1; elem = d.elem }

-- the class of a type as that of arrays
abbrev pub array_info : List ClassFile → List Desc → Desc → ArrayInfo
array_info all arrays d = record { dims = d.dims; elem = d.elem; part = type_number all arrays (part_type d) }

-- public, final and abstract (JVMS2 4.1)
abbrev pub array_flags : ℕ
array_flags = 1041

-- the number of `java/lang/Object`, the superclass of each array class (JVMS2 2.15)
abbrev pub object_number : ℕ
object_number = 0

-- the class of an array type: its name is its descriptor
abbrev pub array_class : List ClassFile → List Desc → Desc → ClassInfo
array_class all arrays d = record {
  name = desc_text d;
  flags = array_flags;
  super_class = Some object_number;
  interfaces = [];
  fields = [];
  methods = [];
  clinit = None;
  array = Some (array_info all arrays d);
}

-- all array classes, by number
abbrev pub array_classes : List ClassFile → List Desc → List ClassInfo
array_classes all arrays = map (array_class all arrays) arrays
