-- The classes of a program by number: those that are declared, then the array classes.
use Rattle.std.specs.Prelude.{ℕ, ◌+◌, List, ◌++◌, length, Option, None, option_and_then}
use Rattle.jvm_base.specs.declared.desc.Desc.{Desc}
use Rattle.class_format.specs.declared.class.ClassFile.{ClassFile}
use Rattle.class_names.specs.Classes.{this_name, super_text}
use Rattle.link_rules.specs.Numbers.{map_from, number_of, interface_row}
use Rattle.link_arrays.specs.ArrayClasses.{array_classes}
use Rattle.program_image.specs.declared.info.ClassInfo.{ClassInfo}
use Rattle.link_image.specs.Fields.{base_of, field_infos}
use Rattle.link_image.specs.Methods.{first_method, method_numbers, clinit_number}

-- the superclass of a class
abbrev pub super_number : List ClassFile → ClassFile → Option ℕ
super_number all f = option_and_then (number_of all) (super_text f)

-- the class of a number among the declared ones; `classes` counts all classes
abbrev pub class_info : List ClassFile → ℕ → List (List ℕ) → ℕ → ClassFile → ClassInfo
class_info all classes literals c f = record {
  name = this_name f;
  flags = f.flags;
  super_class = super_number all f;
  interfaces = interface_row all f;
  fields = field_infos classes literals f c (base_of all c);
  methods = method_numbers (first_method all c) f;
  clinit = clinit_number (first_method all c) f;
  array = None;
}

-- the declared classes
abbrev pub declared_infos : List ClassFile → ℕ → List (List ℕ) → List ClassInfo
declared_infos all classes literals = map_from (class_info all classes literals) 0 all

-- all classes
unfoldable pub class_infos : List ClassFile → List Desc → List (List ℕ) → List ClassInfo
class_infos all arrays literals = declared_infos all (length all + length arrays) literals ++ array_classes all arrays
