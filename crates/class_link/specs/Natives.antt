-- The native methods of some classes, by class and by order of declaration.
use Rattle.std.specs.Prelude.{List, map}
use Rattle.std.specs.List.{flat_map, filter}
use Rattle.boot_table.specs.Intrinsics.{Intrinsic}
use Rattle.class_format.specs.declared.class.ClassFile.{ClassFile}
use Rattle.class_format.specs.declared.class.MethodItem.{MethodItem}
use Rattle.class_format.specs.Flags.{is_native, is_static}
use Rattle.class_names.specs.Classes.{this_name}
use Rattle.link_rules.specs.Members.{method_name, method_desc}

-- a method by the texts that its file has for it
abbrev pub native_of : ClassFile → MethodItem → Intrinsic
native_of f m = record { class = this_name f; name = method_name f m; desc = method_desc f m; is_static = is_static m.flags }

-- those of a class
abbrev pub class_natives : ClassFile → List Intrinsic
class_natives f = map (native_of f) (filter (λ m. is_native m.flags) f.methods)

-- those of all
abbrev pub natives : List ClassFile → List Intrinsic
natives files = flat_map class_natives files
