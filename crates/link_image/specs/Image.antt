-- The image of a program: its classes and methods by number, what its code names, its literals and
-- the method where it begins.
use Rattle.std.specs.Prelude.{ℕ, ◌+◌, List}
use Rattle.jvm_base.specs.declared.desc.Desc.{Desc}
use Rattle.class_format.specs.declared.class.ClassFile.{ClassFile}
use Rattle.link_uses.specs.declared.lookup.Found.{Found}
use Rattle.program_image.specs.Program.{Program, program}
use Rattle.link_image.specs.Classes.{class_infos}
use Rattle.link_image.specs.Methods.{first_method, method_infos}
use Rattle.link_image.specs.Targets.{known, all_targets}

-- the number of a declared method
abbrev pub method_number : List ClassFile → Found → ℕ
method_number all x = first_method all x.class + x.place

-- the image of the declared classes, the array types, the literals and the method where it begins
unfoldable pub image_of : List ClassFile → List Desc → List (List ℕ) → Found → Program
image_of all arrays literals main =
    program (class_infos all arrays literals) (method_infos all)
    (all_targets (known all arrays literals)) literals (method_number all main)
