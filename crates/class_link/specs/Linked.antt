-- What files that aren't refused are linked to.
use Rattle.std.specs.Prelude.{ℕ, List}
use Rattle.jvm_base.specs.Words.{from}
use Rattle.class_format.specs.declared.class.ClassFile.{ClassFile}
use Rattle.link_arrays.specs.Arrays.{array_types}
use Rattle.link_arrays.specs.Literals.{literals}
use Rattle.link_image.specs.Image.{image_of}
use Rattle.link_uses.specs.declared.lookup.Found.{Found}
use Rattle.program_image.specs.Program.{Program}
use Rattle.class_link.specs.Mains.{main_found}
use Rattle.class_link.specs.Refusals.{classes_of}

-- where no file declares the main method, which is refused
abbrev pub no_start : Found
no_start = record { class = 0; place = 0 }

-- the method that a run starts with
abbrev pub start_of : List ClassFile → List ℕ → Found
start_of files main = from no_start (λ x. x) (main_found files main)

-- the image of the boot classes and the files
abbrev pub linked : List ClassFile → List ℕ → Program
linked files main = image_of (classes_of files) (array_types files) (literals files) (start_of files main)
