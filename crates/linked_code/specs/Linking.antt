-- What the code of an image owes to a machine.
use Rattle.std.specs.Prelude.{◌≡◌, ◌<◌, ◌^◌, ℕ, List, [], ◌++◌, map, Some}
use Rattle.std.specs.List.{AllByRecursion, flat_map}
use Rattle.boot_table.specs.Files.{boot_files}
use Rattle.class_format.specs.declared.class.ClassFile.{ClassFile}
use Rattle.class_names.specs.Classes.{this_name}
use Rattle.code_table.specs.declared.code.Placed.{Placed}
use Rattle.link_arrays.specs.Arrays.{array_types}
use Rattle.link_arrays.specs.Literals.{literals}
use Rattle.link_image.specs.Image.{image_of}
use Rattle.link_rules.specs.Classes.{no_class}
use Rattle.link_rules.specs.Decoding.{undecoded_file}
use Rattle.link_rules.specs.Numbers.{numbered, above_rows}
use Rattle.link_uses.specs.Tables.{HasRanks}
use Rattle.link_uses.specs.Uses.{no_members, wrong_uses}
use Rattle.link_uses.specs.declared.lookup.Found.{Found}
use Rattle.program_image.specs.Program.{Program, target_of}
use Rattle.program_image.specs.Words.{instruction_at}
use Rattle.frame_soundness.specs.AcceptedProgram.{IsLinked}
use Rattle.linked_classes.specs.Linking.{AreRight}
use Rattle.linked_methods.specs.Linking.{AreRightMembers}

-- no rule on code refuses class files: it is decoded, what it names is there and of its kind, its
-- arrays have few dimensions, and no class lies above itself
pub record AreRightUses (files : List ClassFile) : Type 0 where
  pub decoded : numbered undecoded_file 0 files ≡ []
  pub named : flat_map (no_class (map this_name (boot_files ++ files))) files ≡ []
  pub found : flat_map (no_members (boot_files ++ files)) files ≡ []
  pub suited : flat_map (wrong_uses (boot_files ++ files)) files ≡ []
  pub shallow : AllByRecursion (λ d. d.dims < 2 ^ 8) (array_types files)
  pub ranked : HasRanks (above_rows (boot_files ++ files))

-- what each instruction names is there and of its kind
abbrev pub IsCodeLinked : Program → Type 0
IsCodeLinked p = (m at : ℕ) (placed : Placed) → instruction_at p m at ≡ Some placed →
    IsLinked p placed.op (target_of p m at)

-- so is what those of an image name, which has the array types and the literals of its files
abbrev pub LinksLaw : Type 0
LinksLaw = (files : List ClassFile) (main : Found) →
    AreRight files (array_types files) (literals files) main → AreRightMembers files →
    AreRightUses files →
    IsCodeLinked (image_of (boot_files ++ files) (array_types files) (literals files) main)
