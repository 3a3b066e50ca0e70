-- What boot classes, `main` and the start of an image owe to a machine.
use Rattle.std.specs.Prelude.{◌≡◌, ℕ, true, List, ◌++◌, Some, None, slice_get}
use Rattle.std.specs.List.{AllByRecursion}
use Rattle.jvm_base.specs.declared.desc.Desc.{Desc}
use Rattle.jvm_base.specs.declared.desc.MethodDesc.{MethodDesc}
use Rattle.boot_table.specs.Files.{boot_files}
use Rattle.class_format.specs.Meaning.{IsClass}
use Rattle.class_format.specs.declared.class.ClassFile.{ClassFile}
use Rattle.class_link.specs.Mains.{main_found}
use Rattle.hierarchy.specs.Walks.{has}
use Rattle.link_arrays.specs.Arrays.{strings}
use Rattle.link_uses.specs.declared.lookup.Found.{Found}
use Rattle.link_image.specs.Image.{image_of}
use Rattle.program_image.specs.Buffers.{string_buffer}
use Rattle.program_image.specs.Program.{Program}
use Rattle.program_image.specs.declared.info.Body.TheVariants.{Intrinsic}
use Rattle.instruction_table.specs.ClassTypes.{array_at, class_type}
use Rattle.machine_state.specs.BootClasses.{class_class, string}
use Rattle.machine_state.specs.Classes.{body_of}
use Rattle.frame_soundness.specs.AcceptedProgram.{IsFault, Entries, Starts, faults}
use Rattle.frame_soundness.specs.Holding.{has_fields, desc_of}
use Rattle.frame_soundness.specs.Natives.{NativeFits, string_type, buffer_type}
use Rattle.linked_classes.specs.Linking.{AreRight}
use Rattle.linked_methods.specs.Linking.{AreRightMembers}

-- ---- boot classes

-- what a machine raises may be thrown; Class, String and StringBuffer are of their own types
pub record AreBootRight (p : Program) : Type 0 where
  pub fault : (c : ℕ) → has faults c ≡ true → IsFault p c
  pub holders : has_fields p class_class ≡ true
  pub string_class : (array_at p string ≡ None) × (class_type p string ≡ string_type)
  pub buffer_class : (array_at p string_buffer ≡ None) × (class_type p string_buffer ≡ buffer_type)

-- those of an image are so
abbrev pub BootLaw : Type 0
BootLaw = (files : List ClassFile) (arrays : List Desc) (literals : List (List ℕ)) (main : Found) →
    AreRight files arrays literals main →
    AreBootRight (image_of (boot_files ++ files) arrays literals main)

-- each intrinsic is declared as that one
abbrev pub AreNativesRight : Program → Type 0
AreNativesRight p =
    (m k : ℕ) (d : MethodDesc) → body_of p m ≡ Intrinsic k → desc_of p m ≡ Some d →
    NativeFits p m k d

-- so it is in an image of files that declare none
abbrev pub NativesLaw : Type 0
NativesLaw = (files : List ClassFile) (arrays : List Desc) (literals : List (List ℕ))
    (main : Found) →
    AreRight files arrays literals main → AreRightMembers files →
    AreNativesRight (image_of (boot_files ++ files) arrays literals main)

-- ---- the start

-- one of the array types is that of what `main` is given
pub record HaveStrings (arrays : List Desc) : Type 0 where
  pub place : ℕ
  pub is_there : slice_get arrays place ≡ Some strings

-- the objects that are there before the first step are of their types
abbrev pub StartsLaw : Type 0
StartsLaw = (files : List ClassFile) (arrays : List Desc) (literals : List (List ℕ))
    (main : Found) →
    AreRight files arrays literals main → AllByRecursion IsClass files → HaveStrings arrays →
    Starts (image_of (boot_files ++ files) arrays literals main)

-- ---- methods that no instruction calls

-- the method is the `main` of one of these files
abbrev pub IsMain : List ClassFile → Found → Type 0
IsMain files main = (name : List ℕ) × (main_found files name ≡ Some main)

-- the methods that no instruction calls take what a machine gives them
abbrev pub EntriesLaw : Type 0
EntriesLaw = (files : List ClassFile) (arrays : List Desc) (literals : List (List ℕ))
    (main : Found) →
    AreRight files arrays literals main → AreRightMembers files →
    HaveStrings arrays → IsMain files main →
    Entries (image_of (boot_files ++ files) arrays literals main)
