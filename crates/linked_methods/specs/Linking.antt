-- What the methods of an image owe to a machine.
use Rattle.std.specs.Prelude.{◌≡◌, ℕ, true, false, List, [], ◌++◌, Some, None}
use Rattle.std.specs.List.{AllByRecursion, flat_map}
use Rattle.jvm_base.specs.declared.desc.Desc.{Desc}
use Rattle.boot_table.specs.Files.{boot_files}
use Rattle.class_format.specs.Meaning.{IsClass}
use Rattle.class_format.specs.declared.class.ClassFile.{ClassFile}
use Rattle.code_table.specs.declared.code.Code.{Code}
use Rattle.hierarchy.specs.Walks.{has}
use Rattle.link_rules.specs.Members.{wrong_members}
use Rattle.link_uses.specs.declared.lookup.Found.{Found}
use Rattle.link_image.specs.Image.{image_of}
use Rattle.program_image.specs.Handlers.{code_of}
use Rattle.program_image.specs.Program.{Program}
use Rattle.program_image.specs.Selection.{methods_of}
use Rattle.program_image.specs.declared.info.Body.TheVariants.{Abstract}
use Rattle.instruction_table.specs.ClassTypes.{plain, array_at, owner_of, is_initialiser, is_static_method}
use Rattle.machine_state.specs.Classes.{body_of, clinit_of}
use Rattle.frame_soundness.specs.AcceptedProgram.{IsOwned, IsAlone, nothing_desc}
use Rattle.linked_classes.specs.Linking.{AreRight}

-- no rule on declared members refuses class files
pub record AreRightMembers (files : List ClassFile) : Type 0 where
  pub formed : AllByRecursion IsClass files
  pub right : flat_map wrong_members files ≡ []

-- methods of their classes; an initialiser of objects that can be called is no interface's, and one
-- of a class has no receiver
pub record AreMethodsRight (p : Program) : Type 0 where
  pub owners : (k m : ℕ) → has (methods_of p.classes k) m ≡ true → IsOwned p k m
  pub coded_in : (m : ℕ) (c : Code) → code_of p m ≡ Some c → array_at p (owner_of p m) ≡ None
  pub inits : (m : ℕ) → is_static_method p m ≡ false → is_initialiser p m ≡ true →
      (body_of p m ≡ Abstract → ⊥) → plain p (owner_of p m) ≡ owner_of p m
  pub clinits : (c m : ℕ) → clinit_of p c ≡ Some m → IsAlone p m nothing_desc

-- so are those of an image
abbrev pub MethodsLaw : Type 0
MethodsLaw = (files : List ClassFile) (arrays : List Desc) (literals : List (List ℕ))
    (main : Found) →
    AreRight files arrays literals main → AreRightMembers files →
    AreMethodsRight (image_of (boot_files ++ files) arrays literals main)
