-- What acceptance owes to a machine: typings that are kept to, classes of their types, numbers in
-- range.
use Rattle.std.specs.Prelude.{◌≡◌, ℕ, List, Some}
use Rattle.std.specs.List.{All}
use Rattle.jvm_base.specs.declared.pool.PoolItem.{PoolItem}
use Rattle.class_format.specs.Meaning.{IsClass}
use Rattle.class_format.specs.declared.class.ClassFile.{ClassFile}
use Rattle.code_table.specs.declared.code.Code.{Code}
use Rattle.program_image.specs.Handlers.{code_of}
use Rattle.program_image.specs.Program.{Program}
use Rattle.class_link.specs.Linked.{linked}
use Rattle.acceptance.specs.Accepted.{AreAccepted}
use Rattle.frame_soundness.specs.AcceptedProgram.{Types}
use Rattle.linked_methods.specs.Linking.{AreMethodsRight}
use Rattle.program_reads.specs.Whole.{IsWhole}
use Rattle.typed_classes.specs.Tables.{AreClassesTyped}
use Rattle.typed_code.specs.Decoding.{IsFineCode}
use Rattle.typed_code.specs.Framing.{AreKept}

-- a program with these frames
pub record IsKept (p : Program) (types : Types) : Type 0 where
  pub classes : AreClassesTyped p
  pub methods : AreMethodsRight p
  pub kept : AreKept p types
  pub fine : (m : ℕ) (c : Code) → code_of p m ≡ Some c → (pool : List PoolItem) × IsFineCode pool c
  pub whole : IsWhole p

-- each that is accepted has such frames
abbrev pub KeptLaw : Type 0
KeptLaw = (files : List ClassFile) (main : List ℕ) →
    All IsClass files → AreAccepted files main →
    (types : Types) × IsKept (linked files main) types
