-- What a program owes to those who run it. One that was linked and verified has all of it.
use Rattle.std.specs.Prelude.{◌≡◌, ℕ, ◌<◌, ◌≤◌, length, Some}
use Rattle.code_table.specs.declared.code.Code.{Code as MethodCode}
use Rattle.program_image.specs.Handlers.{code_of}
use Rattle.program_image.specs.Program.{Program, target_of}
use Rattle.program_image.specs.Words.{super_of}
use Rattle.instruction_table.specs.ClassTypes.{class_in, field_class_in, method_in}
use Rattle.frame_ops.specs.Stepping.{IsRising}
use Rattle.machine_state.specs.BootClasses.{boot_class_count}
use Rattle.machine_state.specs.Classes.{thread_run}

-- the boot classes are there; superclasses, what instructions name and Thread's `run` have numbers
-- below the counts; addresses rise in each method
pub record IsWhole (p : Program) : Type 0 where
  pub boot : boot_class_count ≤ length p.classes
  pub supers_in : (k c : ℕ) → super_of p k ≡ Some c → c < length p.classes
  pub classes_in : (m at : ℕ) → class_in (target_of p m at) < length p.classes
  pub fields_in : (m at : ℕ) → field_class_in (target_of p m at) < length p.classes
  pub methods_in : (m at : ℕ) → method_in (target_of p m at) < length p.methods
  pub run_in : thread_run p < length p.methods
  pub rising : (m : ℕ) (code : MethodCode) → code_of p m ≡ Some code → IsRising code.ops
