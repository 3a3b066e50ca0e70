-- When a frame of the machine fits the typing at its address.
use Rattle.std.specs.Prelude.{◌≡◌, Bool, true, Some, is_some}
use Rattle.jvm_base.specs.Words.{from}
use Rattle.jvm_base.specs.declared.frame.Frame.{Frame}
use Rattle.jvm_base.specs.declared.name.Name.{Name}
use Rattle.class_format.specs.Flags.{is_synchronized}
use Rattle.code_table.specs.declared.code.Code.{Code}
use Rattle.program_image.specs.Handlers.{code_of}
use Rattle.program_image.specs.Program.{Program}
use Rattle.instruction_table.specs.ClassTypes.{flags_of}
use Rattle.instruction_table.specs.declared.work.Work.{Work}
use Rattle.frame_soundness.specs.AcceptedProgram.{Types}
use Rattle.frame_soundness.specs.Fitting.{Fits}

-- it stands where the typing has a frame, and its values are of those types, among the objects that
-- are there; it has a lock exactly where its method is synchronized
pub record FrameFits (p : Program) (types : Types) (there : Name → Bool) (f : Frame) : Type 0
  where
    pub code : Code
    pub is_code : code_of p f.method ≡ Some code
    pub room : f.stack.room ≡ code.max_stack
    pub work : Work
    pub is_typed : types f.method f.at ≡ Some work
    pub fits : Fits p f.method there f.locals f.stack.values work
    pub locked : is_some f.lock ≡ is_synchronized (flags_of p f.method)
    pub lock : from true there f.lock ≡ true
