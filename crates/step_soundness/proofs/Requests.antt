-- What a thread's next step owes: what its plan and the serving of its request know of each other.
use Rattle.std.proofs.Common.{◌≡◌, ℕ, Bool, true, false, List, Option, Some, None, ◌⊎◌}
use Rattle.std.specs.Option.{option_to_list}
use Rattle.jvm_base.specs.declared.frame.Phase.TheVariants as phase
use Rattle.jvm_base.specs.declared.frame.Frame.{Frame}
use Rattle.jvm_base.specs.declared.name.Name.{Name}
use Rattle.jvm_base.specs.declared.value.Value.{Value}
use Rattle.code_table.specs.declared.code.Code.{Code as MethodCode}
use Rattle.hierarchy.specs.Walks.{has}
use Rattle.program_image.specs.Handlers.{code_of}
use Rattle.program_image.specs.Program.{Program}
use Rattle.program_image.specs.Words.{instruction_at}
use Rattle.flow_types.specs.declared.flow_type.FlowType.{FlowType}
use Rattle.instruction_table.specs.ClassTypes.{result_of}
use Rattle.machine_state.specs.declared.request.Request.{Request}
use Rattle.machine_state.specs.declared.request.Request.TheVariants.{Fault, Exit, Begin, InitDone, InitFail, Finish}
use Rattle.machine_state.specs.Complete.{left_by}
use Rattle.machine_state.specs.Frames.{new_frame}
use Rattle.machine_state.specs.Next.{Next, Alone, Throws, Calls, Leaves, Drops, Needs, Wants, Stuck, answered}
use Rattle.frame_soundness.specs.AcceptedProgram.{Types, Accepted, faults}
use Rattle.frame_soundness.specs.Frames.{FrameFits}
use Rattle.frame_soundness.specs.Moving.{IsThrown}
use Rattle.machine_soundness.specs.Asks.{Asks}
use Rattle.machine_soundness.specs.Bodies.{all_suit}
use Rattle.machine_soundness.specs.Levels.{CallsOne}
use Rattle.step_soundness.proofs.FrameLaws.{GoesOn, Answers}

module _ (image : Program) (types : Types) (accepted : Accepted image types) (there : Name → Bool) where
  -- a call that the frame makes
  pub record Entered (f : Frame) (m : ℕ) (vs : List Value) : Type 0 where
    pub code : MethodCode
    pub is_code : code_of image m ≡ Some code
    pub fits : FrameFits image types there (new_frame image m vs code)
    pub calls : CallsOne image f m

  -- the lock of a method is left by its return
  pub record Leaving (f : Frame) : Type 0 where
    pub value : Option Value
    pub left : left_by image f (instruction_at image f.method f.at) ≡ record f { phase = phase.Unlock value }
    pub suits : all_suit image there (option_to_list value) (option_to_list (result_of image f.method)) ≡ true

  -- an instruction that is answered in its place
  pub record Answered (f : Frame) (r : Request) : Type 0 where
    pub types_of : List FlowType
    pub asks : Asks image there r types_of
    pub answers : Answers image types accepted there f types_of

  abbrev pub NeedOk : Frame → Request → Type 0
  NeedOk f (Fault c) = has faults c ≡ true
  NeedOk f (Exit n false) = (there n ≡ true) × (Leaving f ⊎ Answered f (Exit n false) × (left_by image f (instruction_at image f.method f.at) ≡ answered image None f))
  NeedOk f (Exit n true) = ⊥
  NeedOk f (Begin k) = ⊥
  NeedOk f (InitDone k) = ⊥
  NeedOk f (InitFail k made) = ⊥
  NeedOk f (Finish e) = ⊥
  NeedOk f r = Answered f r

  -- what the next step of the top frame, in its body, owes
  abbrev pub Owes : Frame → Next → Type 0
  Owes f (Alone g) = GoesOn image types accepted there f g
  Owes f (Throws e) = IsThrown image there e
  Owes f (Calls m vs) = Entered f m vs
  Owes f (Leaves v) = all_suit image there (option_to_list v) (option_to_list (result_of image f.method)) ≡ true
  Owes f Drops = ⊥
  Owes f (Needs r) = NeedOk f r
  Owes f (Wants n) = ⊥
  Owes f Stuck = ⊥
