-- What comes of instructions, by whether they are answered from outside.
use Rattle.std.specs.Prelude.{◌≡◌, ◌≢◌, false, true, List, ◌∷◌, None, Some}
use Rattle.jvm_base.specs.declared.frame.Frame.{Frame}
use Rattle.jvm_base.specs.declared.frame.Phase.TheVariants as phase
use Rattle.jvm_base.specs.declared.frame.Level.{Level}
use Rattle.jvm_base.specs.declared.frame.Level.TheVariants.{Code}
use Rattle.code_table.specs.declared.code.Placed.{Placed}
use Rattle.program_image.specs.Program.{Program}
use Rattle.program_image.specs.Words.{instruction_at}
use Rattle.frame_ops.specs.Moves.{Move, Asks, Calls, Leaves}
use Rattle.machine_state.specs.declared.request.Request.{Request}
use Rattle.machine_state.specs.declared.request.Answer.{Answer}
use Rattle.machine_state.specs.declared.request.Answer.TheVariants.{Gives}
use Rattle.machine_state.specs.declared.request.Request.TheVariants.{Fault, Enter, Exit, Begin, InitDone, InitFail, Finish}
use Rattle.frame_soundness.specs.Conditions.{MayTake}
use Rattle.step_complete.specs.Condition.{is_return}

-- the move neither asks for something nor calls nor leaves
abbrev pub IsPlain : Move → Type 0
IsPlain Asks = ⊥
IsPlain Calls = ⊥
IsPlain (Leaves v) = ⊥
IsPlain _ = Unit {0}

-- it leaves
abbrev pub IsLeft : Move → Type 0
IsLeft (Leaves v) = Unit {0}
IsLeft _ = ⊥

-- it doesn't leave
abbrev pub StaysIn : Move → Type 0
StaysIn (Leaves v) = ⊥
StaysIn _ = Unit {0}

-- the frame's instruction may be answered, if only by nothing
abbrev pub AsksHere : Program → Frame → Type 0
AsksHere p f = (i : Placed) → instruction_at p f.method f.at ≡ Some i → MayTake i.op None

-- the frame's instruction returns, or may be answered so
abbrev pub ReturnsOrAsks : Program → Frame → Type 0
ReturnsOrAsks p f =
    (i : Placed) → instruction_at p f.method f.at ≡ Some i → is_return i.op ≡ false
    → MayTake i.op None

-- the frame may be answered what a request is answered: one that is made for its instruction
abbrev pub FrameAsks : Program → Request → Frame → Type 0
FrameAsks p (Fault c) f = Unit {0}
FrameAsks p (Exit n true) f = Unit {0}
FrameAsks p (Exit n false) f = ReturnsOrAsks p f
FrameAsks p (Enter n) f = f.phase ≢ phase.Lock → AsksHere p f
FrameAsks p (Begin c) f = Unit {0}
FrameAsks p (InitDone c) f = Unit {0}
FrameAsks p (InitFail c made) f = Unit {0}
FrameAsks p (Finish e) f = Unit {0}
FrameAsks p _ f = AsksHere p f

-- so may the top level
abbrev pub LevelsAsk : Program → Request → List Level → Type 0
LevelsAsk p r (Code f ∷ ls) = FrameAsks p r f
LevelsAsk p r _ = Unit {0}

-- the top level's instruction may be answered, if only by nothing
abbrev pub TopAsks : Program → List Level → Type 0
TopAsks p (Code f ∷ ls) = AsksHere p f
TopAsks p _ = Unit {0}

-- an exception that is made is raised
abbrev pub RaisesFault : Request → Answer → Type 0
RaisesFault (Fault c) (Gives v) = ⊥
RaisesFault r a = Unit {0}
