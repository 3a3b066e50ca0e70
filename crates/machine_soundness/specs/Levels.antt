-- When the levels of a thread fit the typing.
use Rattle.std.specs.Prelude.{◌≡◌, ◌<◌, ℕ, Bool, true, List, [], ◌∷◌, length, Option, Some, None, is_some}
use Rattle.std.specs.Option.{option_to_list}
use Rattle.jvm_base.specs.declared.desc.MethodDesc.{MethodDesc}
use Rattle.jvm_base.specs.declared.name.Name.{Name}
use Rattle.jvm_base.specs.declared.frame.Phase.{Phase}
use Rattle.jvm_base.specs.declared.frame.Phase.TheVariants as phase
use Rattle.jvm_base.specs.declared.frame.Frame.{Frame}
use Rattle.jvm_base.specs.declared.frame.Level.{Level}
use Rattle.jvm_base.specs.declared.frame.Level.TheVariants.{Code, Init}
use Rattle.code_table.specs.declared.code.Placed.{Placed}
use Rattle.code_table.specs.declared.op.Op.TheVariants as op
use Rattle.program_image.specs.Handlers.{handler_of}
use Rattle.program_image.specs.Program.{Program}
use Rattle.program_image.specs.Words.{instruction_at}
use Rattle.flow_types.specs.Tree.{superclasses}
use Rattle.flow_types.specs.Types.{type_fits}
use Rattle.instruction_table.specs.ClassTypes.{class_type, result_of}
use Rattle.machine_state.specs.Classes.{clinit_of}
use Rattle.machine_state.specs.declared.state.Mode.{Mode}
use Rattle.machine_state.specs.declared.state.Mode.TheVariants.{Entry, Running, Raising, Waiting, Ended}
use Rattle.machine_state.specs.declared.state.ThreadState.{ThreadState}
use Rattle.frame_soundness.specs.AcceptedProgram.{Types}
use Rattle.frame_soundness.specs.Frames.{FrameFits}
use Rattle.frame_soundness.specs.Holding.{desc_of}
use Rattle.frame_soundness.specs.Moving.{IsThrown}
use Rattle.frame_soundness.specs.Natives.{thread_type}
use Rattle.machine_soundness.specs.Bodies.{all_suit}

-- the frame stands at a call of a method of that descriptor
pub record CallsOne (p : Program) (f : Frame) (m : ℕ) : Type 0 where
  pub placed : Placed
  pub is_placed : instruction_at p f.method f.at ≡ Some placed
  pub opcode : ℕ
  pub item : ℕ
  pub desc : MethodDesc
  pub is_call : placed.op ≡ op.Invoke opcode item desc
  pub is_desc : desc_of p m ≡ Some desc

-- a frame of the method may lie on these levels: on one that calls it, or on the initialisation
-- whose initialiser it is
abbrev pub LiesOn : Program → ℕ → List Level → Type 0
LiesOn p m [] = Unit {0}
LiesOn p m (Code f ∷ ls) = CallsOne p f m
LiesOn p m (Init c begun ∷ ls) = clinit_of p c ≡ Some m

-- the code runs
abbrev pub InBody : Phase → Type 0
InBody phase.Body = Unit {0}
InBody _ = ⊥

-- levels below the top one
abbrev pub Lower : Program → Types → (Name → Bool) → List Level → Type 0
Lower p types there [] = Unit {0}
Lower p types there (Code f ∷ ls) =
    FrameFits p types there f
    × (InBody f.phase × (LiesOn p f.method ls × Lower p types there ls))
Lower p types there (Init c begun ∷ ls) = (c < length p.classes) × Lower p types there ls

-- of the top frame, while an exception is raised or none is: a lock is still to be entered, a value
-- that fits is to be handed on, or nothing handles what is raised
abbrev pub PhaseFits : Program → (Name → Bool) → Option Name → Frame → Phase → Type 0
PhaseFits p there raised f phase.Lock = is_some f.lock ≡ true
PhaseFits p there raised f phase.Body = Unit {0}
PhaseFits p there None f (phase.Unlock v) =
    all_suit p there (option_to_list v) (option_to_list (result_of p f.method)) ≡ true
PhaseFits p there (Some e) f (phase.Unlock v) = handler_of p f.method f.at e.class ≡ None

-- all levels, the top one first
abbrev pub LevelsFit :
    Program → Types → (Name → Bool) → Option Name → List Level → Type 0
LevelsFit p types there raised [] = Unit {0}
LevelsFit p types there raised (Code f ∷ ls) =
    FrameFits p types there f
    × (PhaseFits p there raised f f.phase × (LiesOn p f.method ls × Lower p types there ls))
LevelsFit p types there raised (Init c begun ∷ ls) =
    (c < length p.classes) × Lower p types there ls

-- by what the thread is about; where it has ended, it may have raised an exception
abbrev pub ModeFits : Program → Types → (Name → Bool) → Mode → List Level → Type 0
ModeFits p types there Entry ls = ls ≡ []
ModeFits p types there Running ls = LevelsFit p types there None ls
ModeFits p types there (Raising e) ls =
    IsThrown p there e × LevelsFit p types there (Some e) ls
ModeFits p types there (Waiting n k) ls = (there n ≡ true) × LevelsFit p types there None ls
ModeFits p types there Ended ls =
    (raised : Option Name) × LevelsFit p types there raised ls

-- an object of Thread, or of a class below it, that is there
pub record IsThread (p : Program) (there : Name → Bool) (n : Name) : Type 0 where
  pub is_here : there n ≡ true
  pub fits : type_fits (superclasses p) (class_type p n.class) thread_type ≡ true

-- a thread has a Thread object, and its levels fit
pub record ThreadFits (p : Program) (types : Types) (there : Name → Bool) (th : ThreadState) :
    Type 0 where
  pub object : IsThread p there th.object
  pub levels : ModeFits p types there th.mode th.levels
