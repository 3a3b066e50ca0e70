-- What a thread may do next, and who asks.
use Rattle.std.specs.Prelude.{ℕ, Bool, List, Option, Some, None}
use Rattle.jvm_base.specs.Words.{from}
use Rattle.jvm_base.specs.declared.name.Name.{Name}
use Rattle.jvm_base.specs.declared.value.Value.{Value}
use Rattle.jvm_base.specs.declared.frame.Frame.{Frame}
use Rattle.program_image.specs.Program.{Program}
use Rattle.program_image.specs.Words.{instruction_at}
use Rattle.frame_ops.specs.Stepping.{placed_answered}
use Rattle.machine_state.specs.declared.request.Request.{Request}
use Rattle.machine_state.specs.declared.request.Request.TheVariants.{Fault}

-- The top frame goes on, throws, calls, leaves with a value or is dropped by an exception; or
-- something is asked of a part that threads share. Wants is the want of a text that isn't known
-- here; Stuck comes of no verified program.
pub data Next : Type 0 where
  Alone : Frame → Next
  Throws : Name → Next
  Calls : ℕ → List Value → Next
  Leaves : Option Value → Next
  Drops : Next
  Needs : Request → Next
  Wants : Name → Next
  Stuck : Next

-- the class that must be initialised first, if any, and what comes then
pub record Plan : Type 0 where
  pub asks : Option ℕ
  pub next : Next

-- who is about to step: whether it is thread 0, its Thread object, its number of frames, and the
-- texts that are known where it stands
pub record Who : Type 0 where
  pub first : Bool
  pub object : Name
  pub depth : ℕ
  pub known : Name → Option (List ℕ)

-- no class is asked for
abbrev pub plain : Next → Plan
plain n = record { asks = None; next = n }

-- this class is asked for
abbrev pub asking : ℕ → Next → Plan
asking c n = record { asks = Some c; next = n }

-- an exception that the machine itself makes, of this class
abbrev pub fault : ℕ → Next
fault c = Needs (Fault c)

-- what comes of a text, where it is known
abbrev pub with_text : Who → Name → (List ℕ → Next) → Next
with_text who n f = from (Wants n) f (who.known n)

-- the frame, its instruction answered
abbrev pub answered : Program → Option Value → Frame → Frame
answered p v f = from f (λ i. placed_answered i v f) (instruction_at p f.method f.at)

-- the frame goes on with an answer
abbrev pub answers : Program → Frame → Option Value → Next
answers p f v = Alone (answered p v f)
