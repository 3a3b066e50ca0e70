-- Steps of one thread in a row, each of which touches nothing but its own frame.
use Rattle.std.specs.Prelude.{◌≡◌, ℕ, zero, suc, ◌+◌, ◌-◌, ◌≤◌, ◌<◌, min, List, replicate, Option, Some, None, slice_get, slice_set}
use Rattle.jvm_base.specs.Words.{from}
use Rattle.jvm_base.specs.declared.frame.Frame.{Frame}
use Rattle.program_image.specs.Program.{Program}
use Rattle.machine_state.specs.declared.state.ThreadState.{ThreadState}
use Rattle.machine_state.specs.Runs.{any_choice, run}
use Rattle.machine_state.specs.State.{State}
use Rattle.one_machine.specs.InPlace.{frame_next, running_next}

-- ---- moves in a row

-- what comes of so many moves in a row, where each of them can be made
abbrev pub after_moves : {A : Type 0} → (A → Option A) → ℕ → A → Option A
after_moves move zero a = Some a
after_moves move (suc n) a = from None (after_moves move n) (move a)

-- so many moves lead from one to the other. They are fewer than may be made only where none further
-- can be
pub record AreMoves {A : Type 0} (move : A → Option A) (most n : ℕ) (old new : A) : Type 0 where
  pub lead : after_moves move n old ≡ Some new
  pub few : n ≤ most
  pub all : n < most → move new ≡ None

-- whatever comes of moves in a row has the property
abbrev pub Always : {A : Type 0} → (A → Option A) → A → (A → Type 0) → Type 0
Always move a P = (n : ℕ) → (b : _) → after_moves move n a ≡ Some b → P b

-- ---- the thread

-- the move of a frame
abbrev pub frame_move : Program → Frame → Option Frame
frame_move p f = frame_next p f f.phase

-- how many steps a thread may take, which are so many now and so many in all
abbrev pub room_for : ℕ → ℕ → ThreadState → ℕ
room_for most limit th = min most (limit - th.steps)

-- a thread has taken so many steps that touch its frame alone. Where it may take more, the next one
-- isn't such a step
pub record IsGlided (p : Program) (most limit n : ℕ) (old new : ThreadState) : Type 0 where
  pub moves : AreMoves (running_next p old.mode) (room_for most limit old) n old.levels new.levels
  pub stepped : new ≡ record old { levels = new.levels; steps = old.steps + n }

-- the thread of a number has done so, if there is one, and the others are as before
abbrev pub AreGlided :
    Program → ℕ → ℕ → ℕ → ℕ → List ThreadState → List ThreadState → Option ThreadState → Type 0
AreGlided p t most limit n olds news None = (n ≡ 0) × (news ≡ olds)
AreGlided p t most limit n olds news (Some old) =
    (new : ThreadState) × IsGlided p most limit n old new × (news ≡ slice_set olds t new)

-- ---- the machine

-- the machine after so many such steps of a thread; nothing that threads share has changed
pub record Glides (p : Program) (m : State) (t most limit n : ℕ) (next : State) : Type 0 where
  pub leads : run p m (replicate n (any_choice t)) ≡ Some next
  pub threads : AreGlided p t most limit n m.threads next.threads (slice_get m.threads t)
  pub shared : next ≡ record m { threads = next.threads }
