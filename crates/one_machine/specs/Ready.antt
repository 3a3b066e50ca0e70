-- A machine, and what it has of its program.
use Rattle.std.specs.Prelude.{◌≡◌, ◌≤◌, ◌<◌, ◌⊎◌, ℕ, Bool, true, false, List, Option, Some, None, drop, slice_get}
use Rattle.jvm_base.specs.Words.{from}
use Rattle.jvm_base.specs.declared.value.Value.{Value}
use Rattle.program_image.specs.Program.{Program}
use Rattle.machine_state.specs.declared.state.ThreadState.{ThreadState}
use Rattle.machine_state.specs.Runs.{can_step, some_can}
use Rattle.machine_state.specs.State.{State}
use Rattle.frame_soundness.specs.AcceptedProgram.{Types, Accepted}
use Rattle.machine_soundness.specs.Sound.{Sound}
use Rattle.program_reads.specs.Kept.{IsKept}
use Rattle.program_reads.specs.Whole.{IsWhole}
use Rattle.program_reads.specs.declared.tables.Tables.{Tables}
use Rattle.step_serve.specs.Blank.{AreBlanks}
use Rattle.step_attempt.specs.Going.{state_at}
use Rattle.step_attempt.specs.declared.site.Site.{Site}

-- a program that can be run: it has a typing
pub record CanRun (p : Program) : Type 0 where
  pub types : Types
  pub accepted : Accepted p types
  pub whole : IsWhole p

-- the state, and what was read of the program beforehand
pub record Machine : Type 0 where
  pub state : State
  pub tables : Tables
  pub blanks : List (List Value)

-- a sound machine of such a program
pub record IsReady (p : Program) (m : Machine) : Type 0 where
  pub types : Types
  pub accepted : Accepted p types
  pub sound : Sound p types m.state
  pub kept : IsKept p m.tables
  pub blanks : AreBlanks p m.blanks

-- the machine at a site
abbrev pub machine_at : Site → Machine
machine_at s = record { state = state_at s; tables = s.tables.now; blanks = s.blanks.now }

-- the thread of a number can step, if there is one
abbrev pub able : Program → State → ℕ → Option ThreadState → Bool
able p m t o = from false (can_step p m t) o

-- one of the threads from a number on can step, and it is this; or none of them can
abbrev pub IsAble : Program → State → ℕ → Option ℕ → Type 0
IsAble p m first None = some_can p m first (drop first m.threads) ≡ false
IsAble p m first (Some t) =
    (th : ThreadState) × (slice_get m.threads t ≡ Some th) × (can_step p m t th ≡ true)

-- none of the threads from one number up to another can step
abbrev pub AreUnable : Program → State → ℕ → ℕ → Type 0
AreUnable p m first end =
    (u : ℕ) → first ≤ u → u < end → able p m u (slice_get m.threads u) ≡ false

-- of the threads from a number on that can step, this is the first
abbrev pub IsFirst : Program → State → ℕ → ℕ → Type 0
IsFirst p m first t = (first ≤ t) × AreUnable p m first t

-- of those that can step it is the first from a number on, or, where all of them lie before that, the
-- first of all
abbrev pub IsNext : Program → State → ℕ → Option ℕ → Type 0
IsNext p m first None = Unit {0}
IsNext p m first (Some t) =
    IsFirst p m first t
    ⊎ ((some_can p m first (drop first m.threads) ≡ false) × IsFirst p m 0 t)
