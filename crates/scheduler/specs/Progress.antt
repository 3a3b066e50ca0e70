-- What comes of a thread in its turn.
use Rattle.std.specs.Prelude.{◌≡◌, ℕ, false, slice_get, Some, None}
use Rattle.program_image.specs.Program.{Program}
use Rattle.machine_state.specs.declared.state.ThreadState.{ThreadState}
use Rattle.machine_state.specs.Runs.{can_step}
use Rattle.machine_state.specs.State.{State}
use Rattle.scheduler.specs.Running.{Run, LeadsOn, IsStop, IsTurn}
use Rattle.scheduler.specs.declared.run.Progress.{Progress}
use Rattle.scheduler.specs.declared.run.Progress.TheVariants.{Stepped, Passed, Stops}

-- the run stands as the old one
pub record IsSame (a b : Run) : Type 0 where
  pub state : b.machine.state ≡ a.machine.state
  pub order : b.order ≡ a.order

-- the thread of this number, if there is one, can take no step
abbrev pub IsPassed : Program → State → ℕ → Type 0
IsPassed p m t =
    (th : ThreadState) → slice_get m.threads t ≡ Some th → can_step p m t th ≡ false

-- a step was taken; the thread can take none; or the run ends
abbrev pub IsProgress : Program → Run → ℕ → Run → Progress → Type 0
IsProgress p a t b Stepped =
    LeadsOn p a.machine.state a.order b.order b.machine.state
    × IsTurn p a.limit a.order b None
IsProgress p a t b Passed = IsSame a b × IsPassed p a.machine.state t
IsProgress p a t b (Stops s) = IsSame a b × IsStop p a.limit b.machine.state s
