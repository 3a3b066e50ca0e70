-- Two choices of one thread that are both steps differ in name and pick alone.
use Rattle.std.specs.Prelude.{◌≡◌, Option, Some, None}
use Rattle.program_image.specs.Program.{Program}
use Rattle.machine_state.specs.declared.state.Choice.{Choice}
use Rattle.machine_state.specs.declared.state.ThreadState.{ThreadState}
use Rattle.machine_state.specs.State.{State}
use Rattle.machine_state.specs.Deeds.{Deed}
use Rattle.machine_state.specs.Step.{Taken, attempt}

-- the same classes are made, and the same waiters are to be picked from
pub record DemandsAlike (a b : Deed) : Type 0 where
  pub makes : a.makes ≡ b.makes
  pub waiters : a.waiters ≡ b.waiters

-- both are no step, or demand the same
abbrev pub Alike : Option Taken → Option Taken → Type 0
Alike None None = Unit {0}
Alike (Some a) (Some b) = DemandsAlike a.deed b.deed
Alike _ _ = ⊥

-- whether a step is enabled, what it makes and whom it may pick don't depend on the choice's name
-- and pick
abbrev pub OneNextLaw : Type 0
OneNextLaw =
    (p : Program) (m : State) (c d : Choice) (th : ThreadState) → c.thread ≡ d.thread
    → Alike (attempt p m c th) (attempt p m d th)
