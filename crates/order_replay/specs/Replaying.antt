-- An order taken step by step, and how that ends.
use Rattle.std.specs.Prelude.{◌≡◌, ◌≢◌, ◌≤◌, ◌<◌, ◌+◌, ℕ, List, [], length, take, Option, Some, None, slice_get}
use Rattle.program_image.specs.Program.{Program}
use Rattle.machine_state.specs.declared.state.Choice.{Choice}
use Rattle.machine_state.specs.declared.state.End.TheVariants as end
use Rattle.machine_state.specs.Runs.{end_of}
use Rattle.machine_state.specs.State.{State}
use Rattle.machine_state.specs.Step.{step}
use Rattle.one_machine.specs.Ready.{Machine}
use Rattle.scheduler.specs.Running.{LeadsOn}
use Rattle.order_replay.specs.declared.replay.Ending.{Ending}
use Rattle.order_replay.specs.declared.replay.Ending.TheVariants as ending

-- a machine, and how many steps of an order it took
pub record Replay : Type 0 where
  pub machine : Machine
  pub taken : ℕ

-- the steps of the order after those that were taken lead from one to the other
pub record TakesOn (p : Program) (order : List Choice) (a b : Replay) : Type 0 where
  pub later : a.taken ≤ b.taken
  pub few : b.taken ≤ length order
  pub leads : LeadsOn p a.machine.state (take a.taken order) (take b.taken order) b.machine.state

-- how the state after all steps of an order stands
abbrev pub StandsAs : Program → State → Ending → Type 0
StandsAs p m ending.Done = (end_of p m ≡ end.AllEnded) × (m.uncaught ≡ [])
StandsAs p m ending.Uncaught = (end_of p m ≡ end.AllEnded) × (m.uncaught ≢ [])
StandsAs p m ending.Deadlock = end_of p m ≡ end.Dead
StandsAs p m ending.Early = end_of p m ≡ end.Going
StandsAs p m (ending.NotEnabled k) = ⊥

-- the next choice, of this number counted from 1, is no step
pub record IsRefused (p : Program) (order : List Choice) (r : Replay) (k : ℕ) : Type 0 where
  pub number : k ≡ r.taken + 1
  pub choice : Choice
  pub next : slice_get order r.taken ≡ Some choice
  pub refused : step p r.machine.state choice ≡ None

-- how a replay ended: at a choice that is no step, or after all steps
abbrev pub IsEnding : Program → List Choice → Replay → Ending → Type 0
IsEnding p order r (ending.NotEnabled k) = IsRefused p order r k
IsEnding p order r e = (r.taken ≡ length order) × StandsAs p r.machine.state e

-- what came of some steps: the end; or there is no end yet, and steps were taken
abbrev pub IsTaken : Program → List Choice → Replay → Replay → Option Ending → Type 0
IsTaken p order a b None = a.taken < b.taken
IsTaken p order a b (Some e) = IsEnding p order b e
