-- Runs, and how they end.
use Rattle.std.specs.Prelude.{◌≡◌, ◌≢◌, ◌≤◌, ◌<◌, ℕ, Bool, true, false, ◌&&◌, not, nat_le, List, [], ◌++◌, length, take, Option, Some, None, slice_get}
use Rattle.std.specs.List.{list_any}
use Rattle.program_image.specs.Program.{Program}
use Rattle.machine_state.specs.declared.state.Choice.{Choice}
use Rattle.machine_state.specs.declared.state.End.TheVariants.{AllEnded, Dead}
use Rattle.machine_state.specs.declared.state.ThreadState.{ThreadState}
use Rattle.machine_state.specs.Runs.{run, end_of}
use Rattle.machine_state.specs.State.{State, is_ended}
use Rattle.machine_state.specs.Step.{Taken, attempt}
use Rattle.one_machine.specs.Going.{is_start}
use Rattle.one_machine.specs.Ready.{Machine, IsReady}
use Rattle.scheduler.specs.declared.run.Stop.{Stop}
use Rattle.scheduler.specs.declared.run.Stop.TheVariants as stop

-- a run so far: its machine, the order of its steps, how many bytes those printed, and how many
-- steps each thread may take
pub record Run : Type 0 where
  pub machine : Machine
  pub order : List Choice
  pub printed : ℕ
  pub limit : ℕ

-- no thread has more steps than it may take
abbrev pub AreWithin : ℕ → State → Type 0
AreWithin limit m = (t : ℕ) (th : ThreadState) → slice_get m.threads t ≡ Some th → th.steps ≤ limit

-- so many threads there may be
abbrev pub max_threads : ℕ
max_threads = 64

-- a run that can go on
pub record IsRun (p : Program) (r : Run) : Type 0 where
  pub ready : IsReady p r.machine
  pub within : AreWithin r.limit r.machine.state
  pub few : length r.machine.state.threads ≤ max_threads
  pub printed : r.printed ≡ length r.machine.state.output

-- further steps lead from one state to another
pub record LeadsOn (p : Program) (from : State) (before after : List Choice) (to : State) : Type 0
  where
    pub more : List Choice
    pub order : after ≡ before ++ more
    pub leads : run p from more ≡ Some to

-- further steps are legal. The machine may have taken more, but what they printed is told apart
pub record GoesOn (p : Program) (from : State) (before : List Choice) (r : Run) : Type 0 where
  pub last : State
  pub leads : LeadsOn p from before r.order last
  pub printed : take r.printed r.machine.state.output ≡ last.output

-- a thread that hasn't ended and has taken as many steps as it may
abbrev pub at_limit : ℕ → Option ThreadState → Bool
at_limit limit None = false
at_limit limit (Some th) = not (is_ended th.mode) && nat_le limit th.steps

-- the one of this number
abbrev pub IsAtLimit : ℕ → State → ℕ → Type 0
IsAtLimit limit m t = at_limit limit (slice_get m.threads t) ≡ true

-- a thread's next step would start one thread more than there may be
pub record IsFull (p : Program) (m : State) (t : ℕ) : Type 0 where
  pub many : max_threads ≤ length m.threads
  pub choice : Choice
  pub of_thread : choice.thread ≡ t
  pub thread : ThreadState
  pub is_thread : slice_get m.threads t ≡ Some thread
  pub taken : Taken
  pub is_taken : attempt p m choice thread ≡ Some taken
  pub starts : list_any is_start taken.deed.changes ≡ true

-- why a run ends in a state
abbrev pub IsStop : Program → ℕ → State → Stop → Type 0
IsStop p limit m stop.Done = (end_of p m ≡ AllEnded) × (m.uncaught ≡ [])
IsStop p limit m stop.Uncaught = (end_of p m ≡ AllEnded) × (m.uncaught ≢ [])
IsStop p limit m (stop.StepLimit t) = IsAtLimit limit m t
IsStop p limit m stop.Deadlock =
    (end_of p m ≡ Dead) × ((t : ℕ) → at_limit limit (slice_get m.threads t) ≡ false)
IsStop p limit m (stop.ThreadsFull t) = IsFull p m t

-- what came of some steps: the end, for that reason; or there is no end yet, and steps were taken
abbrev pub IsTurn : Program → ℕ → List Choice → Run → Option Stop → Type 0
IsTurn p limit before r None = length before < length r.order
IsTurn p limit before r (Some s) = IsStop p limit r.machine.state s
