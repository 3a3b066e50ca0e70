-- What a run of a program answers and writes.
use Rattle.std.specs.Prelude.{ℕ, List, Option}
use Rattle.std.specs.Io.KnownBytes.{Appends}
use Rattle.cjvm_io.specs.Faults.{Rose}
use Rattle.cjvm_io.specs.Sinks.{Showing, GainsFront}
use Rattle.machine_state.specs.declared.state.Choice.{Choice}
use Rattle.machine_state.specs.State.{State}
use Rattle.machine_state.specs.Runs as runs
use Rattle.machine_state.specs.Start.{start}
use Rattle.program_image.specs.Program.{Program}
use Rattle.scheduler.specs.declared.run.Stop.TheVariants as end
use Rattle.scheduler.specs.Running.{IsStop}
use Rattle.one_jvm.specs.declared.outcome.Stop.{Stop}
use Rattle.one_jvm.specs.declared.outcome.Stop.TheVariants.{Done, Uncaught, StepLimit, Deadlock, ThreadsFull, WriteFault, NoMemory}
use Rattle.one_jvm.specs.Words.{Asked}

-- what is run: a program, the strings that its `main` is given, and how many steps each of its
-- threads may take
pub record Job : Type 0 where
  pub program : Program
  pub args : List (List ℕ)
  pub steps : ℕ

-- the job of these three
abbrev pub job : Program → List (List ℕ) → ℕ → Job
job p args steps = record { program = p; args = args; steps = steps }

-- a program, as it is asked to be run
abbrev pub job_of : Program → Asked → Job
job_of p asked = job p asked.args asked.steps

-- where it begins
abbrev pub start_of : Job → State
start_of j = start j.program j.args

-- the order leads from there to this state
abbrev pub LeadsTo : Job → List Choice → State → Type 0
LeadsTo j order last = runs.LeadsTo j.program j.args order last

-- why a run ends in a state that no step follows
abbrev pub IsEnd : Job → State → Stop → Type 0
IsEnd j last Done = IsStop j.program j.steps last end.Done
IsEnd j last Uncaught = IsStop j.program j.steps last end.Uncaught
IsEnd j last (StepLimit t) = IsStop j.program j.steps last (end.StepLimit t)
IsEnd j last Deadlock = IsStop j.program j.steps last end.Deadlock
IsEnd j last (ThreadsFull t) = IsStop j.program j.steps last (end.ThreadsFull t)
IsEnd j last WriteFault = ⊥
IsEnd j last NoMemory = ⊥

-- the order is a legal one of the job, its run ends so, and the sink gained exactly its output
pub record IsWhole (j : Job) (order : List Choice) (stop : Stop)
    (before now : Option (List ℕ)) : Type 0 where
  pub last : State
  pub leads : LeadsTo j order last
  pub ended : IsEnd j last stop
  pub written : Appends before now last.output

-- the order is a legal one, and the sink gained so much of its output
pub record IsPart (Gains : Option (List ℕ) → Option (List ℕ) → List ℕ → Type 0) (j : Job)
    (order : List Choice) (before now : Option (List ℕ)) : Type 0 where
  pub last : State
  pub leads : LeadsTo j order last
  pub written : Gains before now last.output

-- what holds of the order and of the sink, by how the run ended: all output of the order's steps was
-- written, but where a write failed
abbrev pub RanTo : Job → List Choice → Showing → Showing → Stop → Type 0
RanTo j order before now WriteFault =
    IsPart GainsFront j order before.held now.held × Rose before.faults now.faults
RanTo j order before now NoMemory = IsPart Appends j order before.held now.held
RanTo j order before now stop = IsWhole j order stop before.held now.held
