-- A run that is going on.
use Rattle.std.specs.Prelude.{◌≡◌, ℕ, ◌<◌, ◌++◌, List, [], length, Vec, IfOk, option_map, Option, Some, None, Result, Ok, Err}
use Rattle.std.specs.Io.KnownBytes.{Appends}
use Rattle.cjvm_io.specs.Faults.{Rose}
use Rattle.cjvm_io.specs.Sinks.{Showing, GainsFront}
use Rattle.machine_state.specs.declared.state.Choice.{Choice}
use Rattle.machine_state.specs.State.{State}
use Rattle.scheduler.specs.declared.run.Stop.{Stop as End}
use Rattle.scheduler.specs.declared.run.Stop.TheVariants as ends
use Rattle.scheduler.specs.Running.{IsRun}
use Rattle.one_jvm.specs.declared.outcome.Stop.{Stop}
use Rattle.one_jvm.specs.declared.outcome.Stop.TheVariants as stop
use Rattle.one_jvm.specs.declared.running.Broken.{Broken}
use Rattle.one_jvm.specs.declared.running.Broken.TheVariants.{WriteFault, NoMemory}
use Rattle.one_jvm.specs.declared.running.Turns.{Turns}
use Rattle.one_jvm.specs.declared.outcome.Refusal.{Refusal}
use Rattle.one_jvm.specs.declared.outcome.Refusal.TheVariants as refusal
use Rattle.one_jvm.specs.Answers.{TellsEnd, refusal_of}
use Rattle.one_jvm.specs.Runs.{Job, LeadsTo, IsEnd}

-- the order led to the machine, all of whose output was written
pub record IsRunOf (j : Job) (turns : Turns) : Type 0 where
  pub run : IsRun j.program turns.run
  pub limit : turns.run.limit ≡ j.steps
  pub leads : LeadsTo j turns.run.order turns.run.machine.state
  pub written : turns.written ≡ length turns.run.machine.state.output

-- steps were taken, and all that they printed was written
pub record Writes (j : Job) (old new : Turns) (before now : Option (List ℕ)) : Type 0 where
  pub run : IsRunOf j new
  pub printed : List ℕ
  pub output : new.run.machine.state.output ≡ old.run.machine.state.output ++ printed
  pub gained : Appends before now printed

-- the order grew, or the run is at this end
abbrev pub GoesTo : Job → Turns → Turns → Option Stop → Type 0
GoesTo j old new None = length old.run.order < length new.run.order
GoesTo j old new (Some stop) = IsEnd j new.run.machine.state stop

-- steps were taken, and so much of what they printed was written
pub record Breaks (Gains : Option (List ℕ) → Option (List ℕ) → List ℕ → Type 0) (j : Job)
    (old new : Turns) (before now : Option (List ℕ)) : Type 0 where
  pub last : State
  pub leads : LeadsTo j new.run.order last
  pub printed : List ℕ
  pub output : last.output ≡ old.run.machine.state.output ++ printed
  pub gained : Gains before now printed

-- what a turn of the loop leaves
abbrev pub Turned : Job → Turns → Turns → Showing → Showing → Result (Option Stop) Broken
    → Type 0
Turned j old new before now (Ok o) =
    Writes j old new before.held now.held × GoesTo j old new o
Turned j old new before now (Err WriteFault) =
    Breaks GainsFront j old new before.held now.held × Rose before.faults now.faults
Turned j old new before now (Err NoMemory) = Breaks Appends j old new before.held now.held

-- the end of a run in this crate's words
abbrev pub stop_of : End → Stop
stop_of ends.Done = stop.Done
stop_of ends.Uncaught = stop.Uncaught
stop_of (ends.StepLimit t) = stop.StepLimit t
stop_of ends.Deadlock = stop.Deadlock
stop_of (ends.ThreadsFull t) = stop.ThreadsFull t

-- what came of steps: an end in those words, none, or want of memory
abbrev pub stop_at : {E : Type 0} → Result (Option End) E → Result (Option Stop) Broken
stop_at (Ok o) = Ok (option_map stop_of o)
stop_at (Err e) = Err NoMemory

-- what a run that no fault cut off tells, unless memory ran out for it
abbrev pub TellsWhole : {A E : Type 0} → Job → List Choice → Stop → Result (Vec ℕ A) E → Type 0
TellsWhole j order stop.WriteFault text = Unit {0}
TellsWhole j order stop.NoMemory text = Unit {0}
TellsWhole j order s text = IfOk text (λ v. TellsEnd j order s v.items)

-- what was made, or nothing
abbrev pub text_made : {A E : Type 0} → Result (Vec ℕ A) E → List ℕ
text_made (Ok text) = text.items
text_made (Err e) = []

abbrev pub listing_made : {E : Type 0} → Result (List ℕ) E → List ℕ
listing_made (Ok listing) = listing
listing_made (Err e) = []

-- the refusal of a run that ended so, and for which both texts were made, or weren't
abbrev pub refusal_after : {A B E F : Type 0} → Stop → Result A E → Result B F → Option Refusal
refusal_after s (Ok text) (Ok listing) = refusal_of s
refusal_after s (Ok text) (Err e) = Some refusal.NoMemory
refusal_after s (Err e) listing = Some refusal.NoMemory
