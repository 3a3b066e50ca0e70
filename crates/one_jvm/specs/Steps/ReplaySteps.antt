-- A replay that is going on.
use Rattle.std.specs.Prelude.{◌≡◌, ◌⊎◌, ℕ, ◌+◌, ◌++◌, List, length, slice_get, Option, Some, None, Result, Ok, Err}
use Rattle.std.specs.Io.KnownBytes.{Appends}
use Rattle.cjvm_io.specs.Faults.{Rose}
use Rattle.cjvm_io.specs.Sinks.{Showing, GainsFront}
use Rattle.jvm_base.specs.declared.value.Uncaught.{Uncaught}
use Rattle.machine_state.specs.declared.state.Choice.{Choice}
use Rattle.machine_state.specs.Runs.{LeadsTo}
use Rattle.machine_state.specs.State.{State}
use Rattle.machine_state.specs.Step.{step}
use Rattle.one_machine.specs.Ready.{IsReady}
use Rattle.order_replay.specs.declared.replay.Ending.{Ending}
use Rattle.order_replay.specs.declared.replay.Ending.TheVariants as ending
use Rattle.order_replay.specs.Replaying.{IsTaken}
use Rattle.order_text.specs.Spelling.{IsOrderText}
use Rattle.program_image.specs.Program.{Program}
use Rattle.one_jvm.specs.declared.outcome.Stop.{Stop}
use Rattle.one_jvm.specs.declared.outcome.Stop.TheVariants as stop
use Rattle.one_jvm.specs.declared.outcome.Refusal.{Refusal}
use Rattle.one_jvm.specs.declared.outcome.Refusal.TheVariants.{BadOrder, NotEnabled, EarlyOrder, WriteFault, NoMemory}
use Rattle.one_jvm.specs.declared.running.Broken.{Broken}
use Rattle.one_jvm.specs.declared.running.Broken.TheVariants as broken
use Rattle.one_jvm.specs.declared.replaying.Takes.{Takes}
use Rattle.one_jvm.specs.Outcomes.{ending_text}
use Rattle.one_jvm.specs.Replays.{Replayed, Follows, IsBadOrder, IsGoing, StandsAs}

-- what is replayed: a program, the strings that its `main` is given, and an order
pub record Tape : Type 0 where
  pub program : Program
  pub args : List (List ℕ)
  pub order : List Choice

-- the tape of these three
abbrev pub tape : Program → List (List ℕ) → List Choice → Tape
tape p args order = record { program = p; args = args; order = order }

-- so many of its choices lead to this state
abbrev pub Leads : Tape → ℕ → State → Type 0
Leads t taken last = Follows t.program t.args t.order taken last

-- the first choices led to the machine, all of whose output was written
pub record IsTakesOf (t : Tape) (takes : Takes) : Type 0 where
  pub ready : IsReady t.program takes.replay.machine
  pub leads : Leads t takes.replay.taken takes.replay.machine.state
  pub written : takes.written ≡ length takes.replay.machine.state.output

-- choices were taken, and all that they printed was written
pub record Writes (t : Tape) (old new : Takes) (before now : Option (List ℕ)) : Type 0 where
  pub takes : IsTakesOf t new
  pub printed : List ℕ
  pub output : new.replay.machine.state.output ≡ old.replay.machine.state.output ++ printed
  pub gained : Appends before now printed

-- choices were taken, and so much of what they printed was written
pub record Breaks (Gains : Option (List ℕ) → Option (List ℕ) → List ℕ → Type 0) (t : Tape)
    (old : Takes) (before now : Option (List ℕ)) : Type 0 where
  pub taken : ℕ
  pub last : State
  pub leads : Leads t taken last
  pub printed : List ℕ
  pub output : last.output ≡ old.replay.machine.state.output ++ printed
  pub gained : Gains before now printed

-- what a turn of the loop leaves
abbrev pub Turned : Tape → Takes → Takes → Showing → Showing → Result (Option Ending) Broken
    → Type 0
Turned t old new before now (Ok o) =
    Writes t old new before.held now.held × IsTaken t.program t.order old.replay new.replay o
Turned t old new before now (Err broken.WriteFault) =
    Breaks GainsFront t old before.held now.held × Rose before.faults now.faults
Turned t old new before now (Err broken.NoMemory) = Breaks Appends t old before.held now.held

-- what came of steps: an end, none, or want of memory
abbrev pub ending_at : {E : Type 0} → Result (Option Ending) E → Result (Option Ending) Broken
ending_at (Ok o) = Ok o
ending_at (Err e) = Err broken.NoMemory

-- ---- what comes of a tape

-- all choices are enabled, the last state has P, and all output was written
pub record IsWholeTape (P : Program → State → Type 0) (t : Tape) (before now : Option (List ℕ))
    : Type 0 where
  pub last : State
  pub leads : LeadsTo t.program t.args t.order last
  pub such : P t.program last
  pub written : Appends before now last.output

-- the choice of this number isn't enabled, and all output up to it was written
pub record IsStuckTape (number : ℕ) (t : Tape) (before now : Option (List ℕ)) : Type 0 where
  pub taken : ℕ
  pub is : number ≡ taken + 1
  pub last : State
  pub leads : Leads t taken last
  pub choice : Choice
  pub next : slice_get t.order taken ≡ Some choice
  pub refused : step t.program last choice ≡ None
  pub written : Appends before now last.output

-- so much of the output was written
pub record IsPartTape (Gains : Option (List ℕ) → Option (List ℕ) → List ℕ → Type 0) (t : Tape)
    (before now : Option (List ℕ)) : Type 0 where
  pub taken : ℕ
  pub last : State
  pub leads : Leads t taken last
  pub written : Gains before now last.output

-- how its end is told
pub record TellsTape (s : Stop) (text : List ℕ) (p : Program) (last : State) : Type 0 where
  pub ended : StandsAs s p last
  pub is : text ≡ ending_text p s last.uncaught

-- where it isn't refused
abbrev pub IsEndedTape : Tape → Showing → Showing → Option Stop → List ℕ → Type 0
IsEndedTape t before now None text = ⊥
IsEndedTape t before now (Some s) text =
    IsWholeTape (TellsTape s text) t before.held now.held

-- what came of the tape, by how it was refused, or that it wasn't
abbrev pub TapeComesTo : Tape → Showing → Showing → Option Stop → Option Refusal → List ℕ → Type 0
TapeComesTo t before now end None text = IsEndedTape t before now end text
TapeComesTo t before now end (Some (NotEnabled k)) text =
    IsStuckTape k t before.held now.held
TapeComesTo t before now end (Some EarlyOrder) text = IsWholeTape IsGoing t before.held now.held
TapeComesTo t before now end (Some WriteFault) text =
    IsPartTape GainsFront t before.held now.held × Rose before.faults now.faults
TapeComesTo t before now end (Some NoMemory) text = IsPartTape Appends t before.held now.held
TapeComesTo t before now end (Some e) text = ⊥

-- what comes of it where the text of what is replayed is an order's
pub record ComesOf (r : Replayed) (before now : Showing) (end : Option Stop)
    (refusal : Option Refusal) (text : List ℕ) : Type 0 where
  pub order : List Choice
  pub spells : IsOrderText r.text order
  pub comes : TapeComesTo (tape r.program r.args order) before now end refusal text

-- what comes of it in any case
abbrev pub ReplayComesTo : Replayed → Showing → Showing → Option Stop → Option Refusal → List ℕ
    → Type 0
ReplayComesTo r before now end (Some (BadOrder line)) text = IsBadOrder line r × (now ≡ before)
ReplayComesTo r before now end (Some NoMemory) text =
    (now ≡ before) ⊎ ComesOf r before now end (Some NoMemory) text
ReplayComesTo r before now end refusal text = ComesOf r before now end refusal text

-- ---- the end of a tape

-- the text of its end, or memory ran out for that
abbrev pub IsEndTold : Program → List Uncaught → Stop → Option Stop → Option Refusal → List ℕ
    → Type 0
IsEndTold p uncaught s end refusal text =
    ((end ≡ Some s) × (refusal ≡ None) × (text ≡ ending_text p s uncaught))
    ⊎ (refusal ≡ Some NoMemory)

-- what is answered at the end of a tape
abbrev pub IsEndFor : Program → List Uncaught → Ending → Option Stop → Option Refusal → List ℕ
    → Type 0
IsEndFor p uncaught ending.Done end refusal text =
    IsEndTold p uncaught stop.Done end refusal text
IsEndFor p uncaught ending.Uncaught end refusal text =
    IsEndTold p uncaught stop.Uncaught end refusal text
IsEndFor p uncaught ending.Deadlock end refusal text =
    IsEndTold p uncaught stop.Deadlock end refusal text
IsEndFor p uncaught ending.Early end refusal text = refusal ≡ Some EarlyOrder
IsEndFor p uncaught (ending.NotEnabled k) end refusal text = refusal ≡ Some (NotEnabled k)

-- the refusal of a tape that a fault cut off
abbrev pub refusal_by : Broken → Refusal
refusal_by broken.WriteFault = WriteFault
refusal_by broken.NoMemory = NoMemory
