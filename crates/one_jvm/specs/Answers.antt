-- Why a call answers what it answers.
use Rattle.std.specs.Prelude.{◌≡◌, ◌≢◌, ◌⊎◌, ℕ, Bool, true, false, List, [], ◌∷◌, ◌++◌, Option, Some, None}
use Rattle.std.specs.Io.KnownBytes.{Appends}
use Rattle.cjvm_io.specs.Faults.{Rose}
use Rattle.cjvm_io.specs.Shelves.{Files}
use Rattle.cjvm_io.specs.Sinks.{Showing, GainsFront}
use Rattle.class_format.specs.declared.class.ClassFile.{ClassFile}
use Rattle.command_words.specs.declared.words.Command.TheVariants.{Run}
use Rattle.machine_state.specs.declared.state.Choice.{Choice}
use Rattle.machine_state.specs.Runs as runs
use Rattle.machine_state.specs.State.{State}
use Rattle.order_text.specs.Spelling.{IsOrderText, order_text}
use Rattle.one_jvm.specs.declared.outcome.Stop.{Stop}
use Rattle.one_jvm.specs.declared.outcome.Stop.TheVariants as stop
use Rattle.one_jvm.specs.declared.outcome.Refusal.{Refusal}
use Rattle.one_jvm.specs.declared.outcome.Refusal.TheVariants.{Link, Flow, ReadFault, WriteFault, NoMemory, NotEnabled, EarlyOrder}
use Rattle.one_jvm.specs.Words.{Asked, IsCall, IsSomeCall, IsRun, IsCheck, IsReplay, name_at}
use Rattle.one_jvm.specs.Verdicts.{AreRead, Names, StopsFor, IsProgram, IsChecked, HasReplay, IsVerdict}
use Rattle.one_jvm.specs.Outcomes.{place_of, told_text, accepted_text, ending_text, report, status_of, end_status}
use Rattle.one_jvm.specs.Replays.{Replayed, StandsAs, EndsAs, PrintsAll, PrintsPart}
use Rattle.one_jvm.specs.Runs.{Job, job_of, LeadsTo, IsEnd, RanTo}

-- ---- the cause of a refusal, apart from faults of standard error

-- how many reads and writes had failed before the call, and after it
pub record Faults : Type 0 where
  pub read_before : ℕ
  pub read_now : ℕ
  pub wrote_before : ℕ
  pub wrote_now : ℕ

-- these four numbers
abbrev pub the_faults : ℕ → ℕ → ℕ → ℕ → Faults
the_faults read_before read_now wrote_before wrote_now = record {
  read_before = read_before;
  read_now = read_now;
  wrote_before = wrote_before;
  wrote_now = wrote_now;
}

-- whatever there is
abbrev pub IsAny : Bool → Option (List ℕ) → Type 0
IsAny order content = Unit {0}

-- the read of a file failed, behind files that are read
pub record IsUnread (told : Option Files) (words : List (List ℕ)) (before now k : ℕ)
    : Type 0 where
  pub rose : Rose before now
  pub stops : StopsFor IsAny k told words

-- a fault of the shelf or of standard output, where the words are a command's, or want of memory,
-- which may come at any time
abbrev pub IsHindrance : Option Files → List (List ℕ) → Faults → Refusal → Type 0
IsHindrance told words faults (ReadFault k) =
    IsUnread told words faults.read_before faults.read_now k
IsHindrance told words faults WriteFault =
    IsSomeCall words × Rose faults.wrote_before faults.wrote_now
IsHindrance told words faults NoMemory = Unit {0}
IsHindrance told words faults e = ⊥

-- a hindrance kept the call from its verdict
pub record IsHindered (told : Option Files) (words : List (List ℕ)) (faults : Faults)
    (refusal : Option Refusal) : Type 0 where
  pub hindrance : Refusal
  pub strikes : IsHindrance told words faults hindrance
  pub shows : refusal ≡ Some hindrance

-- what holds where a call is refused so, or isn't refused
abbrev pub Because : List (List ℕ) → Option Files → Faults → Option Refusal → Type 0
Because words told faults refusal =
    IsVerdict told words refusal ⊎ IsHindered told words faults refusal

-- ---- the order, and what standard output gained

-- the files are to be checked and are accepted, and this is the line that says so
pub record IsAccepted (text : List ℕ) (asked : Asked) (contents : List (Option (List ℕ)))
    : Type 0 where
  pub checked : IsChecked asked contents
  pub classes : List ClassFile
  pub are : AreRead asked.command contents classes
  pub is : text ≡ accepted_text classes

-- some line says that the words' files are accepted, and the sink gained what G says of it
pub record Accepts (told : Option Files) (words : List (List ℕ)) (G : List ℕ → Type 0)
    : Type 0 where
  pub text : List ℕ
  pub files : Names told words (IsAccepted text)
  pub gained : G text

-- what a sink gained of a line, by how its writing ended
abbrev pub Says : List ℕ → Showing → Showing → Option Refusal → Type 0
Says line before now None = Appends before.held now.held line
Says line before now (Some e) =
    (e ≡ WriteFault) × Rose before.faults now.faults × GainsFront before.held now.held line

-- the words' files are replayed, and the sink gained what is printed until a choice isn't enabled
abbrev pub PrintedAll : List (List ℕ) → Option Files → Showing → Showing → Type 0
PrintedAll words told before now = HasReplay (PrintsAll before.held now.held) told words

-- it gained a front of what they print
abbrev pub PrintedFront : List (List ℕ) → Option Files → Showing → Showing → Type 0
PrintedFront words told before now =
    HasReplay (PrintsPart GainsFront before.held now.held) told words

-- or all of it
abbrev pub PrintedSome : List (List ℕ) → Option Files → Showing → Showing → Type 0
PrintedSome words told before now = HasReplay (PrintsPart Appends before.held now.held) told words

-- what standard output gained where no run was begun. Where nothing is refused that is the line of
-- accepted files, or all that a replay prints. A replay that stops at a choice, or ends early, printed
-- what it could. Where a write failed it is nothing, or a front of either; where memory ran out it is
-- nothing, or all that a replay's first choices print; it is nothing where anything else is refused
abbrev pub Wrote : List (List ℕ) → Option Files → Showing → Showing → Option Refusal → Type 0
Wrote words told before now None =
    Accepts told words (λ line. Says line before now None) ⊎ PrintedAll words told before now
Wrote words told before now (Some WriteFault) =
    (now ≡ before)
    ⊎ (Accepts told words (λ line. Says line before now (Some WriteFault))
    ⊎ PrintedFront words told before now)
Wrote words told before now (Some NoMemory) =
    (now ≡ before) ⊎ PrintedSome words told before now
Wrote words told before now (Some (NotEnabled number)) = PrintedAll words told before now
Wrote words told before now (Some EarlyOrder) = PrintedAll words told before now
Wrote words told before now (Some e) = now ≡ before

-- a refusal that comes before anything is written
abbrev pub ComesFirst : Option Refusal → Type 0
ComesFirst None = ⊥
ComesFirst (Some WriteFault) = ⊥
ComesFirst (Some NoMemory) = ⊥
ComesFirst (Some (NotEnabled number)) = ⊥
ComesFirst (Some EarlyOrder) = ⊥
ComesFirst (Some e) = Unit {0}

-- nothing is written: no run was begun, and the words ask for no more, or for a check whose files are
-- refused; or the refusal is one that comes first
abbrev pub IsUnwritten : List (List ℕ) → Option Stop → Option Refusal → Type 0
IsUnwritten words stop refusal =
    (stop ≡ None)
    × (ComesFirst refusal
    ⊎ (¬ IsReplay words × (¬ IsCheck words ⊎ ((refusal ≢ None) × (refusal ≢ Some WriteFault)))))

-- the program of accepted files, as the words ask to run it
pub record IsJob (j : Job) (asked : Asked) (contents : List (Option (List ℕ))) : Type 0 where
  pub program : IsProgram Run j.program asked contents
  pub is : j ≡ job_of j.program asked

-- where no run was begun the order is empty; where one was, it is one of the files' program
abbrev pub Ran : List (List ℕ) → Option Files → Showing → Showing → List Choice → Option Stop
    → Option Refusal → Type 0
Ran words told before now order None refusal = (order ≡ []) × Wrote words told before now refusal
Ran words told before now order (Some s) refusal =
    (j : Job) × Names told words (IsJob j) × RanTo j order before now s

-- a run is refused where a write of its output failed or memory ran out
abbrev pub refusal_of : Stop → Option Refusal
refusal_of stop.WriteFault = Some WriteFault
refusal_of stop.NoMemory = Some NoMemory
refusal_of _ = None

-- so it is refused; or memory ran out for what is told of it
abbrev pub IsRefusedRun : Stop → Option Refusal → Type 0
IsRefusedRun s refusal = (refusal ≡ refusal_of s) ⊎ (refusal ≡ Some NoMemory)

-- of words that ask to run files: a run was begun exactly where the files were read and are accepted,
-- want of memory aside; other words begin none
abbrev pub Agrees : List (List ℕ) → Option Stop → Option Refusal → Type 0
Agrees words (Some s) refusal = IsRun words × IsRefusedRun s refusal
Agrees words None refusal = ¬ IsRun words ⊎ ((refusal ≢ None) × (refusal ≢ Some WriteFault))

-- ---- standard error

-- it gained this text whole; or a write to it failed, and it gained a front of it
abbrev pub IsClosed : List ℕ → Option Refusal → Showing → Showing → Option Refusal → Type 0
IsClosed text plain before now refusal =
    ((refusal ≡ plain) × Appends before.held now.held text)
    ⊎ ((refusal ≡ Some WriteFault) × Rose before.faults now.faults
    × GainsFront before.held now.held text)

-- what a refusal tells of the class files
pub record IsToldText (e : Refusal) (text : List ℕ) (asked : Asked)
    (contents : List (Option (List ℕ))) : Type 0 where
  pub classes : List ClassFile
  pub are : AreRead asked.command contents classes
  pub is : text ≡ told_text classes e

-- the name of the file at the refusal's place
abbrev pub IsNamed : List (List ℕ) → Refusal → List ℕ → Type 0
IsNamed words e name =
    (asked : Asked) (k : ℕ) → IsCall words asked → place_of e ≡ Some k
    → name ≡ name_at asked.files k

-- the text tells of the order's end, and of what nothing caught until then
pub record TellsEnd (j : Job) (order : List Choice) (s : Stop) (text : List ℕ) : Type 0 where
  pub last : State
  pub leads : LeadsTo j order last
  pub is : text ≡ ending_text j.program s last.uncaught

-- the text tells of the end of a replay, and of what nothing caught until then
pub record TellsReplay (text : List ℕ) (r : Replayed) : Type 0 where
  pub stop : Stop
  pub order : List Choice
  pub is_order : IsOrderText r.text order
  pub last : State
  pub leads : runs.LeadsTo r.program r.args order last
  pub ended : StandsAs stop r.program last
  pub is : text ≡ ending_text r.program stop last.uncaught

-- what the end of a call that isn't refused tells: a check's nothing, a run's and a replay's that of
-- the files' program
abbrev pub IsEndText : Option Files → List (List ℕ) → List Choice → Option Stop → List ℕ
    → Type 0
IsEndText told words order None text =
    (IsCheck words × (text ≡ [])) ⊎ HasReplay (TellsReplay text) told words
IsEndText told words order (Some s) text =
    (j : Job) × Names told words (IsJob j) × TellsEnd j order s text

-- what the report of a call speaks of
abbrev pub IsSubject : Option Files → List (List ℕ) → List Choice → Option Stop → Option Refusal
    → List ℕ → Type 0
IsSubject told words order stop None subject = IsEndText told words order stop subject
IsSubject told words order stop (Some (Link e)) subject =
    Names told words (IsToldText (Link e) subject)
IsSubject told words order stop (Some (Flow e)) subject =
    Names told words (IsToldText (Flow e) subject)
IsSubject told words order stop (Some e) subject = IsNamed words e subject

-- the order's text where it is to be shown, want of memory for it aside
abbrev pub IsShownText : Bool → List Choice → Option Refusal → List ℕ → Type 0
IsShownText false order refusal shown = shown ≡ []
IsShownText true order refusal shown =
    (shown ≡ order_text order) ⊎ ((refusal ≡ Some NoMemory) × (shown ≡ []))

-- what a call shows of its order: nothing where no run was begun, and what the words ask for where one
-- was
abbrev pub IsShown : List (List ℕ) → List Choice → Option Stop → Option Refusal → List ℕ → Type 0
IsShown words order None refusal shown = shown ≡ []
IsShown words order (Some s) refusal shown =
    (asked : Asked) × IsCall words asked × IsShownText asked.shows order refusal shown

-- a refusal with this cause, in accord with the run, was reported, or the end of the run was; and then
-- the order was shown
pub record Reports (words : List (List ℕ)) (told : Option Files) (faults : Faults)
    (before now : Showing) (order : List Choice) (stop : Option Stop) (refusal : Option Refusal)
    : Type 0 where
  pub plain : Option Refusal
  pub subject : List ℕ
  pub shown : List ℕ
  pub cause : Because words told faults plain
  pub agrees : Agrees words stop plain
  pub spoken : IsSubject told words order stop plain subject
  pub showing : IsShown words order stop plain shown
  pub closed : IsClosed (report subject plain ++ shown) plain before now refusal

-- ---- statuses

-- the status is one of these
abbrev pub OneOf : List ℕ → ℕ → Type 0
OneOf [] status = ⊥
OneOf (k ∷ ks) status = (status ≡ k) ⊎ OneOf ks status

-- the statuses of a read fault, of a write fault and of want of memory
abbrev pub hindered : List ℕ
hindered = 5 ∷ 6 ∷ 20 ∷ []

-- the status comes only with this cause, and with the cause it comes, or one of these others
pub record Exactly (status k : ℕ) (others : List ℕ) (cause : Type 0) : Type 0 where
  pub only : status ≡ k → cause
  pub always : cause → OneOf (k ∷ others) status

-- the statuses of a call that isn't refused
abbrev pub ends : List ℕ
ends = 0 ∷ 1 ∷ 8 ∷ 9 ∷ 10 ∷ []

-- one of these statuses comes only with this cause, and with the cause one of them comes, or one of
-- these others
pub record ExactlyOneOf (status : ℕ) (ks others : List ℕ) (cause : Type 0) : Type 0 where
  pub only : OneOf ks status → cause
  pub always : cause → OneOf ks status ⊎ OneOf others status

-- the statuses of a write fault and of want of memory
abbrev pub broken : List ℕ
broken = 6 ∷ 20 ∷ []

-- the status comes with the end of the order, faults and want of memory aside: all threads have
-- ended, and nothing is uncaught or something is; none of those that haven't ended can take a step;
-- one has taken as many as it may; or one would start one thread more than there may be
pub record HasEndStatus (j : Job) (order : List Choice) (status : ℕ) : Type 0 where
  pub last : State
  pub leads : LeadsTo j order last
  pub done : Exactly status 0 broken (IsEnd j last stop.Done)
  pub uncaught : Exactly status 1 broken (IsEnd j last stop.Uncaught)
  pub deadlock : Exactly status 9 broken (IsEnd j last stop.Deadlock)
  pub step_limit : status ≡ 8 → (t : ℕ) × IsEnd j last (stop.StepLimit t)
  pub threads_full : status ≡ 10 → (t : ℕ) × IsEnd j last (stop.ThreadsFull t)

-- the status of a run is that of the end of its order
abbrev pub EndsRun : List (List ℕ) → Option Files → List Choice → Option Stop → ℕ → Type 0
EndsRun words told order None status = Unit {0}
EndsRun words told order (Some s) status =
    (j : Job) × Names told words (IsJob j) × HasEndStatus j order status

-- where the shelf tells its files
abbrev pub IfTold : Option Files → (Files → Type 0) → Type 0
IfTold told P = (fs : Files) → told ≡ Some fs → P fs

-- the status comes exactly with this cause among the files that are told, faults and want of memory
-- aside
abbrev pub Answers : Option Files → List (List ℕ) → ℕ → ℕ
    → (Option Files → List (List ℕ) → Type 0) → Type 0
Answers told words status k cause =
    IfTold told (λ fs. Exactly status k hindered (cause (Some fs) words))

-- one of these statuses comes exactly with this cause, in the same way
abbrev pub AnswersOneOf : Option Files → List (List ℕ) → ℕ → List ℕ
    → (Option Files → List (List ℕ) → Type 0) → Type 0
AnswersOneOf told words status ks cause =
    IfTold told (λ fs. ExactlyOneOf status ks hindered (cause (Some fs) words))

-- the status of a replay comes with its end: all threads have ended, and nothing is uncaught or
-- something is; or none of those that haven't ended can take a step. It is none of a run alone
pub record HasReplayStatus (told : Option Files) (words : List (List ℕ)) (status : ℕ) : Type 0 where
  pub done : Exactly status 0 hindered (HasReplay (EndsAs stop.Done) told words)
  pub uncaught : Exactly status 1 hindered (HasReplay (EndsAs stop.Uncaught) told words)
  pub deadlock : Exactly status 9 hindered (HasReplay (EndsAs stop.Deadlock) told words)
  pub unlimited : status ≢ 8
  pub unfilled : status ≢ 10

-- where the words are a replay's
abbrev pub EndsReplay : List (List ℕ) → Option Files → ℕ → Type 0
EndsReplay words told status =
    IsReplay words → IfTold told (λ fs. HasReplayStatus (Some fs) words status)

-- the status is that of the end of the run and of what was refused; of a replay only that of what was
-- refused
abbrev pub IsStatus : List (List ℕ) → Option Stop → Option Refusal → ℕ → Type 0
IsStatus words stop (Some e) status = status ≡ status_of (Some e)
IsStatus words stop None status = ¬ IsReplay words → status ≡ end_status stop
