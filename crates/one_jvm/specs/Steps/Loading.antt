-- What reading files and accepting them answers.
use Rattle.std.specs.Prelude.{◌≡◌, ◌⊎◌, ℕ, ◌≤◌, Bool, false, List, [], length, take, slice_get, Vec, Option, Some, None, Result, Ok, Err}
use Rattle.acceptance.specs.Accepted as accepting
use Rattle.cjvm_io.specs.Faults.{Rose}
use Rattle.cjvm_io.specs.Shelves.{Files, bytes_under}
use Rattle.class_format.specs.declared.class.ClassFile.{ClassFile}
use Rattle.class_file.specs.Refused.{IsRefused}
use Rattle.class_link.specs.Linked.{linked}
use Rattle.class_link.specs.Refusals.{link_refusals}
use Rattle.command_words.specs.declared.words.Command.{Command}
use Rattle.command_words.specs.declared.words.Command.TheVariants.{Run, Check, Replay}
use Rattle.program_image.specs.Program.{Program}
use Rattle.one_jvm.specs.declared.loading.Loaded.{Loaded}
use Rattle.one_jvm.specs.declared.loading.Refused.{Refused}
use Rattle.one_jvm.specs.declared.loading.Task.{Task}
use Rattle.one_jvm.specs.declared.loading.Task.TheVariants as task
use Rattle.one_jvm.specs.declared.outcome.Refusal.{Refusal}
use Rattle.one_jvm.specs.declared.outcome.Refusal.TheVariants.{File, Link, Flow, NoFile, ReadFault, TooLong, NoMemory}
use Rattle.one_jvm.specs.Replays.{Replayed}
use Rattle.one_jvm.specs.Words.{Asked}
use Rattle.one_jvm.specs.Verdicts.{limit_of, IsMissing, IsLong, IsRefusedFile, IsClassFile, AreRead, StopsAt, main_of, AreRefused, AreUntyped, IsProgram, IsReplayed, AreUnder}
use Rattle.one_jvm.specs.Answers.{IsAny, IsAccepted, IsToldText}
use Rattle.one_jvm.specs.Outcomes.{told_text, accepted_text}

-- ---- one file

-- what there is under a name: that which the shelf tells, or anything where it tells nothing
abbrev pub IsUnder : Option Files → List ℕ → Option (List ℕ) → Type 0
IsUnder None name content = Unit {0}
IsUnder (Some fs) name content = content ≡ bytes_under fs name

-- what there is under the name has P
pub record IsFound (told : Option Files) (name : List ℕ) (P : Option (List ℕ) → Type 0)
    : Type 0 where
  pub content : Option (List ℕ)
  pub under : IsUnder told name content
  pub such : P content

-- the file of this class
abbrev pub IsRead : ClassFile → Option (List ℕ) → Type 0
IsRead class content = IsClassFile content class

-- the file is one that may be an order's, or not, with these bytes
pub record HasBytes (order : Bool) (bytes : List ℕ) (content : Option (List ℕ)) : Type 0 where
  pub has : content ≡ Some bytes
  pub short : length bytes ≤ limit_of order

-- the bytes of the file at a place are refused
abbrev pub RefusesBytes : ℕ → List ℕ → Refusal → Type 0
RefusesBytes place bytes (File k why) = (k ≡ place) × IsRefused bytes why
RefusesBytes place bytes NoMemory = Unit {0}
RefusesBytes place bytes _ = ⊥

-- what there is at a place is refused
abbrev pub RefusesFile : ℕ → Bool → Refusal → Option (List ℕ) → Type 0
RefusesFile place order (NoFile k) content = (k ≡ place) × IsMissing order content
RefusesFile place order (TooLong k) content = (k ≡ place) × IsLong order content
RefusesFile place order (File k why) content = (k ≡ place) × IsRefusedFile why order content
RefusesFile place order _ content = ⊥

-- the read at a place failed, or memory ran out
abbrev pub FailsAt : ℕ → ℕ → ℕ → Refusal → Type 0
FailsAt place before now (ReadFault k) = (k ≡ place) × Rose before now
FailsAt place before now NoMemory = Unit {0}
FailsAt place before now _ = ⊥

-- why reading the file of a name, at a place, answers an error
abbrev pub FailsFile : Option Files → List ℕ → Bool → ℕ → ℕ → ℕ → Refusal → Type 0
FailsFile told name order place before now e =
    IsFound told name (RefusesFile place order e) ⊎ FailsAt place before now e

-- what reading its bytes answers
abbrev pub ReadsBytes : {A : Type 0} → Option Files → List ℕ → Bool → ℕ → ℕ → ℕ
    → Result (Vec ℕ A) Refusal → Type 0
ReadsBytes told name order place before now (Ok bytes) =
    IsFound told name (HasBytes order bytes.items)
ReadsBytes told name order place before now (Err e) =
    FailsFile told name order place before now e

-- what reading it as a class file answers
abbrev pub ReadsFile : Option Files → List ℕ → ℕ → ℕ → ℕ → Result ClassFile Refusal → Type 0
ReadsFile told name place before now (Ok class) = IsFound told name (IsRead class)
ReadsFile told name place before now (Err e) = FailsFile told name false place before now e

-- ---- all files

-- the place of the first class file
abbrev pub first_place : Command → ℕ
first_place Replay = 1
first_place command = 0

-- the first file of a replay has this text
abbrev pub HasText : Command → List ℕ → List (Option (List ℕ)) → Type 0
HasText Replay text contents = slice_get contents 0 ≡ Some (Some text)
HasText command text contents = Unit {0}

-- what there is under the names has P
pub record AreFound (told : Option Files) (names : List (List ℕ))
    (P : List (Option (List ℕ)) → Type 0) : Type 0 where
  pub contents : List (Option (List ℕ))
  pub under : AreUnder told names contents
  pub such : P contents

-- they are the files that a command wants, with this text of an order and these classes
pub record AreLoaded (command : Command) (text : List ℕ) (classes : List ClassFile)
    (contents : List (Option (List ℕ))) : Type 0 where
  pub are : AreRead command contents classes
  pub has : HasText command text contents

-- one of them is refused, behind files that are read
abbrev pub RefusesFiles : Refusal → Command → List (Option (List ℕ)) → Type 0
RefusesFiles (NoFile k) command contents = StopsAt IsMissing command k contents
RefusesFiles (TooLong k) command contents = StopsAt IsLong command k contents
RefusesFiles (File k why) command contents = StopsAt (IsRefusedFile why) command k contents
RefusesFiles _ command contents = ⊥

-- a read failed, or memory ran out
abbrev pub LoadFails : Option Files → Asked → ℕ → ℕ → Refusal → Type 0
LoadFails told asked before now (ReadFault k) =
    Rose before now × AreFound told asked.files (StopsAt IsAny asked.command k)
LoadFails told asked before now NoMemory = Unit {0}
LoadFails told asked before now _ = ⊥

-- why loading files answers an error
abbrev pub FailsLoad : Option Files → Asked → ℕ → ℕ → Refusal → Type 0
FailsLoad told asked before now e =
    AreFound told asked.files (RefusesFiles e asked.command) ⊎ LoadFails told asked before now e

-- the first names are those of files that are read
abbrev pub HasLoaded : Option Files → Asked → ℕ → List ℕ → List ClassFile → Type 0
HasLoaded told asked k text classes =
    AreFound told (take k asked.files) (AreLoaded asked.command text classes)

-- what reading the order of a replay answers
abbrev pub ReadsOrder : {A : Type 0} → Option Files → Asked → ℕ → ℕ → Result (Vec ℕ A) Refusal
    → Type 0
ReadsOrder told asked before now (Ok text) =
    HasLoaded told asked (first_place asked.command) text.items []
ReadsOrder told asked before now (Err e) = FailsLoad told asked before now e

-- what holds of the shelf's files where loading them answers so
abbrev pub Loads : Option Files → Asked → ℕ → ℕ → Result Loaded Refusal → Type 0
Loads told asked before now (Ok l) =
    AreFound told asked.files (AreLoaded asked.command l.text.items l.classes)
Loads told asked before now (Err e) = FailsLoad told asked before now e

-- ---- the program

-- the classes are accepted with the main class of the call, and linked to this
pub record IsFine (asked : Asked) (classes : List ClassFile) (p : Program) : Type 0 where
  pub is : p ≡ linked classes (main_of asked.main classes)
  pub accepted : accepting.AreAccepted classes (main_of asked.main classes)

-- they aren't, or memory ran out
abbrev pub IsUnfit : Asked → List ClassFile → Refusal → Type 0
IsUnfit asked classes (Link e) =
    slice_get (link_refusals classes (main_of asked.main classes)) 0 ≡ Some e
IsUnfit asked classes (Flow e) = accepting.AreUntyped e classes (main_of asked.main classes)
IsUnfit asked classes NoMemory = Unit {0}
IsUnfit asked classes _ = ⊥

-- the task of accepted classes and of the text of an order: to run their program, to take the order
-- again, or to say that they are accepted
abbrev pub IsTask : Asked → List ℕ → List ClassFile → Program → Task → Type 0
IsTask asked text classes p (task.Run q) = (asked.command ≡ Run) × (q ≡ p)
IsTask asked text classes p (task.Replay q order) =
    (asked.command ≡ Replay) × (q ≡ p) × (order.items ≡ text)
IsTask asked text classes p (task.Tell line) =
    (asked.command ≡ Check) × (line.items ≡ accepted_text classes)

-- the classes are accepted, with this task
abbrev pub IsSet : Asked → List ℕ → List ClassFile → Task → Type 0
IsSet asked text classes t = (p : Program) × IsFine asked classes p × IsTask asked text classes p t

-- what is replayed, as the words ask for it
abbrev pub replay_of : Program → Asked → List ℕ → Replayed
replay_of p asked text = record { program = p; args = asked.args; text = text }

-- what is to be done with the files
abbrev pub IsTaskOf : Task → Asked → List (Option (List ℕ)) → Type 0
IsTaskOf (task.Run p) asked contents = IsProgram Run p asked contents
IsTaskOf (task.Replay p text) asked contents =
    IsReplayed (replay_of p asked text.items) asked contents
IsTaskOf (task.Tell line) asked contents = IsAccepted line.items asked contents

-- the files' program is refused
abbrev pub RefusesProgram : Refusal → Asked → List (Option (List ℕ)) → Type 0
RefusesProgram (Link e) asked contents = AreRefused e asked contents
RefusesProgram (Flow e) asked contents = AreUntyped e asked contents
RefusesProgram e asked contents = RefusesFiles e asked.command contents

-- what a refusal of some classes tells
abbrev pub IsTextOf : List ClassFile → Refusal → List ℕ → Type 0
IsTextOf classes (Link e) text = text ≡ told_text classes (Link e)
IsTextOf classes (Flow e) text = text ≡ told_text classes (Flow e)
IsTextOf classes _ text = Unit {0}

-- a refusal of some classes with what it tells, or want of memory
abbrev pub IsTold : List ClassFile → Refusal → Refused → Type 0
IsTold classes e r =
    ((r.refusal ≡ e) × IsTextOf classes e r.text.items) ⊎ (r.refusal ≡ NoMemory)

-- what a refusal of the files tells
abbrev pub HasToldText : Option Files → Asked → Refusal → List ℕ → Type 0
HasToldText told asked (Link e) text = AreFound told asked.files (IsToldText (Link e) text asked)
HasToldText told asked (Flow e) text = AreFound told asked.files (IsToldText (Flow e) text asked)
HasToldText told asked _ text = Unit {0}

-- the files have no task, and why
pub record HasNoProgram (told : Option Files) (asked : Asked) (before now : ℕ) (e : Refusal)
    (text : List ℕ) : Type 0 where
  pub cause : AreFound told asked.files (RefusesProgram e asked)
      ⊎ LoadFails told asked before now e
  pub tells : HasToldText told asked e text

-- what holds of the shelf's files where finding their task answers so
abbrev pub Programs : Option Files → Asked → ℕ → ℕ → Result Task Refused → Type 0
Programs told asked before now (Ok t) = AreFound told asked.files (IsTaskOf t asked)
Programs told asked before now (Err r) =
    HasNoProgram told asked before now r.refusal r.text.items
