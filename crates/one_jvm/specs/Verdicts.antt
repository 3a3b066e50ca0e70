-- What a call comes to, by its words and the files, where no fault strikes and memory lasts.
use Rattle.std.specs.Prelude.{◌≡◌, ◌⊎◌, ℕ, ◌<◌, ◌≤◌, ◌==◌, Bool, true, false, if◌then◌else◌, List, [], ◌∷◌, length, take, map, slice_get, Option, Some, None}
use Rattle.std.specs.Char.Escape.{encode_utf16}
use Rattle.std.specs.List.{flat_map}
use Rattle.std.specs.Str.{chars}
use Rattle.jvm_base.specs.Words.{from}
use Rattle.cjvm_io.specs.Shelves.{Files, bytes_under}
use Rattle.class_format.specs.declared.class.ClassFile.{ClassFile}
use Rattle.class_format.specs.Meaning.{Spells}
use Rattle.class_file.specs.declared.error.ClassErr.{ClassErr}
use Rattle.class_file.specs.Refused.{IsRefused}
use Rattle.class_names.specs.Classes.{this_name}
use Rattle.link_rules.specs.declared.error.LinkErr.{LinkErr}
use Rattle.class_link.specs.Linked.{linked}
use Rattle.class_link.specs.Refusals.{link_refusals}
use Rattle.flow_verifier.specs.declared.answer.FlowErr.{FlowErr}
use Rattle.acceptance.specs.Accepted as accepting
use Rattle.program_image.specs.Program.{Program}
use Rattle.command_words.specs.declared.words.Command.{Command}
use Rattle.command_words.specs.declared.words.Command.TheVariants.{Run, Check, Replay}
use Rattle.one_jvm.specs.declared.outcome.Stop.{Stop}
use Rattle.one_jvm.specs.declared.outcome.Refusal.{Refusal}
use Rattle.one_jvm.specs.declared.outcome.Refusal.TheVariants.{Usage, File, Link, Flow, NoFile, ReadFault, WriteFault, TooLong, NoMemory, BadOrder, NotEnabled, EarlyOrder}
use Rattle.one_jvm.specs.Replays.{Replayed, IsBadOrder, IsNotEnabled, IsEarly, EndsAs}
use Rattle.one_jvm.specs.Words.{Asked, IsCall, IsNoCall}

-- ---- which files there are

-- the file at this place is that of an order
abbrev pub is_order : Command → ℕ → Bool
is_order Replay k = k == 0
is_order command k = false

-- so many bytes an order's file may have
abbrev pub order_limit : ℕ
order_limit = 67108864

-- and so many a class file
abbrev pub class_limit : ℕ
class_limit = 1048576

-- by whether it is an order's
abbrev pub limit_of : Bool → ℕ
limit_of true = order_limit
limit_of false = class_limit

-- ---- what there is under a name: bytes, or no file

-- no file
abbrev pub IsMissing : Bool → Option (List ℕ) → Type 0
IsMissing order content = content ≡ None

-- more bytes than the file may have
pub record IsLong (order : Bool) (content : Option (List ℕ)) : Type 0 where
  pub bytes : List ℕ
  pub has : content ≡ Some bytes
  pub long : limit_of order < length bytes

-- no class file where one is wanted, with its refusal
pub record IsRefusedFile (why : ClassErr) (order : Bool) (content : Option (List ℕ)) : Type 0 where
  pub wanted : order ≡ false
  pub bytes : List ℕ
  pub has : content ≡ Some bytes
  pub short : length bytes ≤ class_limit
  pub refused : IsRefused bytes why

-- the file of this class
pub record IsClassFile (content : Option (List ℕ)) (class : ClassFile) : Type 0 where
  pub bytes : List ℕ
  pub has : content ≡ Some bytes
  pub short : length bytes ≤ class_limit
  pub spells : Spells class bytes

-- a file that may be an order's
pub record IsOrderFile (content : Option (List ℕ)) : Type 0 where
  pub bytes : List ℕ
  pub has : content ≡ Some bytes
  pub short : length bytes ≤ order_limit

-- ---- what there is under the names of a call, in their order

-- the files of these classes, one by one
abbrev pub AreClassFiles : List (Option (List ℕ)) → List ClassFile → Type 0
AreClassFiles [] [] = Unit {0}
AreClassFiles [] (class ∷ classes) = ⊥
AreClassFiles (content ∷ contents) [] = ⊥
AreClassFiles (content ∷ contents) (class ∷ classes) =
    IsClassFile content class × AreClassFiles contents classes

-- the same, behind the file of an order
abbrev pub AreBehindOrder : List (Option (List ℕ)) → List ClassFile → Type 0
AreBehindOrder [] [] = Unit {0}
AreBehindOrder [] (class ∷ classes) = ⊥
AreBehindOrder (content ∷ contents) classes = IsOrderFile content × AreClassFiles contents classes

-- the files that a command wants, or the first ones of them, with these classes
abbrev pub AreRead : Command → List (Option (List ℕ)) → List ClassFile → Type 0
AreRead Replay contents classes = AreBehindOrder contents classes
AreRead command contents classes = AreClassFiles contents classes

-- reading stops at the place k: what is there has P, which knows whether it is an order's, and what is
-- before it is read
pub record StopsAt (P : Bool → Option (List ℕ) → Type 0) (command : Command) (k : ℕ)
    (contents : List (Option (List ℕ))) : Type 0 where
  pub content : Option (List ℕ)
  pub at : slice_get contents k ≡ Some content
  pub such : P (is_order command k) content
  pub classes : List ClassFile
  pub before : AreRead command (take k contents) classes

-- ---- the program of class files

-- a `.` in the name of a class stands for `/`
abbrev pub slashed : ℕ → ℕ
slashed c = if c == 46 then 47 else c

-- a word as the name of a class: each character is one or two units
abbrev pub class_word : List ℕ → List ℕ
class_word word = flat_map (λ c. encode_utf16 (slashed c)) (chars word)

-- the name of the main class: the given one, or that of the first class
abbrev pub main_of : Option (List ℕ) → List ClassFile → List ℕ
main_of None classes = from [] this_name (slice_get classes 0)
main_of (Some word) classes = class_word word

-- class files that are accepted: they are linked, and each method with code has a typing
pub record AreAccepted (asked : Asked) (contents : List (Option (List ℕ))) : Type 0 where
  pub classes : List ClassFile
  pub are : AreRead asked.command contents classes
  pub accepted : accepting.AreAccepted classes (main_of asked.main classes)

-- class files that aren't linked, and the first refusal that they have
pub record AreRefused (e : LinkErr) (asked : Asked) (contents : List (Option (List ℕ)))
    : Type 0 where
  pub classes : List ClassFile
  pub are : AreRead asked.command contents classes
  pub first : slice_get (link_refusals classes (main_of asked.main classes)) 0 ≡ Some e

-- class files that are linked, with a method that has no typing; the first such one, and the first
-- rule that it breaks
pub record AreUntyped (e : FlowErr) (asked : Asked) (contents : List (Option (List ℕ)))
    : Type 0 where
  pub classes : List ClassFile
  pub are : AreRead asked.command contents classes
  pub untyped : accepting.AreUntyped e classes (main_of asked.main classes)

-- accepted files of this command, and what they are linked to
pub record IsProgram (command : Command) (p : Program) (asked : Asked)
    (contents : List (Option (List ℕ))) : Type 0 where
  pub asks : asked.command ≡ command
  pub accepted : AreAccepted asked contents
  pub is : p ≡ linked accepted.classes (main_of asked.main accepted.classes)

-- accepted files that are to be checked alone
pub record IsChecked (asked : Asked) (contents : List (Option (List ℕ))) : Type 0 where
  pub check : asked.command ≡ Check
  pub accepted : AreAccepted asked contents

-- accepted files whose program is to take an order again, and the order's text
pub record IsReplayed (r : Replayed) (asked : Asked) (contents : List (Option (List ℕ)))
    : Type 0 where
  pub program : IsProgram Replay r.program asked contents
  pub args : r.args ≡ asked.args
  pub text : slice_get contents 0 ≡ Some (Some r.text)

-- what they replay has P
pub record Replays (P : Replayed → Type 0) (asked : Asked) (contents : List (Option (List ℕ)))
    : Type 0 where
  pub replayed : Replayed
  pub is : IsReplayed replayed asked contents
  pub such : P replayed

-- ---- what the files are to the words

-- what there is under the names: that which the shelf tells, or anything where it tells nothing
abbrev pub AreUnder : Option Files → List (List ℕ) → List (Option (List ℕ)) → Type 0
AreUnder None names contents = length contents ≡ length names
AreUnder (Some fs) names contents = contents ≡ map (bytes_under fs) names

-- the words are a command's, and what there is under its files' names has P, for what is asked
pub record Names (told : Option Files) (words : List (List ℕ))
    (P : Asked → List (Option (List ℕ)) → Type 0) : Type 0 where
  pub asked : Asked
  pub is_call : IsCall words asked
  pub contents : List (Option (List ℕ))
  pub under : AreUnder told asked.files contents
  pub such : P asked contents

-- of the words' files that at the place k stops the reading, for P
abbrev pub StopsFor : (Bool → Option (List ℕ) → Type 0) → ℕ → Option Files → List (List ℕ) → Type 0
StopsFor P k told words = Names told words (λ asked. StopsAt P asked.command k)

-- a file isn't there
abbrev pub LacksFile : Option Files → List (List ℕ) → Type 0
LacksFile told words = (k : ℕ) × StopsFor IsMissing k told words

-- a file is longer than it may be
abbrev pub HasLongFile : Option Files → List (List ℕ) → Type 0
HasLongFile told words = (k : ℕ) × StopsFor IsLong k told words

-- a file is no class file, whatever its refusal
abbrev pub HasRefusedFile : Option Files → List (List ℕ) → Type 0
HasRefusedFile told words =
    (k : ℕ) × (why : ClassErr) × StopsFor (IsRefusedFile why) k told words

-- the files aren't linked, whatever their first refusal
abbrev pub HasUnlinkedFiles : Option Files → List (List ℕ) → Type 0
HasUnlinkedFiles told words = (e : LinkErr) × Names told words (AreRefused e)

-- a method of the files has no typing, whatever rule it breaks
abbrev pub HasUntypedFiles : Option Files → List (List ℕ) → Type 0
HasUntypedFiles told words = (e : FlowErr) × Names told words (AreUntyped e)

-- reading, linking or verifying is refused
abbrev pub IsRefusedCall : Option Files → List (List ℕ) → Type 0
IsRefusedCall told words =
    HasRefusedFile told words ⊎ (HasUnlinkedFiles told words ⊎ HasUntypedFiles told words)

-- the files are to be run and are accepted, whatever their program
abbrev pub HasProgram : Option Files → List (List ℕ) → Type 0
HasProgram told words = (p : Program) × Names told words (IsProgram Run p)

-- the files are to be checked, and are accepted
abbrev pub HasCheckedFiles : Option Files → List (List ℕ) → Type 0
HasCheckedFiles told words = Names told words IsChecked

-- the files are to be replayed and are accepted, and their replay has P
abbrev pub HasReplay : (Replayed → Type 0) → Option Files → List (List ℕ) → Type 0
HasReplay P told words = Names told words (Replays P)

-- all choices of the order are enabled, and no step follows, however that ends
abbrev pub HasWholeReplay : Option Files → List (List ℕ) → Type 0
HasWholeReplay told words = (s : Stop) × HasReplay (EndsAs s) told words

-- the order is no order's text, or one of its choices isn't enabled
abbrev pub HasBadOrder : Option Files → List (List ℕ) → Type 0
HasBadOrder told words =
    ((line : ℕ) × HasReplay (IsBadOrder line) told words)
    ⊎ ((number : ℕ) × HasReplay (IsNotEnabled number) told words)

-- what was asked can be done
abbrev pub IsDoneCall : Option Files → List (List ℕ) → Type 0
IsDoneCall told words =
    HasProgram told words ⊎ (HasCheckedFiles told words ⊎ HasWholeReplay told words)

-- ---- the verdict

-- this is the verdict of the files and words: how the call is refused, or None where it isn't; there
-- is one at most (verdict_is_one)
abbrev pub IsVerdict : Option Files → List (List ℕ) → Option Refusal → Type 0
IsVerdict told words None = IsDoneCall told words
IsVerdict told words (Some Usage) = IsNoCall words
IsVerdict told words (Some (NoFile k)) = StopsFor IsMissing k told words
IsVerdict told words (Some (TooLong k)) = StopsFor IsLong k told words
IsVerdict told words (Some (File k why)) = StopsFor (IsRefusedFile why) k told words
IsVerdict told words (Some (Link e)) = Names told words (AreRefused e)
IsVerdict told words (Some (Flow e)) = Names told words (AreUntyped e)
IsVerdict told words (Some (BadOrder line)) = HasReplay (IsBadOrder line) told words
IsVerdict told words (Some (NotEnabled number)) = HasReplay (IsNotEnabled number) told words
IsVerdict told words (Some EarlyOrder) = HasReplay IsEarly told words
IsVerdict told words (Some (ReadFault k)) = ⊥
IsVerdict told words (Some WriteFault) = ⊥
IsVerdict told words (Some NoMemory) = ⊥
