-- The words of a call.
use Rattle.std.specs.Prelude.{◌≡◌, ℕ, ◌==◌, if◌then◌else◌, Bool, true, map, option_map, string_bytes, String, List, [], ◌∷◌, ◌++◌, Option, Some, None, slice_get}
use Rattle.std.specs.Char.Escape.{encode_utf16}
use Rattle.std.specs.Str.{chars}
use Rattle.jvm_base.specs.Words.{from}
use Rattle.command_words.specs.Lines.{Line, line_of}
use Rattle.command_words.specs.declared.words.Command.{Command}
use Rattle.command_words.specs.declared.words.Command.TheVariants.{Run, Check, Replay}

-- the words as texts
abbrev pub texts : {A : Type 0} → List (String A) → List (List ℕ)
texts words = map string_bytes words

-- units in front of the first string
abbrev pub with_front : List ℕ → List (List ℕ) → List (List ℕ)
with_front units [] = []
with_front units (s ∷ ss) = (units ++ s) ∷ ss

-- the strings of some characters, with a comma between one and the next; each other character is one
-- or two units
abbrev pub strings_of : List ℕ → List (List ℕ)
strings_of [] = [] ∷ []
strings_of (c ∷ cs) =
    if c == 44 then [] ∷ strings_of cs else with_front (encode_utf16 c) (strings_of cs)

-- the strings that a word gives to a program; none where there is no word
abbrev pub strings_in : Option (List ℕ) → List (List ℕ)
strings_in None = []
strings_in (Some text) = strings_of (chars text)

-- what the words ask for: what to do, the name of the main class, where they give it, the strings
-- for `main`, how many steps each thread may take, whether the order of the steps is to be shown, and
-- the files
pub record Asked : Type 0 where
  pub command : Command
  pub main : Option (List ℕ)
  pub args : List (List ℕ)
  pub steps : ℕ
  pub shows : Bool
  pub files : List (List ℕ)

-- what a line asks for
abbrev pub asked_in : Line → Asked
asked_in line = record {
  command = line.command;
  main = line.main;
  args = strings_in line.args;
  steps = line.steps;
  shows = line.shows;
  files = line.files;
}

-- what the words ask for, where they are a call
abbrev pub call_of : List (List ℕ) → Option Asked
call_of words = option_map asked_in (line_of words)

-- the words ask for this
abbrev pub IsCall : List (List ℕ) → Asked → Type 0
IsCall words asked = call_of words ≡ Some asked

-- the words are some command's
abbrev pub IsSomeCall : List (List ℕ) → Type 0
IsSomeCall words = (asked : Asked) × IsCall words asked

-- the words ask for this command
abbrev pub AskFor : Command → List (List ℕ) → Type 0
AskFor command words = (asked : Asked) × IsCall words asked × (asked.command ≡ command)

-- the words ask to run a program
abbrev pub IsRun : List (List ℕ) → Type 0
IsRun words = AskFor Run words

-- to check files
abbrev pub IsCheck : List (List ℕ) → Type 0
IsCheck words = AskFor Check words

-- to take an order again
abbrev pub IsReplay : List (List ℕ) → Type 0
IsReplay words = AskFor Replay words

-- the words ask to show the order of a run
abbrev pub ShowsOrder : List (List ℕ) → Type 0
ShowsOrder words = (asked : Asked) × IsCall words asked × (asked.shows ≡ true)

-- the words are no command
abbrev pub IsNoCall : List (List ℕ) → Type 0
IsNoCall words = (asked : Asked) → ¬ IsCall words asked

-- the name at a place; empty past the end
abbrev pub name_at : List (List ℕ) → ℕ → List ℕ
name_at names k = from [] (λ name. name) (slice_get names k)
