-- What the words of a call say.
use Rattle.std.specs.Prelude.{ℕ, Bool, true, false, ◌&&◌, List, [], ◌∷◌, length, codes, Option, Some, None, unwrap_or, nat_le, if◌then◌else◌, nat_eq}
use Rattle.std.specs.Cmp.Lexicographic.{pointwise}
use Rattle.std.specs.Str.{chars}
use Rattle.clap.specs.Words.{Row, Text, Kinds, matches_of, fault_of, first_of, all_of}
use Rattle.command_words.specs.Apps.{app_for}
use Rattle.command_words.specs.Numbers.{steps_of}
use Rattle.command_words.specs.declared.words.Command.{Command}
use Rattle.command_words.specs.declared.words.Command.TheVariants.{Run, Check, Replay}

-- a command; the main class and the arguments of the program, where they are given; how many steps a
-- thread may take; whether the order is to be shown; and the names of files, of which the first one of
-- `replay` is that of an order
pub record Line : Type 0 where
  pub command : Command
  pub main : Option Text
  pub args : Option Text
  pub steps : ℕ
  pub shows : Bool
  pub files : List Text

-- the words are one
abbrev pub is_word : Text → Text → Bool
is_word a b = pointwise nat_eq a b

-- the command that a word names
abbrev pub command_of : Text → Option Command
command_of word =
    if is_word word (codes "run") then Some Run
    else (if is_word word (codes "check") then Some Check
    else (if is_word word (codes "replay") then Some Replay else None))

-- a command has 1 to 1,024 class files; `replay` has an order before them
abbrev pub is_count : Command → ℕ → Bool
is_count Replay n = nat_le 2 n && nat_le n 1025
is_count command n = nat_le 1 n && nat_le n 1024

-- the arguments have at most 1,048,576 characters together
abbrev pub are_short : Option Text → Bool
are_short None = true
are_short (Some text) = nat_le (length (chars text)) 1048576

-- whether the order is to be shown; `order` is all that can be
abbrev pub shows_of : Option Text → Option Bool
shows_of None = Some false
shows_of (Some text) = if is_word text (codes "order") then Some true else None

-- what is said, where the numbers are right
abbrev pub line_with : Command → List Row → List Text → Option ℕ → Option Bool → Option Line
line_with command rows files (Some steps) (Some shows) = Some (record {
  command = command;
  main = first_of (codes "main") rows;
  args = first_of (codes "args") rows;
  steps = steps;
  shows = shows;
  files = files;
})
line_with command rows files _ _ = None

-- where there are as many files as may be, too
abbrev pub line_of_files : Command → List Row → List Text → Option Line
line_of_files command rows files =
    if is_count command (length files) && are_short (first_of (codes "args") rows)
    then line_with command rows files (steps_of (first_of (codes "steps") rows))
    (shows_of (first_of (codes "show") rows))
    else None

-- what clap's matches say
abbrev pub line_in : Command → List Row → Option Line
line_in command rows = line_of_files command rows (unwrap_or (all_of (codes "FILE") rows) [])

-- where clap finds no fault
abbrev pub line_unless : Command → Kinds → List Row → Option Line
line_unless command [] rows = line_in command rows
line_unless command (k ∷ ks) rows = None

-- what the words behind the command say; nothing where they are none of its words
unfoldable pub line_for : Command → List Text → Option Line
line_for command words =
    line_unless command (fault_of (app_for command) words) (matches_of (app_for command) words)

-- behind the first word
abbrev pub line_behind : Option Command → List Text → Option Line
line_behind None words = None
line_behind (Some command) words = line_for command words

-- what the words of a call say; nothing where they are no call
abbrev pub line_of : List Text → Option Line
line_of [] = None
line_of (word ∷ words) = line_behind (command_of word) words
