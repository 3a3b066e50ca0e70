-- Words that are written out, and what they say.
use Rattle.std.proofs.Common.{◌≡◌, ℕ, Bool, true, false, List, [], ◌∷◌, Option, Some, None, codes, refl}
use Rattle.clap.specs.Words.{Text}
use Rattle.clap.proofs.OnLiterals.{clap_on_literals}
use Rattle.command_words.specs.declared.words.Command.{Command}
use Rattle.command_words.specs.declared.words.Command.TheVariants.{Run, Check, Replay}
use Rattle.command_words.specs.Lines.{Line, line_for, line_of}

-- a line with no arguments, which shows no order
abbrev says : Command → ℕ → Option Text → List Text → Option Line
says command steps main files = Some (record {
  command = command;
  main = main;
  args = None;
  steps = steps;
  shows = false;
  files = files;
})

-- one with all options
abbrev whole : Option Line
whole = Some (record {
  command = Run;
  main = Some (codes "a.B");
  args = Some (codes "1,-2");
  steps = 9;
  shows = true;
  files = codes "A.class" ∷ codes "-b.class" ∷ [];
})

all_options : line_of (codes "run" ∷ codes "--steps=9" ∷ codes "A.class" ∷ codes "--main" ∷ codes "a.B" ∷ codes "--args=1,-2" ∷ codes "--show" ∷ codes "order" ∷ codes "--" ∷ codes "-b.class" ∷ []) ≡ whole
unfolding line_for clap_on_literals
all_options = refl

-- no word, no file, and words that are no command
no_words : line_of [] ≡ None
no_words = refl

no_file : line_of (codes "run" ∷ []) ≡ None
unfolding line_for clap_on_literals
no_file = refl

no_command : line_of (codes "Run" ∷ codes "A" ∷ []) ≡ None
no_command = refl

-- an option takes the next word, or what follows `=`, before, among or behind the files
a_file : line_of (codes "run" ∷ codes "A" ∷ []) ≡ says Run 5000000 None (codes "A" ∷ [])
unfolding line_for clap_on_literals
a_file = refl

among : line_of (codes "run" ∷ codes "A" ∷ codes "--steps=3" ∷ codes "B" ∷ codes "--main" ∷ codes "M" ∷ []) ≡ says Run 3 (Some (codes "M")) (codes "A" ∷ codes "B" ∷ [])
unfolding line_for clap_on_literals
among = refl

empty_value : line_of (codes "check" ∷ codes "--main=" ∷ codes "A" ∷ []) ≡ says Check 5000000 (Some []) (codes "A" ∷ [])
unfolding line_for clap_on_literals
empty_value = refl

-- at most once, and none of another command
twice : line_of (codes "run" ∷ codes "--steps" ∷ codes "1" ∷ codes "--steps" ∷ codes "1" ∷ codes "A" ∷ []) ≡ None
unfolding line_for clap_on_literals
twice = refl

not_of_check : line_of (codes "check" ∷ codes "--args" ∷ codes "1" ∷ codes "A" ∷ []) ≡ None
unfolding line_for clap_on_literals
not_of_check = refl

not_of_replay : line_of (codes "replay" ∷ codes "--steps" ∷ codes "1" ∷ codes "O" ∷ codes "A" ∷ []) ≡ None
unfolding line_for clap_on_literals
not_of_replay = refl

-- `replay` has an order and a file at least
replayed : line_of (codes "replay" ∷ codes "O" ∷ codes "A" ∷ []) ≡ says Replay 5000000 None (codes "O" ∷ codes "A" ∷ [])
unfolding line_for clap_on_literals
replayed = refl

no_order : line_of (codes "replay" ∷ codes "A" ∷ []) ≡ None
unfolding line_for clap_on_literals
no_order = refl

-- `--` ends the options; `-` alone is no option
ended : line_of (codes "run" ∷ codes "--" ∷ codes "-x" ∷ codes "--main" ∷ []) ≡ says Run 5000000 None (codes "-x" ∷ codes "--main" ∷ [])
unfolding line_for clap_on_literals
ended = refl

hyphen : line_of (codes "run" ∷ codes "--main" ∷ codes "-" ∷ codes "-" ∷ []) ≡ says Run 5000000 (Some (codes "-")) (codes "-" ∷ [])
unfolding line_for clap_on_literals
hyphen = refl

no_value : line_of (codes "run" ∷ codes "--main" ∷ codes "--" ∷ codes "A" ∷ []) ≡ None
unfolding line_for clap_on_literals
no_value = refl

option_as_value : line_of (codes "run" ∷ codes "--main" ∷ codes "-x" ∷ codes "A" ∷ []) ≡ None
unfolding line_for clap_on_literals
option_as_value = refl

-- options that aren't known, or not whole
unknown : line_of (codes "run" ∷ codes "-x" ∷ codes "A" ∷ []) ≡ None
unfolding line_for clap_on_literals
unknown = refl

no_help : line_of (codes "run" ∷ codes "--help" ∷ codes "A" ∷ []) ≡ None
unfolding line_for clap_on_literals
no_help = refl

a_front : line_of (codes "run" ∷ codes "--step" ∷ codes "2" ∷ codes "A" ∷ []) ≡ None
unfolding line_for clap_on_literals
a_front = refl

-- numbers: one to nine digits, within their range
no_steps : line_of (codes "run" ∷ codes "--steps" ∷ codes "0" ∷ codes "A" ∷ []) ≡ None
unfolding line_for clap_on_literals
no_steps = refl

most_steps : line_of (codes "run" ∷ codes "--steps" ∷ codes "050000000" ∷ codes "A" ∷ []) ≡ says Run 50000000 None (codes "A" ∷ [])
unfolding line_for clap_on_literals
most_steps = refl

more_steps : line_of (codes "run" ∷ codes "--steps" ∷ codes "50000001" ∷ codes "A" ∷ []) ≡ None
unfolding line_for clap_on_literals
more_steps = refl

ten_digits : line_of (codes "run" ∷ codes "--steps" ∷ codes "0000000001" ∷ codes "A" ∷ []) ≡ None
unfolding line_for clap_on_literals
ten_digits = refl

plus : line_of (codes "run" ∷ codes "--steps" ∷ codes "+1" ∷ codes "A" ∷ []) ≡ None
unfolding line_for clap_on_literals
plus = refl

-- what can be shown
other_show : line_of (codes "run" ∷ codes "--show" ∷ codes "orders" ∷ codes "A" ∷ []) ≡ None
unfolding line_for clap_on_literals
other_show = refl
