-- The commands as clap has them: which options each has. A value is the next word, or stands behind a
-- `=`; an option stands once at most, before, among or behind the files; `--` ends the options.
use Rattle.std.specs.Prelude.{List, ℕ, true, codes, Some}
use Rattle.clap.specs.Words.{App, Rule, Text, new_app, new_rule, with_rule}
use Rattle.clap.specs.Simple.{on_top}
use Rattle.clap.specs.declared.builder.ArgAction.TheVariants.{Append}
use Rattle.command_words.specs.declared.words.Command.{Command}
use Rattle.command_words.specs.declared.words.Command.TheVariants.{Run, Check, Replay}

-- an option with a value
abbrev pub option_rule : Text → Rule
option_rule name = record (new_rule name) { long = Some name }

-- the other words
abbrev pub file_rule : Rule
file_rule = record (new_rule (codes "FILE")) { action = Some Append }

-- no word is the program's name, and none calls for help
abbrev pub bare_app : App
bare_app =
    on_top (λ s. record s { no_binary_name = true; disable_help_flag = true }) (new_app (codes "cjvm"))

-- with an option more
abbrev pub with_option : Text → App → App
with_option name app = with_rule app (option_rule name)

-- the options of a command
abbrev pub options_for : Command → App
options_for Check = with_option (codes "main") bare_app
options_for Replay = with_option (codes "args") (with_option (codes "main") bare_app)
options_for Run =
    with_option (codes "show")
    (with_option (codes "steps") (with_option (codes "args") (with_option (codes "main") bare_app)))

-- and its files
abbrev pub app_for : Command → App
app_for command = with_rule (options_for command) file_rule
