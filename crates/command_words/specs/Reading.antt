-- What a reading of words has.
use Rattle.std.specs.Prelude.{map, option_map}
use Rattle.command_words.specs.Lines.{Line}
use Rattle.command_words.specs.declared.words.Words.{Words}

-- as the line that it is
abbrev pub line_of_words : Words → Line
line_of_words w = record {
  command = w.command;
  main = option_map (λ s. s.now) w.main;
  args = option_map (λ s. s.now) w.args;
  steps = w.steps;
  shows = w.shows_order;
  files = map (λ s. s.now) w.files.items;
}
