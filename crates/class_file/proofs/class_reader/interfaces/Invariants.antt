use Rattle.std.proofs.Common.{◌≡◌, ◌-◌}
use Rattle.class_file.specs.Reading.Words.{each_at, adding, listed_at}
use Rattle.class_file.specs.Reading.Classes.{interface_at}
use Rattle.class_file.proofs.class_reader.interfaces.Given as goal

abbrev pub invariant-loop : goal.invariant-loop
invariant-loop l = each_at (adding (interface_at l.texts)) (l.count - l.counter) l.interfaces l.reader ≡ listed_at (interface_at l.texts) l.fn.reader
