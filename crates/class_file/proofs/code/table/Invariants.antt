use Rattle.std.proofs.Common.{◌≡◌, ◌-◌}
use Rattle.class_file.specs.Reading.Words.{each_at, adding, listed_at}
use Rattle.class_file.specs.Reading.Members.{table_item_at}
use Rattle.class_file.proofs.code.table.Given as goal

abbrev pub invariant-loop : goal.invariant-loop
invariant-loop l = each_at (adding (table_item_at l.texts)) (l.count - l.counter) l.table l.reader ≡ listed_at (table_item_at l.texts) l.fn.reader
