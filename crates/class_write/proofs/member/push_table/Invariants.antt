use Rattle.std.proofs.Common.{◌≡◌, ◌++◌, take, length}
use Rattle.std.specs.List.{flat_map}
use Rattle.class_format.specs.Spelling.{number2, table_bytes}
use Rattle.class_write.proofs.member.push_table.Given as goal

abbrev pub invariant-loop-item : goal.invariant-loop-item
invariant-loop-item l = l.out.items ≡ l.fn.out.items ++ (number2 (length l.table) ++ flat_map table_bytes (take l.item-index l.table))
