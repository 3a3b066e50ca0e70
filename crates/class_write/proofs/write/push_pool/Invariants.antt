use Rattle.std.proofs.Common.{◌≡◌, ◌++◌, take, length}
use Rattle.std.specs.List.{flat_map}
use Rattle.class_format.specs.Spelling.{number2, item_bytes}
use Rattle.class_write.proofs.write.push_pool.Given as goal

abbrev pub invariant-loop-item : goal.invariant-loop-item
invariant-loop-item l = l.out.items ≡ l.fn.out.items ++ (number2 (length l.pool) ++ flat_map item_bytes (take l.item-index l.pool))
