use Rattle.std.proofs.Common.{◌≡◌, ◌++◌, take, length}
use Rattle.std.specs.List.{flat_map}
use Rattle.class_format.specs.Spelling.{number2}
use Rattle.class_write.proofs.write.push_interfaces.Given as goal

abbrev pub invariant-loop-class : goal.invariant-loop-class
invariant-loop-class l = l.out.items ≡ l.fn.out.items ++ (number2 (length l.interfaces) ++ flat_map number2 (take l.class-index l.interfaces))
