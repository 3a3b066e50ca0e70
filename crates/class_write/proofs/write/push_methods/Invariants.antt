use Rattle.std.proofs.Common.{◌≡◌, ◌++◌, take, length}
use Rattle.std.specs.List.{flat_map}
use Rattle.class_format.specs.Spelling.{number2}
use Rattle.class_write.specs.Writing.Parts.{method_bytes}
use Rattle.class_write.proofs.write.push_methods.Given as goal

abbrev pub invariant-loop-method : goal.invariant-loop-method
invariant-loop-method l = l.out.items ≡ l.fn.out.items ++ (number2 (length l.methods) ++ flat_map (method_bytes l.name) (take l.method-index l.methods))
