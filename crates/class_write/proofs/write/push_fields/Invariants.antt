use Rattle.std.proofs.Common.{◌≡◌, ◌++◌, take, length}
use Rattle.std.specs.List.{flat_map}
use Rattle.class_format.specs.Spelling.{number2}
use Rattle.class_write.specs.Writing.Parts.{field_bytes}
use Rattle.class_write.proofs.write.push_fields.Given as goal

abbrev pub invariant-loop-field : goal.invariant-loop-field
invariant-loop-field l = l.out.items ≡ l.fn.out.items ++ (number2 (length l.fields) ++ flat_map (field_bytes l.name) (take l.field-index l.fields))
