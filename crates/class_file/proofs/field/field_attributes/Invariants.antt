use Rattle.std.proofs.Common.{◌≡◌, ◌-◌}
use Rattle.std.specs.Prelude.{None}
use Rattle.class_file.specs.Reading.Words.{each_at, counted_at}
use Rattle.class_file.specs.Reading.Members.{field_attribute_at}
use Rattle.class_file.proofs.field.field_attributes.Given as goal

abbrev pub invariant-loop : goal.invariant-loop
invariant-loop l = each_at (field_attribute_at l.texts l.head) (l.count - l.counter) l.constant l.reader ≡ counted_at (field_attribute_at l.texts l.head) None l.fn.reader
