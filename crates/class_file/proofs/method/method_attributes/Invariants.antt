use Rattle.std.proofs.Common.{◌≡◌, ◌-◌, []}
use Rattle.class_file.specs.Reading.Words.{each_at, counted_at}
use Rattle.class_file.specs.Reading.Members.{method_attribute_at}
use Rattle.class_file.proofs.method.method_attributes.Given as goal

abbrev pub invariant-loop : goal.invariant-loop
invariant-loop l = each_at (method_attribute_at l.texts l.method) (l.count - l.counter) l.codes l.reader ≡ counted_at (method_attribute_at l.texts l.method) [] l.fn.reader
