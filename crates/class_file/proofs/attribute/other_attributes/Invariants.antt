use Rattle.std.proofs.Common.{◌≡◌, ◌-◌}
use Rattle.class_file.specs.Reading.Words.{each_at, counted_at}
use Rattle.class_file.specs.Reading.Members.{other_at}
use Rattle.class_file.proofs.attribute.other_attributes.Given as goal

abbrev pub invariant-loop : goal.invariant-loop
invariant-loop l = each_at (other_at l.texts) (l.count - l.counter) tt l.reader ≡ counted_at (other_at l.texts) tt l.fn.reader
