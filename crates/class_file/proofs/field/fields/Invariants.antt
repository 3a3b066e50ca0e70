use Rattle.std.proofs.Common.{◌≡◌, ◌-◌}
use Rattle.class_file.specs.Reading.Words.{each_at, adding, listed_at}
use Rattle.class_format.specs.Members.{field_keys}
use Rattle.class_file.specs.Reading.Seen.{HasSeen}
use Rattle.class_file.specs.Reading.Members.{field_at}
use Rattle.class_file.proofs.field.fields.Given as goal

abbrev pub invariant-loop : goal.invariant-loop
invariant-loop l = record {
  seen : HasSeen l.texts l.seen (field_keys l.fields);
  told : each_at (adding (field_at l.texts)) (l.count - l.counter) l.fields l.reader ≡ listed_at (field_at l.texts) l.fn.reader;
}
