use Rattle.std.proofs.Common.{◌≡◌, ◌-◌, length}
use Rattle.class_file.specs.Reading.Words.{each_at, adding, listed_at}
use Rattle.class_format.specs.Members.{method_keys}
use Rattle.class_file.specs.Reading.Seen.{HasSeen}
use Rattle.class_file.specs.Reading.Members.{method_at}
use Rattle.class_file.proofs.method.methods.Given as goal

abbrev pub invariant-loop-number : goal.invariant-loop-number
invariant-loop-number l = record {
  long : length l.methods ≡ l.number;
  seen : HasSeen l.texts l.seen (method_keys l.methods);
  told : each_at (adding (method_at l.texts)) (l.count - l.number) l.methods l.reader ≡ listed_at (method_at l.texts) l.fn.reader;
}
