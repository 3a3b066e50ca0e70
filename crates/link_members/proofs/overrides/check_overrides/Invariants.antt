use Rattle.std.proofs.Common.{◌≡◌, ◌+◌, drop}
use Rattle.link_rules.specs.Members.{bad_overrides}
use Rattle.link_rules.specs.Numbers.{numbered}
use Rattle.link_members.proofs.overrides.check_overrides.Given as goal

abbrev pub invariant-loop-file : goal.invariant-loop-file
invariant-loop-file l = record {
  number : l.number ≡ l.first + l.file-index;
  answer : numbered (bad_overrides l.program) l.first l.files ≡ numbered (bad_overrides l.program) l.number (drop l.file-index l.files);
}
