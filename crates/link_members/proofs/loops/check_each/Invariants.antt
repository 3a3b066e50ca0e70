use Rattle.std.proofs.Common.{◌≡◌, ◌+◌, drop}
use Rattle.link_rules.specs.Classes.{super_loop}
use Rattle.link_rules.specs.Numbers.{numbered}
use Rattle.link_members.proofs.loops.check_each.Given as goal

abbrev pub invariant-loop-file : goal.invariant-loop-file
invariant-loop-file l = record {
  number : l.number ≡ l.first + l.file-index;
  answer : numbered (super_loop l.rows) l.first l.files ≡ numbered (super_loop l.rows) l.number (drop l.file-index l.files);
}
