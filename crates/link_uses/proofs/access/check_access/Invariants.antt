use Rattle.std.proofs.Common.{◌≡◌, ◌+◌, drop}
use Rattle.link_rules.specs.Numbers.{numbered}
use Rattle.link_uses.specs.Uses.{no_access}
use Rattle.link_uses.proofs.access.check_access.Given as goal

abbrev pub invariant-loop-i : goal.invariant-loop-i
invariant-loop-i l = record {
  number : l.number ≡ l.first + l.i;
  answer : numbered (no_access l.resolver) l.first l.files ≡ numbered (no_access l.resolver) l.number (drop l.i l.files);
}
