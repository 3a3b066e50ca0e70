use Rattle.std.proofs.Common.{◌≡◌, length}
use Rattle.link_members.specs.Near.{AreNumbered}
use Rattle.link_members.proofs.package_numbers.package_numbers.Given as goal

abbrev pub invariant-loop-number : goal.invariant-loop-number
invariant-loop-number l = (length l.numbers ≡ l.number) × AreNumbered l.program l.names l.numbers
