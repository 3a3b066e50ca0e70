use Rattle.std.proofs.Common.{◌≡◌}
use Rattle.flow_verifier.specs.Worklist.Ranges.{flags_to}
use Rattle.flow_verifier.proofs.RangeLaws.{AreFirst}
use Rattle.flow_verifier.proofs.ranges.numbered.Given as goal

abbrev pub invariant-loop-i : goal.invariant-loop-i
invariant-loop-i l = record {
  first : AreFirst l.flags l.number l.i;
  last : l.last ≡ flags_to l.flags l.i;
}
