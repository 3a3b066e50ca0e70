use Rattle.std.proofs.Common.{◌≡◌}
use Rattle.code_table.specs.Switches.{pairs_from}
use Rattle.code_table.proofs.switches.pairs_from.Given as goal

abbrev pub invariant-loop-k : goal.invariant-loop-k
invariant-loop-k l = l.pairs ≡ pairs_from l.code l.at l.place l.k
