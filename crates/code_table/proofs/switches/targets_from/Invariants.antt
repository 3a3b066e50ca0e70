use Rattle.std.proofs.Common.{◌≡◌}
use Rattle.code_table.specs.Switches.{targets_from}
use Rattle.code_table.proofs.switches.targets_from.Given as goal

abbrev pub invariant-loop-k : goal.invariant-loop-k
invariant-loop-k l = l.to ≡ targets_from l.code l.at l.place l.k
