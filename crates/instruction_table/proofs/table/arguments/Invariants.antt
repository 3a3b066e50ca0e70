use Rattle.std.proofs.Common.{◌≡◌}
use Rattle.instruction_table.proofs.Listing.{last_arguments}
use Rattle.instruction_table.proofs.table.arguments.Given as goal

abbrev pub invariant-loop-i : goal.invariant-loop-i
invariant-loop-i l = l.needs ≡ last_arguments l.image l.i l.args
