use Rattle.std.proofs.Common.{◌≡◌, drop}
use Rattle.program_reads.specs.Past.{any_handler}
use Rattle.program_reads.proofs.totals.any_handler.Given as goal

abbrev pub invariant-loop-entry : goal.invariant-loop-entry
invariant-loop-entry l = any_handler l.at (drop l.entry-index l.table) ≡ any_handler l.at l.table
