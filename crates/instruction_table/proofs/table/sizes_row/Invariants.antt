use Rattle.std.proofs.Common.{◌≡◌}
use Rattle.std.specs.Prelude.{replicate}
use Rattle.instruction_table.specs.declared.row.Need.TheVariants.{Int}
use Rattle.instruction_table.proofs.table.sizes_row.Given as goal

abbrev pub invariant-loop : goal.invariant-loop
invariant-loop l = l.needs ≡ replicate l.counter Int
