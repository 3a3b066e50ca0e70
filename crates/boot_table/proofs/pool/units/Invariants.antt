use Rattle.std.proofs.Common.{◌≡◌, take}
use Rattle.boot_table.proofs.pool.units.Given as goal

abbrev pub invariant-loop-b : goal.invariant-loop-b
invariant-loop-b l = l.units ≡ take l.b-index l.text
