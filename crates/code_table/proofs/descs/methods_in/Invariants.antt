use Rattle.std.proofs.Common.{◌≡◌, map, take}
use Rattle.code_table.specs.Steps.Descs.{method_in}
use Rattle.code_table.proofs.descs.methods_in.Given as goal

abbrev pub invariant-loop-item : goal.invariant-loop-item
invariant-loop-item l = l.methods ≡ map method_in (take l.item-index l.pool)
