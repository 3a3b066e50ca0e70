use Rattle.std.proofs.Common.{◌≡◌, map, take}
use Rattle.code_table.specs.Steps.Descs.{field_in}
use Rattle.code_table.proofs.descs.fields_in.Given as goal

abbrev pub invariant-loop-item : goal.invariant-loop-item
invariant-loop-item l = l.fields ≡ map field_in (take l.item-index l.pool)
