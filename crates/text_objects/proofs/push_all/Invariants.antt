use Rattle.std.proofs.Common.{◌≡◌, ◌++◌, take}
use Rattle.text_objects.proofs.push_all.Given as goal

abbrev pub invariant-loop-unit : goal.invariant-loop-unit
invariant-loop-unit l = l.text ≡ l.fn.text ++ take l.unit-index l.units
