use Rattle.std.proofs.Common.{◌≡◌, ◌++◌, take}
use Rattle.one_jvm.proofs.main_class.push_char.Given as goal

abbrev pub invariant-loop-unit : goal.invariant-loop-unit
invariant-loop-unit l = l.units ≡ l.initial.units ++ take l.unit-index l.unit-items
