use Rattle.std.proofs.Common.{◌≡◌, take}
use Rattle.jvm_base.specs.Text.{text_bytes}
use Rattle.jvm_base.proofs.units.Units.write.Given as goal

abbrev pub invariant-loop-unit : goal.invariant-loop-unit
invariant-loop-unit l = l.bytes.items ≡ text_bytes (take l.unit-index l.unit-items)
