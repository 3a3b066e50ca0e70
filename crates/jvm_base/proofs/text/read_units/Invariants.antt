use Rattle.std.proofs.Common.{◌≡◌, length}
use Rattle.jvm_base.specs.Text.{units_of}
use Rattle.jvm_base.proofs.TextLoop.{with_units}
use Rattle.jvm_base.proofs.text.read_units.Given as goal

abbrev pub invariant-loop-rest : goal.invariant-loop-rest
invariant-loop-rest l = with_units l.units (units_of l.rest) ≡ units_of l.bytes

abbrev pub decreases-loop-rest : goal.decreases-loop-rest
decreases-loop-rest l = length l.rest
