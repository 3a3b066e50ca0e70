use Rattle.std.proofs.Common.{◌≡◌, take}
use Rattle.order_text.specs.Reading.Fronts.{value_of}
use Rattle.order_text.proofs.read.value.Given as goal

abbrev pub invariant-loop-digit : goal.invariant-loop-digit
invariant-loop-digit l = l.value ≡ value_of (take l.digit-index l.digits)
