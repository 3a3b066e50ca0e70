use Rattle.std.proofs.Common.{arith}
use Rattle.order_text.proofs.Numerals.{small}
use Rattle.order_text.proofs.read.value.Goals as goal

pub overflow_mul-value : goal.overflow_mul-value
overflow_mul-value c =
    let s = small c.args.digits.now c.loop-digit.digit-index c.requires.few c.requires.digits c.loop-digit-test.true in
    omega (arith, s.value, c.loop-digit.invariant)

pub overflow_add-value : goal.overflow_add-value
overflow_add-value c =
    let s = small c.args.digits.now c.loop-digit.digit-index c.requires.few c.requires.digits c.loop-digit-test.true in
    omega (arith, s.value, s.digit, c.loop-digit.invariant, c.from.ensures)
