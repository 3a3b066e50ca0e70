use Rattle.std.proofs.Common.{arith, sym, ◌∙◌}
use Rattle.order_text.proofs.Fronts.{not_numeral, number_is, number_is_over}
use Rattle.order_text.proofs.read.number.Goals as goal

pub returns-then-not-is_numeral : goal.returns-then-not-is_numeral
returns-then-not-is_numeral c = not_numeral c.args.limit c.args.bytes.now c.requires (sym c.is_numeral.ensures ∙ c.if-not-is_numeral.true)

pub returns-then-value-limit : goal.returns-then-value-limit
returns-then-value-limit c =
    let is = c.value-value.ensures in
    rw is (number_is c.args.limit c.args.bytes.now c.requires (sym c.is_numeral.ensures ∙ c.if-not-is_numeral.false) (rw (← is) c.if-value-limit.true))

pub returns-else-value-limit : goal.returns-else-value-limit
returns-else-value-limit c = number_is_over c.args.limit c.args.bytes.now c.requires (omega (arith, c.value-value.ensures, c.if-value-limit.false))
