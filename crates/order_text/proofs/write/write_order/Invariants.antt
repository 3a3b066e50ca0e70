use Rattle.order_text.proofs.Writing.{Writes}
use Rattle.order_text.proofs.write.write_order.Given as goal

abbrev pub invariant-loop-at : goal.invariant-loop-at
invariant-loop-at l = Writes l.order l.at l.text
