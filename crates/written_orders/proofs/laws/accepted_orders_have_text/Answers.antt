use Rattle.written_orders.proofs.Orders.{written_law}
use Rattle.written_orders.proofs.laws.accepted_orders_have_text.Goals as goal

pub returns : goal.returns
returns c = written_law
