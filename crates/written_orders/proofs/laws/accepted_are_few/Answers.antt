use Rattle.written_orders.proofs.Few.{few_law}
use Rattle.written_orders.proofs.laws.accepted_are_few.Goals as goal

pub returns : goal.returns
returns c = few_law
