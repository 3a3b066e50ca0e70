use Rattle.step_after.proofs.Needing.{needs_asks}
use Rattle.step_after.proofs.laws.can_ask.Goals as goal

pub returns : goal.returns
returns c = needs_asks
