use Rattle.step_after.proofs.Following.{can_go_on}
use Rattle.step_after.proofs.laws.can_go_on.Goals as goal

pub returns : goal.returns
returns c = can_go_on
