use Rattle.machine_state.proofs.KeepingLaws.{keeps_bodies}
use Rattle.machine_state.proofs.laws.keeps_bodies.Goals as goal

pub returns : goal.returns
returns c = keeps_bodies
