use Rattle.machine_state.proofs.WriteRuns.{last-write}
use Rattle.machine_state.proofs.laws.last_write.Goals as goal

pub returns : goal.returns
returns c = last-write
