use Rattle.machine_state.proofs.FrameLaws.{one_home}
use Rattle.machine_state.proofs.laws.one_home.Goals as goal

pub returns : goal.returns
returns c = one_home
