use Rattle.machine_state.proofs.FrameLaws.{other_threads}
use Rattle.machine_state.proofs.laws.other_threads.Goals as goal

pub returns : goal.returns
returns c = other_threads
