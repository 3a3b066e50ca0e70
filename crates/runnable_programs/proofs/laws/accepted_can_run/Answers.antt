use Rattle.runnable_programs.proofs.Runnables.{runnable_law}
use Rattle.runnable_programs.proofs.laws.accepted_can_run.Goals as goal

pub returns : goal.returns
returns c = runnable_law
