use Rattle.runnable_programs.proofs.Runnables.{have_code_law}
use Rattle.runnable_programs.proofs.laws.accepted_have_code.Goals as goal

pub returns : goal.returns
returns c = have_code_law
