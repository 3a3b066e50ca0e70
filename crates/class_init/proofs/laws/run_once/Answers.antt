use Rattle.class_init.proofs.RunLaws.{run_once}
use Rattle.class_init.proofs.laws.run_once.Goals as goal

pub returns : goal.returns
returns c = run_once
