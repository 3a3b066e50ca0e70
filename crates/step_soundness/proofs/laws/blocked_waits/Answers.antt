use Rattle.step_soundness.proofs.WaitLaws.{waits-law}
use Rattle.step_soundness.proofs.laws.blocked_waits.Goals as goal

pub returns : goal.returns
returns c = waits-law
