use Rattle.step_soundness.proofs.StepLaws.{none-stuck}
use Rattle.step_soundness.proofs.laws.never_stuck.Goals as goal

pub returns : goal.returns
returns c = none-stuck
