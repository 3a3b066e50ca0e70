use Rattle.step_soundness.proofs.StepLaws.{sound-step}
use Rattle.step_soundness.proofs.laws.sound_step.Goals as goal

pub returns : goal.returns
returns c = sound-step
