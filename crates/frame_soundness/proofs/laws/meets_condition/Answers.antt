use Rattle.frame_soundness.proofs.ConditionLaws.{meets-condition}
use Rattle.frame_soundness.proofs.laws.meets_condition.Goals as goal

pub returns : goal.returns
returns c = meets-condition
