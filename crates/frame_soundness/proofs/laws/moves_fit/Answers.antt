use Rattle.frame_soundness.proofs.MoveLaws.{moves-fit}
use Rattle.frame_soundness.proofs.laws.moves_fit.Goals as goal

pub returns : goal.returns
returns c = moves-fit
