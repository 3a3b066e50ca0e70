use Rattle.accepted_programs.proofs.KeptLaws.{kept_law}
use Rattle.accepted_programs.proofs.laws.accepted_is_kept.Goals as goal

pub returns : goal.returns
returns c = kept_law
