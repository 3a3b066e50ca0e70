use Rattle.linked_start.proofs.Starts.{starts_law}
use Rattle.linked_start.proofs.laws.starts_are_right.Goals as goal

pub returns : goal.returns
returns c = starts_law
