use Rattle.linked_start.proofs.Premises.{premises_law}
use Rattle.linked_start.proofs.laws.links_are_given.Goals as goal

pub returns : goal.returns
returns c = premises_law
