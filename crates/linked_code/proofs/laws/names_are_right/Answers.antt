use Rattle.linked_code.proofs.Links.{links_law}
use Rattle.linked_code.proofs.laws.names_are_right.Goals as goal

pub returns : goal.returns
returns c = links_law
