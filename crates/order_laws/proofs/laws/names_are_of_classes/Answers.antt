use Rattle.order_laws.proofs.NameLaws.{names_law}
use Rattle.order_laws.proofs.laws.names_are_of_classes.Goals as goal

pub returns : goal.returns
returns c = names_law
