use Rattle.linked_methods.proofs.Methods.{methods_law}
use Rattle.linked_methods.proofs.laws.methods_are_right.Goals as goal

pub returns : goal.returns
returns c = methods_law
