use Rattle.typed_classes.proofs.ClassLaws.{classes_law}
use Rattle.typed_classes.proofs.laws.classes_are_typed.Goals as goal

pub returns : goal.returns
returns c = classes_law
