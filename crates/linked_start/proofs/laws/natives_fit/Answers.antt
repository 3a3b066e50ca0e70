use Rattle.linked_start.proofs.Natives.{natives_law}
use Rattle.linked_start.proofs.laws.natives_fit.Goals as goal

pub returns : goal.returns
returns c = natives_law
