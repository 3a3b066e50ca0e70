use Rattle.acceptance.proofs.Verifiable.{linked_law}
use Rattle.acceptance.proofs.laws.linked_is_verifiable.Goals as goal

pub returns : goal.returns
returns c = linked_law
