use Rattle.linked_start.proofs.Coded.{code_law}
use Rattle.linked_start.proofs.laws.entries_have_code.Goals as goal

pub returns : goal.returns
returns c = code_law
