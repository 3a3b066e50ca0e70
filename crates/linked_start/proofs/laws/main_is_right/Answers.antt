use Rattle.linked_start.proofs.Entries.{entries_law}
use Rattle.linked_start.proofs.laws.main_is_right.Goals as goal

pub returns : goal.returns
returns c = entries_law
