use Rattle.linked_classes.proofs.Above.{table_law}
use Rattle.linked_classes.proofs.laws.linked_is_table.Goals as goal

pub returns : goal.returns
returns c = table_law
