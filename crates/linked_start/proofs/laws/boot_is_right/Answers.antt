use Rattle.linked_start.proofs.Boot.{boot_law}
use Rattle.linked_start.proofs.laws.boot_is_right.Goals as goal

pub returns : goal.returns
returns c = boot_law
