use Rattle.boot_table.proofs.BootLaws.{boot_formed}
use Rattle.boot_table.proofs.laws.boot_is_formed.Goals as goal

pub returns : goal.returns
returns c = boot_formed
