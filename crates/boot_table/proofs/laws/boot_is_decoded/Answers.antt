use Rattle.boot_table.proofs.BootLaws.{boot_decoded}
use Rattle.boot_table.proofs.laws.boot_is_decoded.Goals as goal

pub returns : goal.returns
returns c = boot_decoded
