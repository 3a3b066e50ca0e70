use Rattle.std.proofs.Common.{refl}
use Rattle.boot_table.specs.Table.{exceptions}
use Rattle.boot_table.proofs.exceptions.exceptions.Goals as goal

pub returns : goal.returns
unfolding exceptions
returns c = refl
