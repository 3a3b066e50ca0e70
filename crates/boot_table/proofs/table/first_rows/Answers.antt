use Rattle.std.proofs.Common.{refl}
use Rattle.boot_table.specs.Table.{first_rows}
use Rattle.boot_table.proofs.table.first_rows.Goals as goal

pub returns : goal.returns
unfolding first_rows
returns c = refl
