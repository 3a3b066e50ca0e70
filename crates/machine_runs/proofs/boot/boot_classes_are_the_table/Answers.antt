use Rattle.std.proofs.Common.{refl}
use Rattle.boot_table.specs.Table.{boot_rows, first_rows, exceptions}
use Rattle.machine_runs.proofs.boot.boot_classes_are_the_table.Goals as goal

pub returns : goal.returns
unfolding boot_rows first_rows exceptions
returns c = record { classes = refl; methods = refl }
