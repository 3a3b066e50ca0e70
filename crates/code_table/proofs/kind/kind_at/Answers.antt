use Rattle.code_table.proofs.Rows.{kind_of_row}
use Rattle.code_table.proofs.kind.kind_at.Goals as goal

pub returns : goal.returns
returns c = kind_of_row c.args.op c.kind_in.result c.ranges.op.fits c.kind_in.ensures
