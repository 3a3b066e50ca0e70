use Rattle.std.proofs.Common.{length}
use Rattle.code_table.proofs.Sequencing.{one_cover, rises}
use Rattle.code_table.proofs.decode.one_cover.Goals as goal

pub returns-clause-only : goal.returns-clause-only
returns-clause-only c = one_cover c.args.code.now c.args.pool.now

pub returns-clause-rise : goal.returns-clause-rise
returns-clause-rise c = λ ps h. rises c.args.code.now c.args.pool.now ps 0 (length c.args.code.now) h
