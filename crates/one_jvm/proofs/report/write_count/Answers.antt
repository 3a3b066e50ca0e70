use Rattle.std.proofs.Common.{◌++◌, decimal}
use Rattle.cjvm_io.proofs.Gains.{gains_then}
use Rattle.one_jvm.proofs.report.write_count.Goals as goal

pub returns-clause-bytes : goal.returns-clause-bytes
returns-clause-bytes g c = gains_then _ _ _ (c.args.front.now ++ decimal c.args.number) c.args.behind.now c.write_all.result c.in_ok-write_number.ensures.bytes c.write_all.ensures.bytes
