use Rattle.cjvm_io.proofs.Gains.{gains_then}
use Rattle.one_jvm.proofs.report.write_both.Goals as goal

pub returns-clause-bytes : goal.returns-clause-bytes
returns-clause-bytes g c = gains_then _ _ _ c.args.first.now c.args.second.now c.write_all-2.result c.in_ok-write_all.ensures.bytes c.write_all-2.ensures.bytes
