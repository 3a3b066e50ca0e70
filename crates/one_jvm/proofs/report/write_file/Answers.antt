use Rattle.std.proofs.Common.{◌++◌, codes}
use Rattle.cjvm_io.proofs.Gains.{gains_then, gains_front}
use Rattle.one_jvm.proofs.report.write_file.Goals as goal

pub returns-in_err-write_both-clause-bytes : goal.returns-in_err-write_both-clause-bytes
returns-in_err-write_both-clause-bytes g c = gains_front _ _ (codes "cjvm: refused " ++ c.args.name.now) (codes " ") c.from_residual.result c.from_residual.ensures.0 c.in_err-write_both.ensures.bytes

pub returns-clause-bytes : goal.returns-clause-bytes
returns-clause-bytes g c = gains_then _ _ _ (codes "cjvm: refused " ++ c.args.name.now) (codes " ") c.write_all.result c.in_ok-write_both.ensures.bytes c.write_all.ensures.bytes
