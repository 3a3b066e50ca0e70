use Rattle.std.proofs.Common.{◌++◌, codes, decimal}
use Rattle.cjvm_io.proofs.Gains.{gains_then, gains_front}
use Rattle.one_jvm.proofs.report.write_version.Goals as goal

pub returns-in_err-write_number-clause-bytes : goal.returns-in_err-write_number-clause-bytes
returns-in_err-write_number-clause-bytes g c = gains_front _ _ (codes "version " ++ decimal c.args.major) (codes "." ++ decimal c.args.minor) c.from_residual.result c.from_residual.ensures.0 c.in_err-write_number.ensures.bytes

pub returns-clause-bytes : goal.returns-clause-bytes
returns-clause-bytes g c = gains_then _ _ _ (codes "version " ++ decimal c.args.major) (codes "." ++ decimal c.args.minor) c.write_number-2.result c.in_ok-write_number.ensures.bytes c.write_number-2.ensures.bytes
