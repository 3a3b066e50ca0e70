use Rattle.std.proofs.Common.{◌++◌, ◌∷◌, [], codes}
use Rattle.class_file.specs.Reasons.{reason}
use Rattle.cjvm_io.proofs.Gains.{gains_then, gains_front}
use Rattle.one_jvm.proofs.report.write_refused.Goals as goal

pub returns-in_err-write_file-clause-bytes : goal.returns-in_err-write_file-clause-bytes
returns-in_err-write_file-clause-bytes g c = gains_front _ _ ((codes "cjvm: refused " ++ c.args.name.now) ++ codes " ") (reason c.args.why ++ 10 ∷ []) c.from_residual.result c.from_residual.ensures.0 c.in_err-write_file.ensures.bytes

pub returns-clause-bytes : goal.returns-clause-bytes
returns-clause-bytes g c = gains_then _ _ _ ((codes "cjvm: refused " ++ c.args.name.now) ++ codes " ") (reason c.args.why ++ 10 ∷ []) c.write_why.result c.in_ok-write_file.ensures.bytes c.write_why.ensures.bytes
