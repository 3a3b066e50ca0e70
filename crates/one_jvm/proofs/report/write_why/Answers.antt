use Rattle.std.proofs.Common.{◌∷◌, []}
use Rattle.class_file.specs.Reasons.{reason}
use Rattle.cjvm_io.proofs.Gains.{gains_then}
use Rattle.one_jvm.proofs.report.write_why.Goals as goal

pub returns-clause-bytes : goal.returns-clause-bytes
returns-clause-bytes g c = gains_then _ _ _ (reason c.args.why) (10 ∷ []) c.write_all.result c.in_ok-write_reason.ensures.bytes c.write_all.ensures.bytes
