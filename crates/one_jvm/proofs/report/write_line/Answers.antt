use Rattle.std.proofs.Common.{◌++◌, ◌∷◌, []}
use Rattle.cjvm_io.proofs.Gains.{gains_then}
use Rattle.one_jvm.proofs.report.write_line.Goals as goal

pub returns-clause-bytes : goal.returns-clause-bytes
returns-clause-bytes g c = gains_then _ _ _ (c.args.front.now ++ c.args.name.now) (10 ∷ []) c.write_all.result c.in_ok-write_both.ensures.bytes c.write_all.ensures.bytes
