use Rattle.cjvm_io.proofs.Gains.{gains_then}
use Rattle.one_jvm.specs.Outcomes.{report}
use Rattle.one_jvm.proofs.top.write_all_told.Goals as goal

pub returns-clause-bytes : goal.returns-clause-bytes
returns-clause-bytes g c = gains_then _ _ _ (report c.args.subject.now c.args.refusal.now) c.args.listing.now c.write_some.result c.in_ok-write_report.ensures.bytes c.write_some.ensures.bytes
