use Rattle.std.proofs.Common.{⊎_elim}
use Rattle.one_jvm.proofs.report.write_refusal.Goals as goal

pub returns-in-Usage-clause-bytes : goal.returns-in-Usage-clause-bytes
returns-in-Usage-clause-bytes g c = rw c.in-Usage.is c.write_all.ensures.bytes

pub returns-in-Link-clause-bytes : goal.returns-in-Link-clause-bytes
returns-in-Link-clause-bytes g c = ⊎_elim (λ p. rw p.1 c.write_line-in-Link.ensures.bytes) (λ p. rw p.1 c.write_line-in-Link.ensures.bytes) c.in-Link.is

pub returns-in-NoFile-clause-bytes : goal.returns-in-NoFile-clause-bytes
returns-in-NoFile-clause-bytes g c = rw c.in-NoFile.is c.write_line.ensures.bytes

pub returns-in-WriteFault-clause-bytes : goal.returns-in-WriteFault-clause-bytes
returns-in-WriteFault-clause-bytes g c = rw c.in-WriteFault.is c.write_all-in-WriteFault.ensures.bytes

pub returns-in-BadOrder-clause-bytes : goal.returns-in-BadOrder-clause-bytes
returns-in-BadOrder-clause-bytes g c = rw c.in-BadOrder.is c.write_count.ensures.bytes

pub returns-in-EarlyOrder-clause-bytes : goal.returns-in-EarlyOrder-clause-bytes
returns-in-EarlyOrder-clause-bytes g c = rw c.in-EarlyOrder.is c.write_all-in-EarlyOrder.ensures.bytes
