use Rattle.one_jvm.proofs.OneVerdict.{one_verdict, one_status, one_end}
use Rattle.one_jvm.proofs.laws.verdict_is_one.Goals as goal

pub returns-clause-one : goal.returns-clause-one
returns-clause-one c = one_verdict (record { order = c.one_order.ensures; fault = c.one_fault.ensures })

pub returns-clause-status : goal.returns-clause-status
returns-clause-status c = one_status (record { order = c.one_order.ensures; fault = c.one_fault.ensures })

pub returns-clause-end : goal.returns-clause-end
returns-clause-end c = one_end (record { order = c.one_order.ensures; fault = c.one_fault.ensures })
