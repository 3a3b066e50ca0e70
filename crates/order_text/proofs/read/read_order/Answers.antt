use Rattle.order_text.proofs.OneReading.{gives_order, gives_fault}
use Rattle.order_text.proofs.read.read_order.Goals as goal

pub returns-clause-only : goal.returns-clause-only
returns-clause-only c order is = gives_order c.args.bytes.now c.read.result c.read.ensures.found c.read.ensures.fault order is

pub returns-clause-only_fault : goal.returns-clause-only_fault
returns-clause-only_fault c line is = gives_fault c.args.bytes.now c.read.result c.read.ensures.found c.read.ensures.fault line is
