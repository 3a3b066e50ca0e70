use Rattle.std.proofs.Common.{length}
use Rattle.order_text.proofs.Reading.{Reads}
use Rattle.order_text.proofs.read.read.Given as goal

abbrev pub invariant-loop-choice : goal.invariant-loop-choice
invariant-loop-choice l = Reads l.bytes l.order l.rest l.line

abbrev pub decreases-loop-choice : goal.decreases-loop-choice
decreases-loop-choice l = length l.rest
