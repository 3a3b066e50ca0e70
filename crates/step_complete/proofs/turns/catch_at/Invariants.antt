use Rattle.std.proofs.Common.{◌≡◌, length}
use Rattle.step_complete.proofs.turns.catch_at.Given as goal

abbrev pub invariant-loop : goal.invariant-loop
invariant-loop l =
    l.frame ≡ record l.fn.frame {
      stack = record { values = l.frame.stack.values; room = l.fn.frame.stack.room };
    }

abbrev pub decreases-loop : goal.decreases-loop
decreases-loop l = length l.frame.stack.values
