use Rattle.std.proofs.Common.{◌≡◌, ◌+◌, length}
use Rattle.frame_ops_tests.proofs.frames.operands.Given as goal

abbrev pub invariant-loop-value : goal.invariant-loop-value
invariant-loop-value l = (length l.stack.values ≡ l.value-index) × (l.stack.room ≡ length l.values + 2)
