use Rattle.std.proofs.Common.{◌≡◌, take}
use Rattle.frame_ops.specs.Stepping.{call_values}
use Rattle.step_plan.proofs.values.call_values.Given as goal

abbrev pub invariant-loop-i : goal.invariant-loop-i
invariant-loop-i l = l.values ≡ take l.i (call_values l.count l.stack.values)
