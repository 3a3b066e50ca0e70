use Rattle.std.proofs.Common.{◌≡◌, map, take}
use Rattle.frame_ops.specs.Stepping.{call_values}
use Rattle.machine_state.specs.Instructions.{size_of}
use Rattle.step_plan.proofs.values.sizes.Given as goal

abbrev pub invariant-loop-i : goal.invariant-loop-i
invariant-loop-i l = l.sizes ≡ map size_of (take l.i (call_values l.count l.stack.values))
