use Rattle.std.proofs.Common.{sym}
use Rattle.step_plan.proofs.bodies.body_plan.Goals as goal

pub instruction_plan-requires-clause-can : goal.instruction_plan-requires-clause-can
instruction_plan-requires-clause-can g c = c.requires.can.here c.in-Some.placed.now c.requires.body (sym c.in-Some.ensures.instruction)
