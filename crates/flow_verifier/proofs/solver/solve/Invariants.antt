use Rattle.std.proofs.Common.{◌+◌, ◌≤◌}
use Rattle.flow_verifier.specs.Typing.{most_steps}
use Rattle.flow_verifier.specs.Worklist.Catching.{IsCatching}
use Rattle.flow_verifier.specs.Worklist.Going.{IsMarked, IsGoing}
use Rattle.flow_verifier.specs.Worklist.Potential.{steps_left, turns_left}
use Rattle.flow_verifier.proofs.solver.solve.Given as goal

abbrev pub invariant-loop-at : goal.invariant-loop-at
invariant-loop-at g l = record {
  going : IsGoing l.image l.m l.rising.frames l.rising.todo;
  marked : IsMarked l.rising;
  catching : IsCatching l.image l.m l.rising.frames l.rising.catches;
  cost : l.steps + steps_left l.image l.m l.rising.frames l.rising.todo ≤ l.initial.steps + most_steps l.image l.m;
}

abbrev pub decreases-loop-at : goal.decreases-loop-at
decreases-loop-at g l = turns_left l.image l.m l.rising.frames l.rising.todo
