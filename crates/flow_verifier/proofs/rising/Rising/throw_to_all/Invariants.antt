use Rattle.std.proofs.Common.{◌≡◌, ℕ, ◌+◌, ◌≤◌}
use Rattle.flow_verifier.specs.Worklist.Going.{IsThrowing}
use Rattle.flow_verifier.specs.Worklist.Potential.{potential}
use Rattle.flow_verifier.proofs.rising.Rising.throw_to_all.Given as goal

abbrev pub invariant-loop-k : goal.invariant-loop-k
invariant-loop-k g l = record {
  throwing : IsThrowing l.image l.m l.catch l.k l.self;
  at : l.catch.at ≡ l.initial.catch.at;
  handlers : l.catch.handlers ≡ l.initial.catch.handlers;
  falls : (w : ℕ → ℕ) → potential l.image l.m w l.self.frames l.self.todo ≤ potential l.image l.m w l.initial.self.frames l.initial.self.todo;
  cost : l.steps ≤ l.initial.steps + l.k;
}
