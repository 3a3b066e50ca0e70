use Rattle.std.proofs.Common.{ℕ, ◌+◌, ◌≤◌}
use Rattle.flow_verifier.specs.Worklist.Going.{IsVisiting}
use Rattle.flow_verifier.specs.Worklist.Potential.{potential}
use Rattle.flow_verifier.proofs.rising.Rising.go_on.Given as goal

abbrev pub invariant-loop-k : goal.invariant-loop-k
invariant-loop-k g l = record {
  visiting : IsVisiting l.image l.m l.visit l.k l.self;
  falls : (w : ℕ → ℕ) → potential l.image l.m w l.self.frames l.self.todo ≤ potential l.image l.m w l.initial.self.frames l.initial.self.todo;
  cost : l.steps ≤ l.initial.steps + l.k;
}
