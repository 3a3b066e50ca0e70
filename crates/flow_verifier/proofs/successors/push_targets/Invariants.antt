use Rattle.std.proofs.Common.{◌≡◌, ◌++◌, drop}
use Rattle.flow_verifier.specs.Worklist.Leading.{jump_places}
use Rattle.flow_verifier.proofs.successors.push_targets.Given as goal

abbrev pub invariant-loop-k : goal.invariant-loop-k
invariant-loop-k l = l.out ++ jump_places l.ops (drop l.k l.to) ≡ l.initial.out ++ jump_places l.ops l.to
