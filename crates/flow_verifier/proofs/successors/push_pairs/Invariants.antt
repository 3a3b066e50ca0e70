use Rattle.std.proofs.Common.{◌≡◌, ◌++◌, drop}
use Rattle.std.specs.Prelude.{map}
use Rattle.flow_verifier.specs.Worklist.Leading.{jump_places}
use Rattle.flow_verifier.proofs.successors.push_pairs.Given as goal

abbrev pub invariant-loop-k : goal.invariant-loop-k
invariant-loop-k l = l.out ++ jump_places l.ops (map (λ p. p.1) (drop l.k l.pairs)) ≡ l.initial.out ++ jump_places l.ops (map (λ p. p.1) l.pairs)
