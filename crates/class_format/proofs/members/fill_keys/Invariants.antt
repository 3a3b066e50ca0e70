use Rattle.constant_pool.proofs.Filled.{IsFilled}
use Rattle.class_format.specs.Judging.Keys.{key_ranks}
use Rattle.class_format.proofs.members.fill_keys.Given as goal

abbrev pub invariant-loop-at : goal.invariant-loop-at
invariant-loop-at g l = IsFilled (λ member. key_ranks l.texts (g.T.Named.key member)) (λ key. key) l.members l.keys l.at
