use Rattle.constant_pool.specs.Items.{text_of, text_at}
use Rattle.constant_pool.proofs.Filled.{IsFilled}
use Rattle.constant_pool.proofs.ranks.fill_indices.Given as goal

abbrev pub invariant-loop-index : goal.invariant-loop-index
invariant-loop-index l = IsFilled text_of (text_at l.pool) l.pool l.indices l.index
