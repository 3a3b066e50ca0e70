use Rattle.constant_pool.specs.Items.{text_of}
use Rattle.constant_pool.specs.Facts.Ranks.{rank_of}
use Rattle.constant_pool.proofs.Filled.{IsFilled}
use Rattle.constant_pool.proofs.ranks.fill_ranks.Given as goal

abbrev pub invariant-loop-index : goal.invariant-loop-index
invariant-loop-index l = IsFilled (λ item. rank_of l.pool (text_of item)) (λ rank. rank) l.pool l.ranks l.index
