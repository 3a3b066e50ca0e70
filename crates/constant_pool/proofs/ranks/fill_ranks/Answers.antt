use Rattle.std.proofs.Common.{◌∙◌, ap}
use Rattle.jvm_base.specs.declared.pool.PoolItem.TheVariants.{Gap}
use Rattle.constant_pool.specs.Items.{text_of, text_at}
use Rattle.constant_pool.specs.Facts.Ranks.{rank_of}
use Rattle.constant_pool.proofs.Filled.{filled_more}
use Rattle.constant_pool.proofs.RankLaws.{rank_among, text_there}
use Rattle.constant_pool.proofs.ranks.fill_ranks.Goals as goal

pub loop-index-preserved : goal.loop-index-preserved
loop-index-preserved c =
    let pool = c.args.pool.now in
    let index = c.loop-index.index in
    let value = c.rank.ensures.value ∙ rank_among pool c.fill_indices.new.indices c.sort.new.indices (text_at pool index) c.fill_indices.ensures c.sort.ensures.permutation in
    filled_more (λ item. rank_of pool (text_of item)) (λ rank. rank) pool c.loop-index.ranks index Gap c.rank.result c.loop-index-test.true (value ∙ ap (rank_of pool) (text_there pool index Gap c.loop-index-test.true)) c.loop-index.invariant
