use Rattle.jvm_base.specs.declared.pool.PoolItem.TheVariants.{Gap}
use Rattle.constant_pool.specs.Items.{text_of, text_at}
use Rattle.constant_pool.proofs.Filled.{filled_more}
use Rattle.constant_pool.proofs.RankLaws.{text_there}
use Rattle.constant_pool.proofs.ranks.fill_indices.Goals as goal

pub loop-index-preserved : goal.loop-index-preserved
loop-index-preserved c =
    let pool = c.args.pool.now in
    filled_more text_of (text_at pool) pool c.loop-index.indices c.loop-index.index Gap c.loop-index.index c.loop-index-test.true (text_there pool c.loop-index.index Gap c.loop-index-test.true) c.loop-index.invariant
