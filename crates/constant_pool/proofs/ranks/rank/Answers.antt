use Rattle.std.proofs.Common.{rules}
use Rattle.std.proofs.lemmas.List.Sorted.{IsPartitionPoint-from_clause}
use Rattle.constant_pool.specs.Items.{text_at}
use Rattle.constant_pool.specs.Facts.Ranks.{comes_before}
use Rattle.constant_pool.proofs.RankLaws.{partitioned, searched}
use Rattle.constant_pool.proofs.ranks.rank.Goals as goal

pub returns-clause-value : goal.returns-clause-value
returns-clause-value c =
    let pool = c.args.pool.now in
    let text = text_at pool c.args.index in
    searched pool c.args.sorted.now text c.partition_point.result c.partition_point.ensures.bound
    (IsPartitionPoint-from_clause (λ i. comes_before (text_at pool i) text) c.args.sorted.now c.partition_point.result c.partition_point.ensures.partitioned
    (partitioned pool c.args.sorted.now text c.requires) (λ a r q k. search rules))
