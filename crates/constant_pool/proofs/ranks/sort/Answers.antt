use Rattle.std.proofs.Common.{rules, is_lt}
use Rattle.std.proofs.lemmas.Fn.{always_returns_same}
use Rattle.constant_pool.specs.Items.{text_at}
use Rattle.constant_pool.specs.Facts.Ranks.{text_cmp}
use Rattle.constant_pool.proofs.RankLaws.{text_ranks}
use Rattle.constant_pool.proofs.ranks.sort.Goals as goal

pub returns-clause-sorted : goal.returns-clause-sorted
returns-clause-sorted c =
    c.sort_unstable_by.ensures.sorted (λ i j. is_lt (text_cmp (text_at c.args.pool.now i) (text_at c.args.pool.now j))) (text_ranks c.args.pool.now) (always_returns_same _ _ _ (λ a r f k. search rules))
