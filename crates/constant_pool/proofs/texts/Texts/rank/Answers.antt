use Rattle.std.proofs.Common.{◌≡◌, Some, slice_get, ap, subst, ◌∙◌}
use Rattle.std.specs.Option.{unwrap_or}
use Rattle.jvm_base.specs.declared.pool.PoolItem.TheVariants.{Gap}
use Rattle.constant_pool.specs.Facts.Ranks.{rank_at}
use Rattle.constant_pool.proofs.RankLaws.{rank_kept, tells}
use Rattle.constant_pool.proofs.texts.Texts.rank.Goals as goal

pub returns-clause-value : goal.returns-clause-value
returns-clause-value c = c.unwrap_or.ensures ∙ ap (λ rank. unwrap_or rank 0) c.kept.ensures ∙ rank_kept c.self.inside.pool.now c.self.inside.ranks.now c.args.index c.self.invariant.1 ∙ ap (λ pool. rank_at pool c.args.index) c.self.view_is

pub returns-clause-tells : goal.returns-clause-tells
returns-clause-tells c = tells c.args.self.now (subst (λ pool. slice_get pool 0 ≡ Some Gap) c.self.view_is c.self.invariant.2) c.args.index c.unwrap_or.result (returns-clause-value c)
