use Rattle.std.proofs.Common.{◌∙◌, ap₂}
use Rattle.constant_pool.specs.Facts.Ranks.{text_cmp}
use Rattle.constant_pool.proofs.RankLaws.{on_units}
use Rattle.constant_pool.proofs.ranks.text_order.Goals as goal

pub returns : goal.returns
returns c = c.cmp.ensures ∙ on_units c.units_at.result c.units_at-2.result ∙ ap₂ text_cmp c.units_at.ensures c.units_at-2.ensures
