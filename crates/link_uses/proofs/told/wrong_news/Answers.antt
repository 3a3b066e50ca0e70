use Rattle.std.proofs.Common.{ap, ◌∙◌}
use Rattle.link_uses.specs.Uses.{is_wrong_new}
use Rattle.link_rules.proofs.MarkLaws.{tested_more}
use Rattle.link_uses.proofs.told.wrong_news.Goals as goal

pub loop-index-preserved : goal.loop-index-preserved
loop-index-preserved c =
    let test = is_wrong_new c.args.program.now in
    tested_more test c.args.pool.now c.loop-index.told c.push.new.self c.is_wrong_new.result c.loop-index.index c.loop-index.invariant.0 c.loop-index.invariant.1 (c.is_wrong_new.ensures ∙ ap test c.text.ensures) c.in_ok-push.ensures.ok
