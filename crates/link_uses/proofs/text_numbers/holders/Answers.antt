use Rattle.std.proofs.Common.{ap, ◌∙◌}
use Rattle.link_rules.specs.Numbers.{holder_of}
use Rattle.link_uses.proofs.TextLaws.{of_more}
use Rattle.link_uses.proofs.text_numbers.holders.Goals as goal

pub loop-index-preserved : goal.loop-index-preserved
loop-index-preserved c =
    of_more (holder_of c.args.program.now) c.args.pool.now c.loop-index.told c.push.new.self c.holder.result c.loop-index.index c.loop-index.invariant.0 c.loop-index.invariant.1 (c.holder.ensures.value ∙ ap (holder_of c.args.program.now) c.text.ensures) c.in_ok-push.ensures.ok
