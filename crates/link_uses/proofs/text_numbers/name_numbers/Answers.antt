use Rattle.std.proofs.Common.{ap, ◌∙◌}
use Rattle.link_members.specs.Signs.{name_number}
use Rattle.link_uses.proofs.TextLaws.{of_more}
use Rattle.link_uses.proofs.text_numbers.name_numbers.Goals as goal

pub loop-index-preserved : goal.loop-index-preserved
loop-index-preserved c =
    of_more (name_number c.args.names.now) c.args.pool.now c.loop-index.told c.push.new.self c.number.result c.loop-index.index c.loop-index.invariant.0 c.loop-index.invariant.1 (c.number.ensures.at ∙ ap (name_number c.args.names.now) c.text.ensures) c.in_ok-push.ensures.ok
