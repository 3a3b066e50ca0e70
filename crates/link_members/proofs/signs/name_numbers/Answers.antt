use Rattle.std.proofs.Common.{ap, ◌∙◌}
use Rattle.link_members.specs.Signs.{name_number}
use Rattle.link_members.proofs.ToldLaws.{told_more}
use Rattle.link_members.proofs.signs.name_numbers.Goals as goal

pub loop-index-preserved : goal.loop-index-preserved
loop-index-preserved c =
    told_more (name_number c.args.names.now) c.args.pool.now c.loop-index.told c.push.new.self c.number.result c.loop-index.index c.loop-index.invariant.0 c.loop-index.invariant.1 (c.number.ensures.at ∙ ap (name_number c.args.names.now) c.text.ensures) c.in_ok-push.ensures.ok
