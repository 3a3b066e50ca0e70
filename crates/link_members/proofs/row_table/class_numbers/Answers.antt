use Rattle.std.proofs.Common.{ap, ◌∙◌}
use Rattle.link_rules.specs.Numbers.{number_of}
use Rattle.link_members.proofs.ToldLaws.{told_more}
use Rattle.link_members.proofs.row_table.class_numbers.Goals as goal

pub loop-index-preserved : goal.loop-index-preserved
loop-index-preserved c =
    told_more (number_of c.args.program.now) c.args.pool.now c.loop-index.told c.push.new.self c.number.result c.loop-index.index c.loop-index.invariant.0 c.loop-index.invariant.1 (c.number.ensures.at ∙ ap (number_of c.args.program.now) c.text.ensures) c.in_ok-push.ensures.ok
