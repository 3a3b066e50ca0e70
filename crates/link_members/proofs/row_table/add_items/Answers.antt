use Rattle.class_names.specs.Texts.{class_text}
use Rattle.link_rules.specs.Numbers.{number_of}
use Rattle.link_members.proofs.ToldLaws.{numbers_more}
use Rattle.link_members.proofs.row_table.add_items.Goals as goal

pub loop-item-preserved : goal.loop-item-preserved
loop-item-preserved c =
    numbers_more (number_of c.args.program.now) (class_text c.args.pool.now) c.args.items.now c.loop-item.item-index c.loop-item.row c.add_item.new.row _ c.loop-item-test.true c.in_ok-add_item.ensures c.loop-item.invariant
