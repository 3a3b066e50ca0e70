use Rattle.link_members.specs.Signs.{item_texts}
use Rattle.link_members.proofs.SignLaws.{texts_more}
use Rattle.link_members.proofs.signs.add_pool.Goals as goal

pub loop-item-preserved : goal.loop-item-preserved
loop-item-preserved c = texts_more item_texts c.args.pool.now c.loop-item.item-index c.item-item.result c.loop-item.names c.add_item.new.names _ c.loop-item-test.true c.item-item.is c.in_ok-add_item.ensures c.loop-item.invariant
