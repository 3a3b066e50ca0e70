use Rattle.std.proofs.Common.{List, suc, drop, subst}
use Rattle.jvm_base.specs.declared.pool.PoolItem.{PoolItem}
use Rattle.class_format.specs.Meaning.{AreItems}
use Rattle.class_format.proofs.FormedLaws.{next_of}
use Rattle.class_format.proofs.formed_pool.are_items.Goals as goal

pub returns-in-None : goal.returns-in-None
returns-in-None c =
    let items = c.args.items.now in
    let i = c.loop-item.item-index in
    (λ t. absurd cc, λ h. absurd (c.in-None.ensures (drop (suc i) items) (subst (λ (z : List PoolItem). AreItems c.loop-item.after_wide z) (next_of items i c.item-item.result c.loop-item-test.true c.item-item.is) (c.loop-item.invariant.0 h))))
