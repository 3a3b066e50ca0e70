use Rattle.class_format.specs.Meaning.{FitsEntry}
use Rattle.class_format.proofs.FormedLaws.{all_more}
use Rattle.class_format.proofs.formed_member.are_entries.Goals as goal

pub loop-item-preserved : goal.loop-item-preserved
loop-item-preserved c =
    let here = c.is_entry.ensures.0 c.if-not-is_entry.false in
    all_more (FitsEntry c.args.texts.now) c.args.table.now c.loop-item.item-index _ c.loop-item.invariant c.loop-item-test.true here
