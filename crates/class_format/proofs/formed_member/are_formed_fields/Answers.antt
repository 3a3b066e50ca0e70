use Rattle.class_format.specs.Judging.Formed.{FormedField}
use Rattle.class_format.proofs.FormedLaws.{all_more}
use Rattle.class_format.proofs.formed_member.are_formed_fields.Goals as goal

pub loop-field-preserved : goal.loop-field-preserved
loop-field-preserved c =
    let here = c.is_formed_field.ensures.0 c.if-not-is_formed_field.false in
    all_more (FormedField c.args.texts.now) c.args.fields.now c.loop-field.field-index _ c.loop-field.invariant c.loop-field-test.true here
