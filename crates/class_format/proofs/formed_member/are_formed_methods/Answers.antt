use Rattle.std.proofs.Common.{subst}
use Rattle.class_format.specs.Judging.Formed.{FormedMethod}
use Rattle.class_format.proofs.FormedLaws.{all_more}
use Rattle.class_format.proofs.formed_member.are_formed_methods.Goals as goal

pub loop-method-preserved : goal.loop-method-preserved
loop-method-preserved c =
    let here = subst (FormedMethod c.args.texts.now) c.method-item.is (c.is_formed_method.ensures.0 c.if-not-is_formed_method.false) in
    all_more (FormedMethod c.args.texts.now) c.args.methods.now c.loop-method.method-index c.method-item.result c.loop-method.invariant c.loop-method-test.true here
