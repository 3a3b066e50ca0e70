use Rattle.std.proofs.Common.{subst}
use Rattle.class_format.specs.Meaning.{IsClass}
use Rattle.class_format.proofs.FormedLaws.{all_more}
use Rattle.flow_verifier_tests.proofs.judged.are_formed.Goals as goal

pub loop-class-preserved : goal.loop-class-preserved
loop-class-preserved c =
    let here = c.well_formed-in-loop-class.ensures.0 c.if-not-well_formed.false in
    all_more IsClass c.args.files.now c.loop-class.class-index c.class-item.result c.loop-class.invariant c.loop-class-test.true (subst IsClass c.class-item.is here)
