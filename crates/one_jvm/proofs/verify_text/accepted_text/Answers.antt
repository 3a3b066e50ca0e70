use Rattle.std.proofs.Common.{◌≡◌, List, length, Some, refl, arith}
use Rattle.std.specs.Prelude.{slice_get}
use Rattle.std.proofs.lemmas.Option.{slice_get_read}
use Rattle.class_format.specs.declared.class.ClassFile.{ClassFile}
use Rattle.one_jvm.proofs.TextLemmas.{coded_short, more_coded}
use Rattle.one_jvm.proofs.verify_text.accepted_text.Goals as goal

pub overflow_add-methods : goal.overflow_add-methods
overflow_add-methods c =
    let classes : List ClassFile = c.args.classes.now in
    let at : slice_get classes c.loop-class.class-index ≡ Some c.class-item.result = slice_get_read classes (length classes) c.loop-class.class-index c.class-item.result refl (omega arith) c.class-item.is in
    let short = coded_short classes c.loop-class.class-index c.class-item.result c.requires.formed at in
    let few = c.requires.few in
    omega (arith, c.loop-class.invariant.1, short, c.coded_methods.ensures, c.loop-class-test.true, few)

pub loop-class-preserved : goal.loop-class-preserved
loop-class-preserved c =
    let classes : List ClassFile = c.args.classes.now in
    let at : slice_get classes c.loop-class.class-index ≡ Some c.class-item.result = slice_get_read classes (length classes) c.loop-class.class-index c.class-item.result refl (omega arith) c.class-item.is in
    let short = coded_short classes c.loop-class.class-index c.class-item.result c.requires.formed at in (
      omega (arith, c.loop-class.invariant.0, more_coded classes c.loop-class.class-index c.class-item.result at, c.coded_methods.ensures),
      omega (arith, c.loop-class.invariant.1, short, c.coded_methods.ensures),
    )
