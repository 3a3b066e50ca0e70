use Rattle.std.proofs.Common.{◌≡◌, List, length, Some, None, refl, arith, rules}
use Rattle.std.specs.Prelude.{slice_get}
use Rattle.std.proofs.lemmas.Option.{slice_get_read}
use Rattle.class_format.specs.declared.class.ClassFile.{ClassFile}
use Rattle.one_jvm.proofs.TextLemmas.{past_of, more_texts, text_there}
use Rattle.one_jvm.proofs.verify_text.method_of.Goals as goal

pub returns-in-Some : goal.returns-in-Some
returns-in-Some c =
    let classes : List ClassFile = c.args.classes.now in
    let at : slice_get classes c.loop-class.class-index ≡ Some c.class-item.result = slice_get_read classes (length classes) c.loop-class.class-index c.class-item.result refl (omega arith) c.class-item.is in
    text_there classes c.loop-class.class-index c.class-item.result c.loop-class.rest c.args.number c.in-Some.method.now at (search rules) c.loop-class.invariant

pub overflow_sub-rest : goal.overflow_sub-rest
overflow_sub-rest c =
    let none : slice_get c.class-item.result.methods c.loop-class.rest ≡ None = search rules in
    let past = past_of c.class-item.result.methods c.loop-class.rest none in
    omega (arith, past, c.len-rest.ensures)

pub loop-class-preserved : goal.loop-class-preserved
loop-class-preserved c =
    let classes : List ClassFile = c.args.classes.now in
    let at : slice_get classes c.loop-class.class-index ≡ Some c.class-item.result = slice_get_read classes (length classes) c.loop-class.class-index c.class-item.result refl (omega arith) c.class-item.is in
    let none : slice_get c.class-item.result.methods c.loop-class.rest ≡ None = search rules in
    omega (arith, c.loop-class.invariant, more_texts classes c.loop-class.class-index c.class-item.result at, past_of c.class-item.result.methods c.loop-class.rest none, c.len-rest.ensures)
