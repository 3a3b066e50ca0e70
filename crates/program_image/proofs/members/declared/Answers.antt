use Rattle.std.proofs.Common.{◌≡◌, ◌∙◌, sym, ap, Some, length, arith}
use Rattle.std.proofs.lemmas.Option.{slice_get-get_or}
use Rattle.program_image.proofs.MemberLaws.{declared_more, declared_all}
use Rattle.program_image.proofs.members.declared.Goals as goal

pub loop-class-preserved : goal.loop-class-preserved
loop-class-preserved c = λ key. declared_more c.args.classes.now c.args.methods.now c.args.signs.now c.loop-class.class c.index-classes-class.result key _ _ (slice_get-get_or c.args.classes.now c.loop-class.class c.index-classes-class.result c.loop-class-test.true ∙ ap Some (sym c.index-classes-class.is)) (c.loop-class.invariant key) (c.in_ok-add_methods.ensures key)

pub returns : goal.returns
returns c =
    let n : length c.args.classes.now ≡ c.loop-class.class = (let a = c.loop-class-test.false in let b = c.loop-class.auto.class-end in omega arith) in
    declared_all c.args.classes.now c.args.methods.now c.args.signs.now c.loop-class.declared.entries c.loop-class.class n c.loop-class.invariant
