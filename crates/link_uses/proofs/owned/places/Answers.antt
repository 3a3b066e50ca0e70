use Rattle.std.proofs.Common.{◌≡◌, ◌+◌, ◌∙◌, sym, ap, length, length-append, arith}
use Rattle.link_uses.proofs.OwnedBuilt.{class_more, class_all}
use Rattle.link_uses.proofs.owned.places.Goals as goal

pub loop-class-preserved : goal.loop-class-preserved
loop-class-preserved c = λ key. class_more c.args.program.now c.args.names.now c.args.kind c.loop-class.class key _ _ (c.loop-class.invariant key) (c.in_ok-add_class.ensures key)

pub returns : goal.returns
returns c =
    let both : length c.parts.result.0.now + length c.parts.result.1.now ≡ length c.args.program.now = sym (length-append c.parts.result.0.now c.parts.result.1.now) ∙ ap length c.parts.ensures in
    let n : length c.args.program.now ≡ c.loop-class.class = (let a = c.loop-class-test.false in let b = c.loop-class.auto.class-end in omega arith) in
    class_all c.args.program.now c.args.names.now c.args.kind c.loop-class.places.entries c.loop-class.class n c.loop-class.invariant
