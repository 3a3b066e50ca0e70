use Rattle.std.proofs.Common.{◌≡◌, ◌∙◌, sym, refl}
use Rattle.flow_types.specs.Frames.{clash_frame}
use Rattle.flow_verifier.specs.Given.{open_rules, frame_after}
use Rattle.flow_verifier.specs.declared.method.Edge.TheVariants.{Next}
use Rattle.flow_verifier.proofs.GivenLaws.{given-open}
use Rattle.flow_verifier.proofs.Rules.{some_broken}
use Rattle.flow_verifier.proofs.given.given_next.Goals as goal

pub returns-in-Some : goal.returns-in-Some
returns-in-Some c = λ to.
    let broken = some_broken (open_rules c.args.image.now c.args.m.now c.args.i c.args.f.now) c.in-Some.field-0 (cc (c.in_ok-work.ensures.rule, c.in-Some.is)) in
    let after : frame_after c.args.image.now c.args.m.now c.args.i c.args.f.now ≡ clash_frame = rw broken refl in
    c.clash-in-Some.ensures ∙ sym (given-open c.args.image.now c.args.m.now c.args.i c.args.f.now (Next to) (sym c.is_clash.ensures ∙ c.if-is_clash.false) ∙ after)
