use Rattle.std.proofs.Common.{List, [], ◌∷◌, ◌+◌, ◌*◌, ◌-◌, ◌++◌, map, ap, ◌∙◌}
use Rattle.jvm_base.specs.Names.{named}
use Rattle.jvm_base.specs.declared.value.ObjectBody.{ObjectBody}
use Rattle.machine_state.specs.Making.{arrays}
use Rattle.machine_state.specs.declared.served.Effect.{Effect}
use Rattle.machine_state.specs.declared.served.Effect.TheVariants as effect
use Rattle.step_serve.proofs.Rows.{arrays-next}
use Rattle.step_serve.proofs.arrays.push_level.Goals as goal

pub loop-place-preserved : goal.loop-place-preserved
loop-place-preserved c =
    let level = c.args.level in
    let place = c.loop-place.place in
    ap (λ (es : List Effect). es ++ map (λ o. effect.Made o.0 o.1) (arrays c.args.image.now level.node level.class (level.count - (place + 1)) (level.index + (place + 1)) (level.index + level.count + (place + 1) * c.args.size) (c.args.size ∷ c.args.below.now)))
    (c.in_ok-push.ensures.ok
    ∙ ap (λ (body : ObjectBody). c.loop-place.effects ++ effect.Made (named level.node level.class (level.index + place)) body ∷ []) c.in_ok-body.ensures)
    ∙ arrays-next c.args.image.now level.node level.class level.count level.index place c.args.size c.args.below.now c.loop-place.effects c.loop-place-test.true
    ∙ c.loop-place.invariant
