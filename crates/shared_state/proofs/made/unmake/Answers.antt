use Rattle.std.proofs.Common.{◌≡◌, ◌∙◌, ap, ◌<◌, ◌-◌, ◌+◌, length, take, arith, refl}
use Rattle.std.proofs.lemmas.Option.{slice_get_read}
use Rattle.shared_state.specs.Making.{all_unmade}
use Rattle.shared_state.proofs.MakingLaws.{unmade_next}
use Rattle.shared_state.proofs.made.unmake.Goals as goal

pub loop-left-preserved : goal.loop-left-preserved
loop-left-preserved c =
    let es = c.args.effects.now in
    let left = c.loop-left.left in
    let within : left - 1 < length es = omega (arith, c.loop-left.invariant.0, c.loop-left-test.true) in
    let back : (left - 1) + 1 ≡ left = omega (arith, c.loop-left-test.true) in
    let e = c.index-effects-left.result in
    let there = slice_get_read es _ (left - 1) e refl within c.index-effects-left.is in
    (omega (arith, within), ap (all_unmade (take (left - 1) es)) c.unmake_one.ensures ∙ (unmade_next es (left - 1) e c.loop-left.heap there ∙ (ap (λ k. all_unmade (take k es) c.loop-left.heap) back ∙ c.loop-left.invariant.1)))
