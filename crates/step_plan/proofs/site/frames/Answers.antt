use Rattle.std.proofs.Common.{◌≡◌, ◌+◌, ◌∙◌, ◌∷◌, [], sym, ap, take, Some, arith}
use Rattle.std.specs.Prelude.{slice_get}
use Rattle.std.proofs.lemmas.Option.{slice_get-get_or}
use Rattle.step_plan.proofs.Taking.{take_all}
use Rattle.machine_state.specs.Frames.{frames}
use Rattle.step_plan.proofs.DepthLaws.{frames_next, frames_reverse}
use Rattle.step_plan.proofs.site.frames.Goals as goal

pub loop-level-preserved : goal.loop-level-preserved
loop-level-preserved c =
    let levels = c.args.levels.now in
    let i = c.loop-level.level-index in
    let level = c.level-item.result in
    let here : slice_get levels i ≡ Some level = slice_get-get_or levels i level c.loop-level-test.true ∙ ap Some (sym c.level-item.is) in
    let next : frames (take (i + 1) levels) ≡ frames (take i levels) + frames (level ∷ []) = frames_next levels i level here in
    let counted = c.loop-level.invariant.counted in
    let few = c.loop-level.invariant.few in
    let one = c.frame_count-count.ensures in
    record { counted = omega (arith, next, counted, one.count); few = omega (arith, few, one.few) }

pub returns : goal.returns
returns c = c.loop-level.invariant.counted ∙ ap frames (take_all c.args.levels.now c.loop-level.level-index c.loop-level-test.false) ∙ sym (frames_reverse c.args.levels.now)
