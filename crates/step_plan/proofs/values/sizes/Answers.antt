use Rattle.std.proofs.Common.{◌≡◌, ◌∙◌, ◌∷◌, [], ◌++◌, sym, ap, take, map, Some}
use Rattle.std.specs.Prelude.{slice_get}
use Rattle.frame_ops.specs.Stepping.{call_values}
use Rattle.machine_state.specs.Instructions.{size_of}
use Rattle.step_plan.proofs.Taking.{map_next}
use Rattle.step_plan.proofs.values.sizes.Goals as goal

pub loop-i-preserved : goal.loop-i-preserved
loop-i-preserved c =
    let vs = call_values c.args.count c.args.stack.now.values in
    let i = c.loop-i.i in
    let here : slice_get vs i ≡ Some c.in-Some.value = sym c.argument.ensures ∙ c.in-Some.is in
    c.in_ok-push-in-Some.ensures.ok
    ∙ ap (λ xs. xs ++ c.size_of.result ∷ []) c.loop-i.invariant
    ∙ ap (λ s. map size_of (take i vs) ++ s ∷ []) c.size_of.ensures
    ∙ sym (map_next size_of vs i c.in-Some.value here)
