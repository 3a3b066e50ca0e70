use Rattle.std.proofs.Common.{◌≡◌, Some, sym, ap, subst, ◌∙◌}
use Rattle.std.proofs.lemmas.Option.{slice_get_within}
use Rattle.std.specs.Prelude.{slice_get, reverse}
use Rattle.machine_state.specs.Step.{after}
use Rattle.shared_state.specs.Parts.{thread_state}
use Rattle.shared_state.specs.declared.thread.Thread.{Thread}
use Rattle.step_after.specs.Going.{stand_of}
use Rattle.one_machine.proofs.Doing.{next_state, item_there}
use Rattle.one_machine.proofs.perform.perform.Goals as goal

pub returns-clause-ok : goal.returns-clause-ok
returns-clause-ok c =
    let both : Some c.index_mut.result.now ≡ Some c.in_ok-steps.ensures.ready.new = sym (item_there c.change.new.threads.items c.args.at c.index_mut.result.now (slice_get_within c.change.new.threads.items c.args.at c.in_ok-steps.ensures.ready.new c.in_ok-steps.ensures.ready.is_new) c.index_mut.ensures.value) ∙ c.in_ok-steps.ensures.ready.is_new in
    let one : c.index_mut.result.now ≡ c.in_ok-steps.ensures.ready.new = cc in
    next_state c.args.image.now c.args.shared.now c.change.new.shared c.args.threads.now.items c.change.new.threads.items c.end.new.threads.items c.args.at c.in_ok-steps.steps c.args.going c.finish.new.thread c.in_ok-steps.ended
    c.in_ok-steps.ensures.ready c.requires.orderly c.in_ok-steps.ensures.ok c.in_ok-steps.ensures.ended
    (subst (λ (t : Thread). thread_state c.finish.new.thread ≡ after (thread_state t) (stand_of c.args.image.now c.args.going.after c.args.going.served.answer t.mode (reverse t.levels.items))) one c.finish.ensures)
    c.end.ensures
