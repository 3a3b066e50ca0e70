use Rattle.std.proofs.Common.{◌≡◌, Option, Some, sym, ap, ◌∙◌}
use Rattle.std.specs.Prelude.{map, option_map, slice_get}
use Rattle.std.specs.Option.{option_copied}
use Rattle.shared_state.specs.Parts.{thread_state}
use Rattle.step_attempt.specs.Going.{state_at}
use Rattle.one_machine.proofs.Ables.{can_of}
use Rattle.one_machine.proofs.Planning.{can_plan, no_levels}
use Rattle.one_machine.proofs.able.can_step.Goals as goal

pub attempt-requires-clause-can : goal.attempt-requires-clause-can
attempt-requires-clause-can c =
    let ready = c.requires in
    can_plan c.args.site.now.image.now ready.types ready.accepted (state_at c.args.site.now) c.args.thread (thread_state c.in-Some.it.now) ready.sound
    (sym c.thread_at.ensures ∙ ap (λ o. option_map thread_state (option_copied o)) c.in-Some.is)

pub attempt-requires-clause-entry : goal.attempt-requires-clause-entry
attempt-requires-clause-entry c =
    let ready = c.requires in
    no_levels c.args.site.now.image.now ready.types (state_at c.args.site.now) c.args.thread (thread_state c.in-Some.it.now) ready.sound
    (sym c.thread_at.ensures ∙ ap (λ o. option_map thread_state (option_copied o)) c.in-Some.is)

pub returns : goal.returns
returns c =
    c.is_step.ensures
    ∙ can_of c.args.site.now.image.now (state_at c.args.site.now) c.args.thread c.any_step.result (slice_get (map thread_state c.args.site.now.threads.now) c.args.thread) (thread_state c.in-Some.it.now) c.in_ok-attempt.field-0 c.any_step.ensures
    (sym c.thread_at.ensures ∙ ap (λ o. option_map thread_state (option_copied o)) c.in-Some.is) c.in_ok-attempt.ensures
