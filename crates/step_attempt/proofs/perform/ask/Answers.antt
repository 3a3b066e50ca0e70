use Rattle.std.proofs.Common.{◌≡◌, Option, refl, sym, subst}
use Rattle.machine_state.specs.Step.{served}
use Rattle.shared_state.specs.Parts.{thread_state}
use Rattle.step_attempt.specs.Going.{IsTold, state_at}
use Rattle.step_attempt.specs.declared.going.Going.{Going}
use Rattle.step_attempt.proofs.Told.{told_asked}
use Rattle.step_attempt.proofs.perform.ask.Goals as goal

pub returns : goal.returns
returns c =
    let site = c.args.site.now in
    let th = thread_state c.args.thread.now in
    subst (λ (o : Option Going). IsTold site.image.now (state_at site) site.wish th (λ x. served site.image.now (state_at site) x th.mode th.levels c.args.request) o) (sym c.going_on.ensures)
    (told_asked site.image.now (state_at site) site.wish th c.args.request c.asked_of-asked.result c.in_ok-served.served
    c.asked_of-asked.ensures.asked (λ x. c.asked_of-asked.ensures.alike site.image.now x th.mode th.levels) c.requires.asks
    (c.in_ok-served.ensures (state_at site) refl c.cell-place.ensures))
