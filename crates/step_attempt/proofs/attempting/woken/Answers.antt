use Rattle.std.proofs.Common.{◌≡◌, ℕ, List, Option, sym, subst}
use Rattle.machine_state.specs.declared.state.MonitorState.{MonitorState}
use Rattle.machine_state.specs.declared.state.Waiter.{Waiter}
use Rattle.machine_state.specs.Locks.{retakes}
use Rattle.machine_state.specs.State.{owner_at, waiters_of}
use Rattle.step_serve.specs.Telling.{TellsOf}
use Rattle.machine_state.specs.Step.{retaken}
use Rattle.shared_state.specs.Parts.{thread_state}
use Rattle.step_attempt.specs.Going.{IsTold, state_at}
use Rattle.step_attempt.specs.declared.going.Going.{Going}
use Rattle.step_attempt.proofs.Told.{told_woken}
use Rattle.step_attempt.proofs.attempting.woken.Goals as goal

pub returns : goal.returns
returns c =
    let site = c.args.site.now in
    let th = thread_state c.args.thread.now in
    subst (λ (o : Option Going). IsTold site.image.now (state_at site) site.wish th (λ x. retaken (state_at site) x th.levels c.args.lock c.args.count) o) (sym c.going_on.ensures)
    (told_woken site.image.now (state_at site) site.wish th c.args.lock c.args.count c.retake-served.result
    (subst (λ (t : ℕ). TellsOf site.shared.now.heap site.wish (λ x. retakes t c.args.lock c.args.count (owner_at site.shared.now.monitors c.args.lock) (waiters_of c.args.lock site.shared.now.waiting)) c.retake-served.result) c.thread_in.ensures
    (subst (λ (o : Option MonitorState). TellsOf site.shared.now.heap site.wish (λ x. retakes c.thread_in.result c.args.lock c.args.count o (waiters_of c.args.lock site.shared.now.waiting)) c.retake-served.result) c.owner.ensures
    (subst (λ (ws : List Waiter). TellsOf site.shared.now.heap site.wish (λ x. retakes c.thread_in.result c.args.lock c.args.count c.owner.result (waiters_of c.args.lock ws)) c.retake-served.result) c.waiting.ensures
    (c.retake-served.ensures site.shared.now.heap)))))
