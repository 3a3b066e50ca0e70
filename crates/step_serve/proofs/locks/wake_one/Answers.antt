use Rattle.std.proofs.Common.{[], None, refl, sym, ◌∙◌, subst}
use Rattle.machine_state.specs.Deeds.{Deed, locking}
use Rattle.machine_state.specs.Events.{Notifies}
use Rattle.machine_state.specs.State.{waiters_of}
use Rattle.step_serve.specs.Telling.{Tells}
use Rattle.step_serve.proofs.Sleeping.{none_sleeps}
use Rattle.step_serve.proofs.locks.wake_one.Goals as goal

pub returns-in-None : goal.returns-in-None
returns-in-None c = λ heap.
    subst (λ (d : Deed). Tells heap c.args.wish d c.quiet.result)
    (none_sleeps c.args.lock c.quiet.result.choice.pick (waiters_of c.args.lock c.args.waiting.now) (sym c.first_waiter.ensures ∙ c.in-None.is))
    (c.quiet.ensures heap (locking (Notifies c.args.lock None) []) (record { makes = refl; waiters = refl; changes = refl; answers = refl }))
