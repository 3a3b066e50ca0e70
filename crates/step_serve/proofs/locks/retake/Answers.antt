use Rattle.std.proofs.Common.{Option, refl, sym, ◌∙◌, subst}
use Rattle.machine_state.specs.Deeds.{Deed}
use Rattle.machine_state.specs.State.{waiters_of}
use Rattle.step_serve.specs.Telling.{TellsSome}
use Rattle.step_serve.proofs.Sleeping.{retake_is}
use Rattle.step_serve.proofs.locks.retake.Goals as goal

pub returns : goal.returns
returns c = λ heap.
    subst (λ (o : Option Deed). TellsSome heap c.args.wish o c.own.result)
    (retake_is c.args.thread c.args.lock c.args.count c.args.owner (waiters_of c.args.lock c.args.waiting.now) (sym c.is_some.ensures ∙ c.if-is_some.false) (sym c.is_waiter.ensures ∙ c.if-is_waiter.false))
    (c.own.ensures heap _ (record { makes = refl; waiters = refl; changes = refl; answers = refl }))
