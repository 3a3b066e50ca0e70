use Rattle.std.proofs.Common.{Option, Some, refl, sym, subst}
use Rattle.machine_state.specs.declared.state.MonitorState.{MonitorState}
use Rattle.machine_state.specs.Locks.{enter}
use Rattle.step_serve.specs.Telling.{TellsSome}
use Rattle.step_serve.proofs.locks.enter.Goals as goal

pub returns-in-None : goal.returns-in-None
returns-in-None c = λ heap.
    subst (λ (o : Option MonitorState). TellsSome heap c.args.wish (enter c.args.thread c.args.lock o) c.own.result)
    (sym c.in-None.is)
    (c.own.ensures heap _ (record { makes = refl; waiters = refl; changes = refl; answers = refl }))
