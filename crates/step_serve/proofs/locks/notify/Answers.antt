use Rattle.std.proofs.Common.{[], subst}
use Rattle.machine_state.specs.BootClasses.{monitor_state}
use Rattle.machine_state.specs.Deeds.{Deed, faulted}
use Rattle.machine_state.specs.Locks.{notifies}
use Rattle.machine_state.specs.State.{waiters_of}
use Rattle.machine_state.specs.declared.state.MonitorState.{MonitorState}
use Rattle.step_serve.specs.Telling.{Tells}
use Rattle.step_serve.proofs.Owners.{by_some}
use Rattle.step_serve.proofs.locks.notify.Goals as goal

pub returns-in-Some : goal.returns-in-Some
returns-in-Some g c =
    let heap = g.N.Names.heap c.args.server.now.names.now in
    let other = faulted c.args.server.now.image.now c.wake_one.result.choice.name monitor_state in
    let f : MonitorState → Deed = λ o. notifies c.args.lock c.wake_one.result.choice.pick (waiters_of c.args.lock c.args.waiting.now) in
    subst (λ (d : Deed). Tells heap c.args.server.now.wish d c.wake_one.result)
    (by_some c.args.thread c.args.owner other f c.owned_by.result c.in-Some.field-0 c.owned_by.ensures c.in-Some.is)
    (c.wake_one.ensures heap)
