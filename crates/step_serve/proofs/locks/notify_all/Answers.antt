use Rattle.std.proofs.Common.{[], refl, subst}
use Rattle.machine_state.specs.BootClasses.{monitor_state}
use Rattle.machine_state.specs.Deeds.{Deed, faulted}
use Rattle.machine_state.specs.Locks.{notifies_all}
use Rattle.machine_state.specs.declared.state.MonitorState.{MonitorState}
use Rattle.step_serve.specs.Telling.{Tells}
use Rattle.step_serve.proofs.Owners.{by_some}
use Rattle.step_serve.proofs.locks.notify_all.Goals as goal

pub returns-in-Some : goal.returns-in-Some
returns-in-Some g c =
    let heap = g.N.Names.heap c.args.server.now.names.now in
    let other = faulted c.args.server.now.image.now c.changing.result.choice.name monitor_state in
    let f : MonitorState → Deed = λ o. notifies_all c.args.lock in
    subst (λ (d : Deed). Tells heap c.args.server.now.wish d c.changing.result)
    (by_some c.args.thread c.args.owner other f c.owned_by.result c.in-Some.field-0 c.owned_by.ensures c.in-Some.is)
    (c.changing.ensures heap (notifies_all c.args.lock) (record { makes = refl; waiters = refl; changes = refl; answers = refl }))
