use Rattle.std.proofs.Common.{[], refl, subst}
use Rattle.machine_state.specs.BootClasses.{monitor_state}
use Rattle.machine_state.specs.Deeds.{Deed, faulted}
use Rattle.machine_state.specs.Locks.{sleeps}
use Rattle.step_serve.specs.Telling.{Tells}
use Rattle.step_serve.proofs.Owners.{by_some}
use Rattle.step_serve.proofs.locks.wait.Goals as goal

pub returns-in-Some : goal.returns-in-Some
returns-in-Some g c =
    let heap = g.N.Names.heap c.args.server.now.names.now in
    let other = faulted c.args.server.now.image.now c.plain.result.choice.name monitor_state in
    subst (λ (d : Deed). Tells heap c.args.server.now.wish d c.plain.result)
    (by_some c.args.thread c.args.owner other (sleeps c.args.thread c.args.lock) c.owned_by.result c.in-Some.held c.owned_by.ensures c.in-Some.is)
    (c.plain.ensures heap (sleeps c.args.thread c.args.lock c.in-Some.held) (record { makes = refl; waiters = refl; changes = refl; answers = refl }))
