use Rattle.std.proofs.Common.{[], ◌∷◌, None, refl, ap, subst}
use Rattle.std.specs.Prelude.{if◌then◌else◌}
use Rattle.machine_state.specs.BootClasses.{monitor_state}
use Rattle.machine_state.specs.Changes.{Change}
use Rattle.machine_state.specs.Deeds.{Deed, faulted, quiet}
use Rattle.machine_state.specs.Locks.{leaves}
use Rattle.step_serve.specs.Telling.{Tells}
use Rattle.step_serve.proofs.Owners.{by_some}
use Rattle.step_serve.proofs.locks.exit.Goals as goal

pub returns-in-Some : goal.returns-in-Some
returns-in-Some g c =
    let heap = g.N.Names.heap c.args.server.now.names.now in
    let other = if c.args.raising then quiet None else faulted c.args.server.now.image.now c.changing.result.choice.name monitor_state in
    subst (λ (d : Deed). Tells heap c.args.server.now.wish d c.changing.result)
    (by_some c.args.thread c.args.owner other (leaves c.args.lock) c.owned_by.result c.in-Some.held c.owned_by.ensures c.in-Some.is)
    (c.changing.ensures heap (leaves c.args.lock c.in-Some.held) (record { makes = refl; waiters = refl; changes = ap (λ (x : Change). x ∷ []) (c.released.ensures heap); answers = refl }))
