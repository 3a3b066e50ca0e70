use Rattle.std.proofs.Common.{[], Bool, None, refl, sym, subst}
use Rattle.std.specs.Prelude.{if◌then◌else◌}
use Rattle.machine_state.specs.BootClasses.{monitor_state}
use Rattle.machine_state.specs.Deeds.{faulted, quiet}
use Rattle.step_serve.specs.Telling.{Tells}
use Rattle.step_serve.proofs.locks.unowned.Goals as goal

pub returns-then-raising : goal.returns-then-raising
returns-then-raising g c =
    let heap = g.N.Names.heap c.args.server.now.names.now in
    subst (λ (b : Bool). Tells heap c.args.server.now.wish (if b then quiet None else faulted c.args.server.now.image.now c.quiet.result.choice.name monitor_state) c.quiet.result)
    (sym c.if-raising.true)
    (c.quiet.ensures heap (quiet None) (record { makes = refl; waiters = refl; changes = refl; answers = refl }))
