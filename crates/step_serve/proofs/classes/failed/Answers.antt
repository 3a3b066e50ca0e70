use Rattle.std.proofs.Common.{Bool, refl, sym, subst}
use Rattle.machine_state.specs.Serve.{fails}
use Rattle.step_serve.specs.Telling.{Tells}
use Rattle.step_serve.proofs.classes.failed.Goals as goal

pub returns-else-made : goal.returns-else-made
returns-else-made g c =
    let heap = g.N.Names.heap c.args.server.now.names.now in
    subst (λ (b : Bool). Tells heap c.args.server.now.wish (fails c.args.server.now.image.now c.changing.result.choice.name c.args.class b) c.changing.result)
    (sym c.if-made.false)
    (c.changing.ensures heap _ (record { makes = refl; waiters = refl; changes = refl; answers = refl }))
