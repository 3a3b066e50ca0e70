use Rattle.std.proofs.Common.{Bool, Option, refl, sym, subst}
use Rattle.machine_state.specs.Serve.{starts}
use Rattle.step_serve.specs.Telling.{Tells}
use Rattle.step_serve.proofs.threads.start.Goals as goal

pub returns-in-None : goal.returns-in-None
returns-in-None g c =
    let heap = g.N.Names.heap c.args.server.now.names.now in
    subst (λ (o : Option Bool). Tells heap c.args.server.now.wish (starts c.args.server.now.image.now c.changing.result.choice.name c.args.object o) c.changing.result)
    (sym c.in-None.is)
    (c.changing.ensures heap _ (record { makes = refl; waiters = refl; changes = refl; answers = refl }))
