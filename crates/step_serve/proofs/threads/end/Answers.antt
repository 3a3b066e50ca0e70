use Rattle.std.proofs.Common.{Option, refl, sym, subst}
use Rattle.jvm_base.specs.declared.name.Name.{Name}
use Rattle.machine_state.specs.Serve.{ends}
use Rattle.step_serve.specs.Telling.{Tells}
use Rattle.step_serve.proofs.threads.end.Goals as goal

pub returns-in-None : goal.returns-in-None
returns-in-None c = λ heap.
    subst (λ (o : Option Name). Tells heap c.args.wish (ends c.args.thread o) c.changing.result)
    (sym c.in-None.is)
    (c.changing.ensures heap _ (record { makes = refl; waiters = refl; changes = refl; answers = refl }))

pub returns-in-Some : goal.returns-in-Some
returns-in-Some c = λ heap.
    subst (λ (o : Option Name). Tells heap c.args.wish (ends c.args.thread o) c.plain.result)
    (sym c.in-Some.is)
    (c.plain.ensures heap _ (record { makes = refl; waiters = refl; changes = refl; answers = refl }))
