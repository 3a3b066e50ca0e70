use Rattle.std.proofs.Common.{Bool, Option, Some, refl, sym, ap, ◌∙◌, subst}
use Rattle.machine_state.specs.Serve.{joins}
use Rattle.step_serve.specs.Telling.{TellsSome}
use Rattle.step_serve.proofs.threads.join.Goals as goal

pub returns-in-None : goal.returns-in-None
returns-in-None c = λ heap.
    subst (λ (o : Option Bool). TellsSome heap c.args.wish (joins o) c.quiet-in-None.result)
    (sym c.in-None.is)
    (c.quiet-in-None.ensures heap _ (record { makes = refl; waiters = refl; changes = refl; answers = refl }))

pub returns-in-Some-true : goal.returns-in-Some-true
returns-in-Some-true c = λ heap.
    subst (λ (o : Option Bool). TellsSome heap c.args.wish (joins o) c.quiet.result)
    (sym (c.in-Some-true.is ∙ ap (λ (b : Bool). Some b) c.in-Some-true.field-0-test))
    (c.quiet.ensures heap _ (record { makes = refl; waiters = refl; changes = refl; answers = refl }))
