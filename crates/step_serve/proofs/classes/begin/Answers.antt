use Rattle.std.proofs.Common.{Option, Some, refl, sym, ap, ◌∙◌, subst}
use Rattle.machine_state.specs.declared.state.ClassState.{ClassState}
use Rattle.machine_state.specs.Serve.{begins}
use Rattle.step_serve.specs.Telling.{TellsSome}
use Rattle.step_serve.proofs.classes.begin.Goals as goal

pub returns-in-Untouched : goal.returns-in-Untouched
returns-in-Untouched c = λ heap.
    subst (λ (o : Option ClassState). TellsSome heap c.args.wish (begins c.args.thread c.args.class o) c.changing.result)
    (sym (c.in-Some.is ∙ ap (λ (s : ClassState). Some s) c.in-Untouched.is))
    (c.changing.ensures heap _ (record { makes = refl; waiters = refl; changes = refl; answers = refl }))
