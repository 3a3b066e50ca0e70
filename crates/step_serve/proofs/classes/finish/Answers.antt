use Rattle.std.proofs.Common.{[], ◌∷◌, Bool, Option, Some, None, refl, sym, ap, ◌∙◌, subst}
use Rattle.std.specs.Prelude.{if◌then◌else◌}
use Rattle.machine_state.specs.Changes.{Becomes}
use Rattle.machine_state.specs.Deeds.{Deed, changing}
use Rattle.machine_state.specs.declared.state.ClassState.TheVariants as class_state
use Rattle.step_serve.specs.Telling.{TellsSome}
use Rattle.step_serve.proofs.classes.finish.Goals as goal

pub returns-then-is_runner : goal.returns-then-is_runner
returns-then-is_runner c = λ heap.
    let d : Deed = changing (Becomes c.args.class class_state.Done ∷ []) None in
    subst (λ (o : Option Deed). TellsSome heap c.args.wish o c.changing.result)
    (sym (c.is_runner.ensures d ∙ ap (λ (b : Bool). if b then Some d else None) c.if-is_runner.true))
    (c.changing.ensures heap d (record { makes = refl; waiters = refl; changes = refl; answers = refl }))
