use Rattle.std.proofs.Common.{ℕ, Option, Some, refl, sym, ap, ◌∙◌, subst}
use Rattle.std.specs.Prelude.{option_map}
use Rattle.machine_state.specs.Bodies.{len, count_value}
use Rattle.machine_state.specs.declared.request.Answer.TheVariants.{Gives}
use Rattle.step_serve.specs.declared.cell.BodyRef.{BodyRef}
use Rattle.step_serve.specs.Cells.{lent_body}
use Rattle.step_serve.specs.Telling.{TellsSome}
use Rattle.step_serve.proofs.bodies.len.Goals as goal

pub returns-in-Array : goal.returns-in-Array
returns-in-Array c = λ heap.
    subst (λ (o : Option BodyRef). TellsSome heap c.args.wish (len (option_map lent_body o)) c.counted.result)
    (sym (c.in-Some.is ∙ ap (λ (b : BodyRef). Some b) c.in-Array.is))
    (c.counted.ensures heap _ (record { makes = refl; waiters = refl; changes = refl; answers = refl }))
