use Rattle.std.proofs.Common.{Option, Some, sym, ap, ◌∙◌, subst}
use Rattle.std.specs.Prelude.{option_map}
use Rattle.machine_state.specs.Bodies.{get}
use Rattle.step_serve.specs.declared.cell.BodyRef.{BodyRef}
use Rattle.step_serve.specs.Cells.{lent_body}
use Rattle.step_serve.specs.Telling.{TellsOf}
use Rattle.step_serve.proofs.bodies.get.Goals as goal

pub returns-in-Fields : goal.returns-in-Fields
returns-in-Fields c = λ heap n.
    subst (λ (o : Option BodyRef). TellsOf heap c.args.wish (λ ch. get n c.args.place (option_map lent_body o)) c.get_field.result)
    (sym (c.in-Some.is ∙ ap (λ (b : BodyRef). Some b) c.in-Fields.is))
    (c.get_field.ensures heap n)
