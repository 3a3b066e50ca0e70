use Rattle.std.proofs.Common.{ℤ, w32, ◌∙◌, ap, subst}
use Rattle.std.proofs.lemmas.Int.{to_z-of_z}
use Rattle.machine_state.specs.Bodies.{element_at, takes_value}
use Rattle.step_serve.specs.Elements.{stored}
use Rattle.step_serve.specs.Telling.{Tells}
use Rattle.step_serve.proofs.Addressed.{ok_on}
use Rattle.step_serve.proofs.Elements.{store_told}
use Rattle.step_serve.proofs.bodies.store_element.Goals as goal

pub returns-in-Some : goal.returns-in-Some
returns-in-Some g c =
    let heap = g.N.Names.heap c.args.server.now.names.now in
    let index = to_z-of_z w32 c.args.index c.ranges.index in
    ok_on c.set_element.result
    (λ s told. store_told heap c.args.server.now.wish
    c.args.server.now.image.now c.args.name c.args.index c.args.value c.in-Some.field-0
    c.args.elements.now s
    (c.in-Some.ensures ∙ ap (λ (i : ℤ). element_at i c.args.elements.now) index)
    (subst (λ (i : ℤ). Tells heap c.args.server.now.wish (stored c.args.server.now.image.now s.choice.name c.args.name i c.args.value (takes_value c.args.server.now.image.now c.args.name.class c.args.value)) s) index told))
    c.set_element.ensures
