use Rattle.std.proofs.Common.{ℤ, w32, ◌∙◌, ap}
use Rattle.std.proofs.lemmas.Int.{to_z-of_z}
use Rattle.machine_state.specs.Bodies.{element_at}
use Rattle.step_serve.proofs.Elements.{load_told}
use Rattle.step_serve.proofs.bodies.load_element.Goals as goal

pub returns-in-Some : goal.returns-in-Some
returns-in-Some g c = λ n.
    let heap = g.N.Names.heap c.args.server.now.names.now in
    load_told heap c.args.server.now.wish c.args.server.now.image.now n c.args.index
    c.args.elements.now c.in-Some.value c.quiet.result
    (c.in-Some.ensures ∙ ap (λ (i : ℤ). element_at i c.args.elements.now) (to_z-of_z w32 c.args.index c.ranges.index))
    (c.quiet.ensures heap)
