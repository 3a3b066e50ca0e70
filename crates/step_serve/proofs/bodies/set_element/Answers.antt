use Rattle.std.proofs.Common.{ℤ, w32, ◌∙◌, ap, sym}
use Rattle.std.specs.Prelude.{unsigned_abs}
use Rattle.std.proofs.lemmas.Int.{to_z-of_z}
use Rattle.step_serve.proofs.Elements.{set_told}
use Rattle.step_serve.proofs.bodies.set_element.Goals as goal

pub returns-then-takes : goal.returns-then-takes
returns-then-takes g c =
    let heap = g.N.Names.heap c.args.server.now.names.now in
    let index = to_z-of_z w32 c.args.index c.ranges.index in
    set_told heap c.args.server.now.wish c.args.server.now.image.now c.args.name c.args.index
    c.args.value c.unsigned_abs.result _ c.changing.result
    (sym c.in_ok-takes.ensures ∙ c.if-takes.true)
    (c.unsigned_abs.ensures.value ∙ ap (λ (i : ℤ). unsigned_abs i) index)
    (c.changing.ensures heap)
