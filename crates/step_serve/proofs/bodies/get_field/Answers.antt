use Rattle.std.proofs.Common.{length, refl, sym}
use Rattle.std.proofs.lemmas.Option.{slice_get_read, slice_get_past}
use Rattle.step_serve.proofs.Elements.{get_told, get_none}
use Rattle.step_serve.proofs.bodies.get_field.Goals as goal

pub returns-in-Some : goal.returns-in-Some
returns-in-Some c = λ heap n.
    get_told heap c.args.wish n c.args.place c.args.fields.now c.in-Some.value.now c.quiet.result
    (sym (slice_get_read c.args.fields.now (length c.args.fields.now) c.args.place c.in-Some.value.now refl c.in-Some.ensures.lookup.3.0 c.in-Some.ensures.lookup.1))
    (c.quiet.ensures heap)

pub returns-in-None : goal.returns-in-None
returns-in-None c = λ heap n ch.
    get_none n c.args.place c.args.fields.now
    (sym (slice_get_past c.args.fields.now c.args.place c.in-None.ensures.lookup.3))
