use Rattle.std.proofs.Common.{ℕ, List, [], ◌∷◌, ◌++◌, Option, Some, None, refl, sym, ap, ◌∙◌, subst}
use Rattle.jvm_base.specs.declared.value.Value.{Value}
use Rattle.jvm_base.specs.declared.value.ObjectBody.{ObjectBody}
use Rattle.machine_state.specs.Bodies.{appending, measuring, count_value}
use Rattle.machine_state.specs.Changes.{SetsContent}
use Rattle.machine_state.specs.Deeds.{Deed, quiet, making_text}
use Rattle.machine_state.specs.Events.{ContentOf, Content}
use Rattle.machine_state.specs.Serving.{content_of}
use Rattle.machine_state.specs.declared.request.Answer.TheVariants.{Gives}
use Rattle.step_serve.specs.Telling.{Tells}
use Rattle.step_serve.proofs.Buffering.{by_new, by_text, by_length, by_other}
use Rattle.step_serve.proofs.buffers.by_method.Goals as goal

pub returns-then-method-eq-NEW_BUFFER : goal.returns-then-method-eq-NEW_BUFFER
returns-then-method-eq-NEW_BUFFER g c = λ at.
    let heap = g.N.Names.heap c.args.server.now.names.now in
    subst (λ (d : Deed). Tells heap c.args.server.now.wish d c.quiet.result)
    (by_new c.quiet.result.choice.name c.args.name c.args.method c.args.units c.args.content.now c.if-method-eq-NEW_BUFFER.true)
    (c.quiet.ensures heap (quiet None) (record { makes = refl; waiters = refl; changes = refl; answers = refl }))

pub returns-then-method-eq-BUFFER_TEXT : goal.returns-then-method-eq-BUFFER_TEXT
returns-then-method-eq-BUFFER_TEXT g c = λ at.
    let heap = g.N.Names.heap c.args.server.now.names.now in
    let reads = (ContentOf c.args.name, Content c.args.content.now) ∷ [] in
    subst (λ (d : Deed). Tells heap c.args.server.now.wish d c.text.result)
    (ap (λ (us : List ℕ). making_text c.text.result.choice.name reads us) c.in_ok-from_slice.ensures
    ∙ by_text c.text.result.choice.name c.args.name c.args.method c.args.units c.args.content.now c.if-method-eq-BUFFER_TEXT.true)
    (c.text.ensures reads)

pub returns-then-method-eq-BUFFER_LENGTH : goal.returns-then-method-eq-BUFFER_LENGTH
returns-then-method-eq-BUFFER_LENGTH g c = λ at.
    let heap = g.N.Names.heap c.args.server.now.names.now in
    subst (λ (d : Deed). Tells heap c.args.server.now.wish d c.counted.result)
    (by_length c.counted.result.choice.name c.args.name c.args.method c.args.units c.args.content.now c.if-method-eq-BUFFER_LENGTH.true)
    (c.counted.ensures heap (measuring c.args.name c.args.content.now) (record { makes = refl; waiters = refl; changes = refl; answers = refl }))

pub returns : goal.returns
returns g c = λ at.
    let heap = g.N.Names.heap c.args.server.now.names.now in
    subst (λ (d : Deed). Tells heap c.args.server.now.wish d c.plain.result)
    (by_other c.plain.result.choice.name c.args.name c.args.method c.args.units c.args.content.now c.if-method-eq-NEW_BUFFER.false c.if-method-eq-BUFFER_TEXT.false c.if-method-eq-BUFFER_LENGTH.false)
    (c.plain.ensures heap (appending c.args.name c.args.method c.args.units c.args.content.now) (record { makes = refl; waiters = refl; changes = ap (λ (o : Option ObjectBody). SetsContent c.args.name (content_of o ++ c.args.units) ∷ []) at; answers = ap (λ (v : Option Value). Gives v) c.appended.ensures }))
