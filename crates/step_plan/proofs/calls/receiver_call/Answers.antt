use Rattle.std.proofs.Common.{◌≡◌, ◌∙◌, ◌-◌, ◌==◌, sym, ap, subst, Some, false, inl, inr}
use Rattle.std.specs.Prelude.{slice_get, IfOk}
use Rattle.std.proofs.lemmas.Bool.Decides.{eqb_tells}
use Rattle.jvm_base.specs.declared.value.Value.TheVariants.{Ref}
use Rattle.code_table.specs.declared.opcode.TheConstants as code
use Rattle.step_plan.specs.Depth.{who_at}
use Rattle.step_plan.specs.Shown.{shown_next}
use Rattle.step_plan.proofs.Receiving.{receiver_selected}
use Rattle.step_plan.proofs.calls.receiver_call.Goals as goal

pub returns-else-op-eq-INVOKESPECIAL-clause-next : goal.returns-else-op-eq-INVOKESPECIAL-clause-next
returns-else-op-eq-INVOKESPECIAL-clause-next g c =
    let p = c.args.site.now.image.now in
    let who = who_at c.args.site.now (g.T.Texts.known c.args.texts.now) in
    let f = c.args.frame.now in
    let vs = f.stack.values in
    let at : slice_get vs (c.args.count - 1) ≡ Some (Ref c.in-Some-Ref.receiver) = sym c.get.ensures ∙ c.in-Some-Ref.is ∙ ap Some c.in-Some-Ref.field-0-is in
    let other : (c.args.op == code.INVOKESPECIAL) ≡ false =
    elim (eqb_tells c.args.op code.INVOKESPECIAL) [
      | inl w ↦ absurd (c.if-op-eq-INVOKESPECIAL.false w.1)
      | inr w ↦ w.0
    ] in
    subst (λ q. IfOk c.selected_call.result (λ r. shown_next p (Some f) r ≡ q)) (sym (receiver_selected p who f c.args.op c.args.method c.args.count vs c.in-Some-Ref.receiver c.requires.some c.requires.enough at other)) c.selected_call.ensures.next
