use Rattle.std.proofs.Common.{◌≡◌, ℕ, ◌+◌, List, [], ◌==◌, ap, sym, subst, ◌∙◌, arith}
use Rattle.std.specs.Prelude.{reverse}
use Rattle.jvm_base.specs.declared.frame.Level.{Level}
use Rattle.machine_state.specs.declared.request.Request.{Request}
use Rattle.machine_state.specs.declared.state.Mode.TheVariants.{Entry}
use Rattle.machine_state.specs.Frames.{frames}
use Rattle.machine_state.specs.Next.{Needs}
use Rattle.machine_state.specs.Plan.{plan}
use Rattle.machine_state.specs.State.{body_at}
use Rattle.machine_state.specs.Step.{text_in}
use Rattle.shared_state.specs.Parts.{thread_state}
use Rattle.step_after.specs.Conditions.{LevelsAsk}
use Rattle.step_plan.specs.Depth.{stepper}
use Rattle.step_plan.specs.Shown.{shown, shown_next, top_frame}
use Rattle.step_serve.proofs.Addressed.{ok_on}
use Rattle.step_attempt.specs.Going.{state_at}
use Rattle.step_attempt.proofs.Told.{plan_asks, told_awake}
use Rattle.step_attempt.proofs.attempting.awake.Goals as goal

pub follow-requires-clause-asks : goal.follow-requires-clause-asks
follow-requires-clause-asks c =
    let p = c.args.site.now.image.now in
    let t = c.in_ok-plan.plan in
    let by = stepper (c.thread_in.result == 0) c.args.thread.now.object 0 c.as_slice.result.now (λ n. text_in (body_at c.args.site.now.shared.now.heap n)) in
    subst (λ (ls : List Level). (r : Request) → shown_next p (top_frame (reverse ls)) t.next ≡ Needs r → LevelsAsk p r (reverse ls)) c.as_slice.ensures.value
    (plan_asks p by c.args.thread.now.mode (reverse c.as_slice.result.now) (top_frame (reverse c.as_slice.result.now)) t c.in_ok-plan.ensures.plan
    (subst (λ (ls : List Level). c.args.thread.now.mode ≡ Entry → reverse ls ≡ []) (sym c.as_slice.ensures.value) c.requires.entry))

-- no frames lie below
none_below : (n : ℕ) → 0 + n ≡ n
none_below n = omega arith

pub returns : goal.returns
returns c =
    let site = c.args.site.now in
    let th = c.args.thread.now in
    let t = c.in_ok-plan.plan in
    let is = subst (λ (ls : List Level). shown site.image.now (top_frame (reverse ls)) t ≡ plan site.image.now (stepper (c.thread_in.result == 0) th.object 0 ls (λ n. text_in (body_at site.shared.now.heap n))) th.mode (reverse ls)) c.as_slice.ensures.value c.in_ok-plan.ensures.plan in
    let deeper = ap (λ (d : ℕ). plan site.image.now (record { first = c.thread_in.result == 0; object = th.object; depth = d; known = λ n. text_in (body_at site.shared.now.heap n) }) th.mode (reverse th.levels.items)) (none_below (frames (reverse th.levels.items))) in
    ok_on c.follow.result (λ o h. told_awake site.image.now (state_at site) site.wish (thread_state th) c.thread_in.result (top_frame (reverse th.levels.items)) t o c.thread_in.ensures (is ∙ deeper) h) c.follow.ensures
