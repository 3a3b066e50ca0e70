use Rattle.std.proofs.Common.{◌≡◌, refl, ℕ, true, false, sym, ap, subst, ◌∙◌}
use Rattle.std.specs.Prelude.{drop, slice_get}
use Rattle.machine_state.specs.Runs.{some_can}
use Rattle.step_attempt.specs.Going.{state_at}
use Rattle.one_machine.specs.Ready.{able, IsFirst}
use Rattle.one_machine.proofs.Ables.{passed, there, first_here, first_further}
use Rattle.one_machine.proofs.able.first_able.Goals as goal

pub loop-at-init : goal.loop-at-init
loop-at-init c = (refl, first_here c.args.site.now.image.now (state_at c.args.site.now) c.args.from)

pub returns-then-branch-clause-able : goal.returns-then-branch-clause-able
returns-then-branch-clause-able c =
    let m = state_at c.args.site.now in
    there c.args.site.now.image.now m c.in-Ok.thread (slice_get m.threads c.in-Ok.thread) (sym c.in_ok-can_step.ensures ∙ c.if-branch.true)

pub returns-then-branch-clause-first : goal.returns-then-branch-clause-first
returns-then-branch-clause-first c =
    let m = state_at c.args.site.now in
    subst (λ (t : ℕ). IsFirst c.args.site.now.image.now m c.args.from t) (sym c.in-Ok.ensures.1) c.loop-at.invariant.1

pub loop-at-preserved : goal.loop-at-preserved
loop-at-preserved c =
    let m = state_at c.args.site.now in
    let unable = subst (λ (t : ℕ). able c.args.site.now.image.now m t (slice_get m.threads t) ≡ false) c.in-Ok.ensures.1 (sym c.in_ok-can_step.ensures ∙ c.if-branch.false) in (
      passed c.args.site.now.image.now m c.loop-at.at (some_can c.args.site.now.image.now m c.args.from (drop c.args.from m.threads)) unable c.loop-at.invariant.0,
      first_further c.args.site.now.image.now m c.args.from c.loop-at.at c.loop-at.invariant.1 unable,
    )
