use Rattle.std.proofs.Common.{◌≡◌, sym, ◌∙◌}
use Rattle.std.specs.Prelude.{reverse}
use Rattle.shared_state.specs.Parts.{thread_state}
use Rattle.step_attempt.specs.Going.{state_at}
use Rattle.step_attempt.proofs.Nexts.{told_calls}
use Rattle.step_attempt.proofs.perform.call.Goals as goal

pub returns-in-Some : goal.returns-in-Some
returns-in-Some c =
    let site = c.args.site.now in
    let th = c.args.thread.now in
    told_calls site.image.now (state_at site) site.wish th.object th.mode th.steps (reverse th.levels.items) c.args.method c.args.values.now c.in-Some.frame c.alone.result (sym c.in-Some.is ∙ c.in_ok-new_frame.ensures) (c.alone.ensures site.image.now (state_at site) (thread_state th))
