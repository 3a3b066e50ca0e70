-- All threads have ended, or none can step.
use Rattle.std.proofs.Common.{ap, ◌∙◌, sym}
use Rattle.std.specs.List.{list_all}
use Rattle.machine_state.specs.declared.state.ThreadState.{ThreadState}
use Rattle.machine_state.specs.State.{is_ended}
use Rattle.scheduler.specs.Running.{Run}
use Rattle.scheduler.proofs.Limits.{no_items, some_items, ends_done, ends_dead}
use Rattle.scheduler.proofs.run.Run.standstill.Goals as goal

pub returns-then-is_empty : goal.returns-then-is_empty
returns-then-is_empty c =
    let all = ap (λ (a : Run). list_all
    (λ (th : ThreadState). is_ended th.mode) a.machine.state.threads) c.self.view_is in
    let uncaught = ap (λ (a : Run). a.machine.state.uncaught) c.self.view_is in (
      ends_done c.args.image.now c.args.self.now.machine.state
          (sym all ∙ sym c.if-all_ended.ensures),
      sym uncaught ∙ sym c.uncaught.ensures
          ∙ no_items c.uncaught.result.now (sym c.if-is_empty.ensures),
    )

pub returns-else-is_empty : goal.returns-else-is_empty
returns-else-is_empty c =
    let all = ap (λ (a : Run). list_all
    (λ (th : ThreadState). is_ended th.mode) a.machine.state.threads) c.self.view_is in
    let uncaught = ap (λ (a : Run). a.machine.state.uncaught) c.self.view_is in (
      ends_done c.args.image.now c.args.self.now.machine.state
          (sym all ∙ sym c.if-all_ended.ensures),
      λ e. some_items c.uncaught.result.now (sym c.if-is_empty.ensures)
          (c.uncaught.ensures ∙ uncaught ∙ e),
    )

pub returns-in-None : goal.returns-in-None
returns-in-None c =
    let all = ap (λ (a : Run). list_all
    (λ (th : ThreadState). is_ended th.mode) a.machine.state.threads) c.self.view_is in (
      ends_dead c.args.image.now c.args.self.now.machine.state
          (sym all ∙ sym c.if-all_ended.ensures) c.requires,
      c.in-None.ensures,
    )
