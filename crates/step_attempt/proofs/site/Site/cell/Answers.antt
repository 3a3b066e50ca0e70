use Rattle.std.proofs.Common.{◌≡◌, sym, subst}
use Rattle.machine_state.specs.declared.request.Request.{Request}
use Rattle.machine_state.specs.declared.request.Request.TheVariants.{Enter, Exit, Wait, Notify, NotifyAll}
use Rattle.step_serve.specs.Cells.{IsCell}
use Rattle.step_attempt.specs.Going.{state_at}
use Rattle.step_attempt.proofs.site.Site.cell.Goals as goal

pub returns-in-Enter : goal.returns-in-Enter
returns-in-Enter c =
    subst (λ (r : Request). IsCell (state_at c.args.self.now) r c.lock.result) (sym c.in-Enter.is) (c.lock.ensures c.args.request.now)

pub returns-in-Exit : goal.returns-in-Exit
returns-in-Exit c =
    subst (λ (r : Request). IsCell (state_at c.args.self.now) r c.lock-in-Exit.result) (sym c.in-Exit.is) (c.lock-in-Exit.ensures c.args.request.now)

pub returns-in-Wait : goal.returns-in-Wait
returns-in-Wait c =
    subst (λ (r : Request). IsCell (state_at c.args.self.now) r c.lock-in-Wait.result) (sym c.in-Wait.is) (c.lock-in-Wait.ensures c.args.request.now)

pub returns-in-Notify : goal.returns-in-Notify
returns-in-Notify c =
    subst (λ (r : Request). IsCell (state_at c.args.self.now) r c.lock-in-Notify.result) (sym c.in-Notify.is) (c.lock-in-Notify.ensures c.args.request.now)

pub returns-in-NotifyAll : goal.returns-in-NotifyAll
returns-in-NotifyAll c =
    subst (λ (r : Request). IsCell (state_at c.args.self.now) r c.lock-in-NotifyAll.result) (sym c.in-NotifyAll.is) (c.lock-in-NotifyAll.ensures c.args.request.now)
