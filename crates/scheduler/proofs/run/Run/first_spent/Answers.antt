use Rattle.std.proofs.Common.{◌≡◌, length, ap, ◌∙◌, arith}
use Rattle.scheduler.specs.Running.{Run}
use Rattle.scheduler.proofs.Limits.{none_at_limit}
use Rattle.scheduler.proofs.run.Run.first_spent.Goals as goal

pub returns : goal.returns
returns c =
    let all : c.threads-thread-end.result ≡ length c.args.self.now.machine.state.threads =
    c.threads-thread-end.ensures
    ∙ ap (λ (a : Run). length a.machine.state.threads) c.self.view_is in
    none_at_limit c.args.self.now.limit c.loop-thread.thread c.args.self.now.machine.state.threads
    (omega arith) c.loop-thread.invariant
