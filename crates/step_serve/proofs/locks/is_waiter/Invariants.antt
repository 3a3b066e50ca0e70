use Rattle.std.proofs.Common.{◌≡◌, drop}
use Rattle.hierarchy.specs.Walks.{has}
use Rattle.machine_state.specs.State.{waiters_of}
use Rattle.step_serve.proofs.locks.is_waiter.Given as goal

abbrev pub invariant-loop-waiter : goal.invariant-loop-waiter
invariant-loop-waiter l =
    has (waiters_of l.lock (drop l.waiter-index l.waiting)) l.thread
    ≡ has (waiters_of l.lock l.waiting) l.thread
