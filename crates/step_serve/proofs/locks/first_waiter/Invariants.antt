use Rattle.std.proofs.Common.{◌≡◌, drop}
use Rattle.std.specs.Prelude.{slice_get}
use Rattle.machine_state.specs.State.{waiters_of}
use Rattle.step_serve.proofs.locks.first_waiter.Given as goal

abbrev pub invariant-loop-waiter : goal.invariant-loop-waiter
invariant-loop-waiter l =
    slice_get (waiters_of l.lock (drop l.waiter-index l.waiting)) 0
    ≡ slice_get (waiters_of l.lock l.waiting) 0
