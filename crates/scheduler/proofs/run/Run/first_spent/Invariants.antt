use Rattle.std.proofs.Common.{◌≡◌, ℕ, ◌<◌, false, slice_get}
use Rattle.scheduler.specs.Running.{at_limit}
use Rattle.scheduler.proofs.run.Run.first_spent.Given as goal

-- none of the threads so far is at its limit
abbrev pub invariant-loop-thread : goal.invariant-loop-thread
invariant-loop-thread l =
    (k : ℕ) → k < l.thread → at_limit l.self.limit
    (slice_get l.self.machine.state.threads k) ≡ false
