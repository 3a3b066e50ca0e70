use Rattle.std.proofs.Common.{◌≡◌, ◌≤◌, length, take}
use Rattle.wait_sets.specs.WaitSets.{all_for}
use Rattle.wait_sets.proofs.wait_sets.WaitSets.count.Given as goal

abbrev pub invariant-loop-waiter : goal.invariant-loop-waiter
invariant-loop-waiter l =
    (l.count ≡ length (all_for l.name (take l.waiter-index l.self.items))) × (l.count ≤ l.waiter-index)
