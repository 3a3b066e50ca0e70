use Rattle.std.proofs.Common.{◌≡◌, ◌++◌, ◌≤◌, ◌+◌, length, take}
use Rattle.wait_sets.specs.WaitSets.{all_for}
use Rattle.wait_sets.proofs.waiting.request_all.Given as goal

abbrev pub invariant-loop-waiter : goal.invariant-loop-waiter
invariant-loop-waiter l = record {
  owners : l.monitors.items.owners ≡ l.fn.monitors.items.owners;
  queue : l.monitors.items.queue ≡ l.fn.monitors.items.queue ++ all_for l.name (take l.waiter-index l.waiters);
  room : l.fn.monitors.room ≤ l.monitors.room + length (all_for l.name (take l.waiter-index l.waiters));
  few : length (all_for l.name l.waiters) ≤ l.fn.monitors.room;
}
