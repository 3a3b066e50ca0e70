use Rattle.std.proofs.Common.{rules}
use Rattle.cluster_monitor.specs.Monitors.{is_for}
use Rattle.wait_sets.proofs.WaitLaws.{room_is_left}
use Rattle.wait_sets.proofs.waiting.request_all.Goals as goal

pub request_for-requires : goal.request_for-requires
request_for-requires c = λ e.
    room_is_left (is_for c.args.name) c.args.waiters.now c.loop-waiter.waiter-index _ c.args.monitors.now.room c.loop-waiter.monitors.room (search rules) c.loop-waiter.invariant.room c.loop-waiter.invariant.few e
