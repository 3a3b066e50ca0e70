use Rattle.std.proofs.Common.{◌<◌, ◌≤◌, length, refl, arith}
use Rattle.one_machine.proofs.Doing.{ended_there, ended_past, item_there}
use Rattle.one_machine.proofs.perform.end_thread.Goals as goal

pub returns-then-thread-len : goal.returns-then-thread-len
returns-then-thread-len c =
    let ts = c.args.threads.now.items in
    let within : c.args.thread < length ts = omega (arith, c.if-thread-len.true, c.len.ensures) in
    ended_there ts c.args.thread c.index_mut.result.now _ (item_there ts c.args.thread c.index_mut.result.now within c.index_mut.ensures.value) refl

pub returns-else-thread-len : goal.returns-else-thread-len
returns-else-thread-len c =
    let ts = c.args.threads.now.items in
    ended_past ts c.args.thread (omega (arith, c.if-thread-len.false, c.len.ensures))
