use Rattle.std.proofs.Common.{◌<◌, length, arith}
use Rattle.shared_state.specs.Parts.{thread_state}
use Rattle.one_machine.proofs.Doing.{get_state, item_there}
use Rattle.one_machine.proofs.GlideLevels.{threads_glided}
use Rattle.one_machine.proofs.glide.glide.Goals as goal

pub glide_thread-requires-clause-can : goal.glide_thread-requires-clause-can
glide_thread-requires-clause-can c =
    let ts = c.args.threads.now.items in
    let within : c.args.thread < length ts = omega (arith, c.if-at-len.false, c.len.ensures, c.args.threads.now.ok.0) in
    c.requires.can (thread_state c.index_mut.result.now)
    (get_state ts c.args.thread c.index_mut.result.now (item_there ts c.args.thread c.index_mut.result.now within c.index_mut.ensures.value))

pub returns : goal.returns
returns c =
    let ts = c.args.threads.now.items in
    let within : c.args.thread < length ts = omega (arith, c.if-at-len.false, c.len.ensures, c.args.threads.now.ok.0) in
    threads_glided c.args.image.now ts c.args.thread _ _ _ c.index_mut.result.now c.glide_thread.new.thread
    (item_there ts c.args.thread c.index_mut.result.now within c.index_mut.ensures.value) c.glide_thread.ensures
