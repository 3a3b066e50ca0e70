use Rattle.std.proofs.Common.{◌≡◌, List, Some, refl, sym, ap, ◌∙◌}
use Rattle.std.specs.Prelude.{map, slice_get, slice_set}
use Rattle.machine_state.specs.Changes.{changed}
use Rattle.machine_state.specs.Serving.{changes_of}
use Rattle.machine_state.specs.declared.state.ThreadState.{ThreadState}
use Rattle.shared_state.specs.Orderly.{lasting}
use Rattle.shared_state.specs.Parts.{state_of, thread_state}
use Rattle.shared_state.specs.declared.thread.Thread.{Thread}
use Rattle.one_machine.proofs.Doing.{same_states, get_set, get_front, item_there, always}
use Rattle.one_machine.proofs.perform.change.Goals as goal

pub returns-in_default-clause-err : goal.returns-in_default-clause-err
returns-in_default-clause-err c =
    always c.give_up.result (ap (λ (ts : List ThreadState). record (state_of c.args.shared.now c.args.threads.now.items) { threads = ts }) (same_states c.args.threads.now.items c.args.at c.index_mut.result.now c.make_ready.new.thread (item_there c.args.threads.now.items c.args.at c.index_mut.result.now c.requires.there c.index_mut.ensures.value) c.make_ready.ensures.same))

pub returns-in_err-ended-clause-err : goal.returns-in_err-ended-clause-err
returns-in_err-ended-clause-err c =
    always c.from_residual.result
    (ap (λ s. state_of s c.apply.new.threads.items) c.in_err-ended.ensures.err ∙ ap (λ ts. state_of c.args.shared.now ts) c.in_err-ended.ensures.err_threads
    ∙ ap (λ (ts : List ThreadState). record (state_of c.args.shared.now c.args.threads.now.items) { threads = ts }) (same_states c.args.threads.now.items c.args.at c.index_mut.result.now c.make_ready.new.thread (item_there c.args.threads.now.items c.args.at c.index_mut.result.now c.requires.there c.index_mut.ensures.value) c.make_ready.ensures.same))

pub returns-clause-ok : goal.returns-clause-ok
returns-clause-ok c =
    c.in_ok-ended.ensures.ok
    ∙ ap (λ (ts : List ThreadState). changed (lasting (changes_of c.args.shared.now.heap c.args.effects)) (record (state_of c.args.shared.now c.args.threads.now.items) { threads = ts })) (same_states c.args.threads.now.items c.args.at c.index_mut.result.now c.make_ready.new.thread (item_there c.args.threads.now.items c.args.at c.index_mut.result.now c.requires.there c.index_mut.ensures.value) c.make_ready.ensures.same)

pub returns-clause-ready : goal.returns-clause-ready
returns-clause-ready c = record {
  old = c.index_mut.result.now;
  new = c.make_ready.new.thread;
  is_old = item_there c.args.threads.now.items c.args.at c.index_mut.result.now c.requires.there c.index_mut.ensures.value;
  is_new = get_front (slice_set c.args.threads.now.items c.args.at c.make_ready.new.thread) c.apply.new.threads.items c.args.at c.make_ready.new.thread c.apply.ensures.first (get_set c.args.threads.now.items c.args.at c.make_ready.new.thread c.requires.there);
  same = c.make_ready.ensures.same;
  room = c.in-Ok.ensures.room;
  counted = c.in-Ok.ensures.steps;
}
