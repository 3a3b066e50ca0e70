use Rattle.std.proofs.Common.{◌∙◌, [], None, Some}
use Rattle.cjvm_io.specs.Sinks.{shown}
use Rattle.command_words.specs.declared.words.Command.TheVariants.{Run, Replay}
use Rattle.one_jvm.specs.Words.{texts}
use Rattle.one_jvm.specs.Answers.{the_faults}
use Rattle.one_jvm.specs.Steps.Loading.{replay_of}
use Rattle.one_jvm.specs.Steps.Parts.{asked_by}
use Rattle.one_jvm.proofs.Judged.{can_run, have_texts, judged_as, judged_refused, named_refused, judged_words, check_writes, replay_first, is_check, is_replay}
use Rattle.one_jvm.proofs.WordLemmas.{counted_call}
use Rattle.one_jvm.proofs.top.judge.Goals as goal

pub find_task-requires : goal.find_task-requires
find_task-requires g c = record { counted = counted_call (texts c.args.words.now) (asked_by c.in-Ok.request) c.in-Ok.ensures }

pub run-requires-clause-can_run : goal.run-requires-clause-can_run
run-requires-clause-can_run g c = let f = (rw c.in-Ok-Run.field-0-is at c.in-Ok-Run.ensures.answer) in can_run (g.S.Shelf.files c.args.shelf.now) (asked_by c.in-Ok.request) Run c.in-Ok-Run.image f.contents c.accepted_can_run.ensures f.such

pub run-requires-clause-written : goal.run-requires-clause-written
run-requires-clause-written g c = let f = (rw c.in-Ok-Run.field-0-is at c.in-Ok-Run.ensures.answer) in have_texts (g.S.Shelf.files c.args.shelf.now) (asked_by c.in-Ok.request) Run c.in-Ok-Run.image f.contents c.accepted_orders_have_text.ensures f.such

pub retake-requires : goal.retake-requires
retake-requires g c = let f = (rw c.in-Ok-Replay.field-0-is at c.in-Ok-Replay.ensures.answer) in record { can_run = can_run (g.S.Shelf.files c.args.shelf.now) (asked_by c.in-Ok.request) Replay c.in-Ok-Replay.image f.contents c.accepted_can_run-in-Ok-Replay.ensures f.such.program }

pub returns-in-Ok-Run-clause-judged : goal.returns-in-Ok-Run-clause-judged
returns-in-Ok-Run-clause-judged g c = c.run.ensures.judged (texts c.args.words.now) (g.S.Shelf.files c.args.shelf.now) _ _ c.in-Ok.ensures (rw c.in-Ok-Run.field-0-is at c.in-Ok-Run.ensures.answer)

pub returns-in-Ok-Run-clause-no_run : goal.returns-in-Ok-Run-clause-no_run
returns-in-Ok-Run-clause-no_run g c u = absurd (c.run.ensures.began u.0)

pub returns-in-Ok-Replay-clause-judged : goal.returns-in-Ok-Replay-clause-judged
returns-in-Ok-Replay-clause-judged g c = c.retake.ensures.judged (texts c.args.words.now) (g.S.Shelf.files c.args.shelf.now) _ _ c.in-Ok.ensures (rw c.as_slice.ensures.value (rw c.in-Ok-Replay.field-0-is at c.in-Ok-Replay.ensures.answer))

pub returns-in-Ok-Replay-clause-no_run : goal.returns-in-Ok-Replay-clause-no_run
returns-in-Ok-Replay-clause-no_run g c u =
    c.retake.ensures.unwritten (replay_first (texts c.args.words.now) c.retake.result.stop c.retake.result.refusal (is_replay (texts c.args.words.now) (g.S.Shelf.files c.args.shelf.now) (asked_by c.in-Ok.request) c.in-Ok.ensures 0 0 (replay_of c.in-Ok-Replay.image (asked_by c.in-Ok.request) c.in-Ok-Replay.text.items) (rw c.in-Ok-Replay.field-0-is at c.in-Ok-Replay.ensures.answer) (shown g.O.Sink.held g.O.Sink.faults c.args.out.now) (shown g.O.Sink.held g.O.Sink.faults c.args.out.now)) u)

pub returns-in-Ok-Tell-clause-judged : goal.returns-in-Ok-Tell-clause-judged
returns-in-Ok-Tell-clause-judged g c = c.say.ensures.judged (texts c.args.words.now) (g.S.Shelf.files c.args.shelf.now) (asked_by c.in-Ok.request) _ _ c.in-Ok.ensures (rw c.as_slice-in-Ok-Tell.ensures.value (rw c.in-Ok-Tell.field-0-is at c.in-Ok-Tell.ensures.answer))

pub returns-in-Ok-Tell-clause-no_run : goal.returns-in-Ok-Tell-clause-no_run
returns-in-Ok-Tell-clause-no_run g c u =
    absurd (check_writes (texts c.args.words.now) c.say.result.stop c.say.result.refusal (is_check (texts c.args.words.now) (g.S.Shelf.files c.args.shelf.now) (asked_by c.in-Ok.request) c.in-Ok.ensures 0 0 c.in-Ok-Tell.line.items (rw c.in-Ok-Tell.field-0-is at c.in-Ok-Tell.ensures.answer) (shown g.O.Sink.held g.O.Sink.faults c.args.out.now) (shown g.O.Sink.held g.O.Sink.faults c.args.out.now)) c.say.ensures.written u)

pub returns-in-Err-clause-judged : goal.returns-in-Err-clause-judged
returns-in-Err-clause-judged g c =
    judged_as (texts c.args.words.now) (g.S.Shelf.files c.args.shelf.now) (the_faults (g.S.Shelf.faults c.args.shelf.now) (g.S.Shelf.faults c.args.shelf.now) (g.O.Sink.faults c.args.out.now) (g.O.Sink.faults c.args.out.now)) (shown g.O.Sink.held g.O.Sink.faults c.args.out.now) (shown g.O.Sink.held g.O.Sink.faults c.args.out.now) c.without_run.result.order [] c.without_run.result.stop None c.without_run.result.end None c.without_run.result.refusal (Some c.in-Err.refusal) c.without_run.result.text.items [] c.without_run.result.listing [] c.without_run.result.name.now []
    c.without_run.ensures.no_run.1 c.without_run.ensures.no_run.0 c.without_run.ensures.end c.without_run.ensures.refused (c.without_run.ensures.told ∙ c.new.ensures.items) c.without_run.ensures.no_run.2 c.without_run.ensures.named
    (judged_words (texts c.args.words.now) (g.S.Shelf.files c.args.shelf.now) (g.S.Shelf.faults c.args.shelf.now) (g.O.Sink.faults c.args.out.now) (shown g.O.Sink.held g.O.Sink.faults c.args.out.now) c.in-Err.refusal [] c.in-Err.ensures)

pub returns-clause-judged : goal.returns-clause-judged
returns-clause-judged g c =
    judged_as (texts c.args.words.now) (g.S.Shelf.files c.args.shelf.now) (the_faults (g.S.Shelf.faults c.args.shelf.now) (g.S.Shelf.faults c.find_task.new.shelf) (g.O.Sink.faults c.args.out.now) (g.O.Sink.faults c.args.out.now)) (shown g.O.Sink.held g.O.Sink.faults c.args.out.now) (shown g.O.Sink.held g.O.Sink.faults c.args.out.now) c.without_run-in-Err-find_task.result.order [] c.without_run-in-Err-find_task.result.stop None c.without_run-in-Err-find_task.result.end None c.without_run-in-Err-find_task.result.refusal (Some c.in-Err-find_task.why.refusal) c.without_run-in-Err-find_task.result.text.items c.in-Err-find_task.why.text.items c.without_run-in-Err-find_task.result.listing [] c.without_run-in-Err-find_task.result.name.now c.name_of-name.result.now
    c.without_run-in-Err-find_task.ensures.no_run.1 c.without_run-in-Err-find_task.ensures.no_run.0 c.without_run-in-Err-find_task.ensures.end c.without_run-in-Err-find_task.ensures.refused c.without_run-in-Err-find_task.ensures.told c.without_run-in-Err-find_task.ensures.no_run.2 c.without_run-in-Err-find_task.ensures.named
    (judged_refused (texts c.args.words.now) (g.S.Shelf.files c.args.shelf.now) (asked_by c.in-Ok.request) c.in-Ok.ensures (g.S.Shelf.faults c.args.shelf.now) (g.S.Shelf.faults c.find_task.new.shelf) (g.O.Sink.faults c.args.out.now) (shown g.O.Sink.held g.O.Sink.faults c.args.out.now) c.in-Err-find_task.why.refusal c.in-Err-find_task.why.text.items c.name_of-name.result.now c.in-Err-find_task.ensures.answer (named_refused (texts c.args.words.now) (asked_by c.in-Ok.request) c.in-Ok.ensures c.in-Err-find_task.why.refusal c.name_of-name.result.now c.name_of-name.ensures))
