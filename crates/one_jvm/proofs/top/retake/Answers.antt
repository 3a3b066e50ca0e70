use Rattle.std.proofs.Common.{ap, [], None}
use Rattle.cjvm_io.specs.Sinks.{shown}
use Rattle.one_jvm.specs.Answers.{the_faults}
use Rattle.one_jvm.specs.Steps.Loading.{replay_of}
use Rattle.one_jvm.specs.Steps.Parts.{asked_by}
use Rattle.one_jvm.proofs.Judged.{judged_replay, judged_as}
use Rattle.one_jvm.proofs.top.retake.Goals as goal

pub returns-clause-judged : goal.returns-clause-judged
returns-clause-judged g c words told before now call found =
    judged_as words told (the_faults before now (g.O.Sink.faults c.args.out.now) (g.O.Sink.faults c.replay-end.new.out)) (shown g.O.Sink.held g.O.Sink.faults c.args.out.now) (shown g.O.Sink.held g.O.Sink.faults c.replay-end.new.out) c.without_run.result.order [] c.without_run.result.stop None c.without_run.result.end c.replay-end.result.end c.without_run.result.refusal c.replay-end.result.refusal c.without_run.result.text.items c.replay-end.result.text.items c.without_run.result.listing [] c.without_run.result.name.now []
    c.without_run.ensures.no_run.1 c.without_run.ensures.no_run.0 c.without_run.ensures.end c.without_run.ensures.refused c.without_run.ensures.told c.without_run.ensures.no_run.2 c.without_run.ensures.named
    (judged_replay words told (asked_by c.args.request.now) call before now (replay_of c.args.image.now (asked_by c.args.request.now) c.args.text.now) found (shown g.O.Sink.held g.O.Sink.faults c.args.out.now) (shown g.O.Sink.held g.O.Sink.faults c.replay-end.new.out) c.replay-end.result.end c.replay-end.result.refusal c.replay-end.result.text.items c.replay-end.ensures.came)
