use Rattle.cjvm_io.specs.Sinks.{shown}
use Rattle.one_jvm.specs.Steps.Loading.{replay_of}
use Rattle.one_jvm.specs.Steps.Parts.{asked_by}
use Rattle.one_jvm.specs.Steps.ReplaySteps.{tape}
use Rattle.one_jvm.proofs.ReplayLoop.{of_tape, not_first, bad_replay, lost_replay}
use Rattle.one_jvm.proofs.replaying.replay.Goals as goal

pub returns-in-Ok-clause-came : goal.returns-in-Ok-clause-came
returns-in-Ok-clause-came g c = of_tape (replay_of c.args.image.now (asked_by c.args.request.now) c.args.text.now) c.in-Ok.order (shown g.O.Sink.held g.O.Sink.faults c.args.out.now) (shown g.O.Sink.held g.O.Sink.faults c.take_order.new.out) c.take_order.result.end c.take_order.result.refusal c.take_order.result.text.items c.in-Ok.ensures.found (rw c.strings.ensures at c.take_order.ensures.came)

pub returns-in-Ok-clause-unwritten : goal.returns-in-Ok-clause-unwritten
returns-in-Ok-clause-unwritten g c first = absurd (not_first (tape c.args.image.now c.strings.result.now c.in-Ok.order) (shown g.O.Sink.held g.O.Sink.faults c.args.out.now) (shown g.O.Sink.held g.O.Sink.faults c.take_order.new.out) c.take_order.result.end c.take_order.result.refusal c.take_order.result.text.items c.take_order.ensures.came first)

pub returns-in-Err-BadOrder-clause-came : goal.returns-in-Err-BadOrder-clause-came
returns-in-Err-BadOrder-clause-came g c = bad_replay (replay_of c.args.image.now (asked_by c.args.request.now) c.args.text.now) c.in-Err-BadOrder.line (shown g.O.Sink.held g.O.Sink.faults c.args.out.now) c.refused.result.end c.refused.result.refusal c.refused.result.text.items c.refused.ensures (rw c.in-Err-BadOrder.field-0-is at c.in-Err-BadOrder.ensures.fault)

pub returns-in-Err-NoMemory-clause-came : goal.returns-in-Err-NoMemory-clause-came
returns-in-Err-NoMemory-clause-came g c = lost_replay (replay_of c.args.image.now (asked_by c.args.request.now) c.args.text.now) (shown g.O.Sink.held g.O.Sink.faults c.args.out.now) c.refused-in-Err-NoMemory.result.end c.refused-in-Err-NoMemory.result.refusal c.refused-in-Err-NoMemory.result.text.items c.refused-in-Err-NoMemory.ensures
