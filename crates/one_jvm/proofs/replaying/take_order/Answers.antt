use Rattle.std.proofs.Common.{ℕ, ◌-◌, ◌<◌, ◌≤◌, length, ap, ◌∙◌, Some, arith}
use Rattle.cjvm_io.specs.Sinks.{shown}
use Rattle.one_jvm.specs.declared.outcome.Refusal.{Refusal}
use Rattle.one_jvm.specs.Steps.ReplaySteps.{tape}
use Rattle.one_jvm.proofs.ReplayLoop.{begins, lost_tape, turned, cut_tape, ended_tape}
use Rattle.one_jvm.proofs.replaying.take_order.Goals as goal

pub returns-in_default-clause-came : goal.returns-in_default-clause-came
returns-in_default-clause-came g c = lost_tape (tape c.args.image.now c.args.args.now c.args.order.now) (shown g.O.Sink.held g.O.Sink.faults c.args.out.now) c.refused.result.end c.refused.result.refusal c.refused.result.text.items c.refused.ensures

pub takes-init : goal.takes-init
takes-init g c = begins (tape c.args.image.now c.args.args.now c.args.order.now) c.in-Ok.replay _ _ c.in-Ok.ensures.ready c.in-Ok.ensures.start c.in-Ok.ensures.taken

pub returns-in-Ok-Some-clause-came : goal.returns-in-Ok-Some-clause-came
returns-in-Ok-Some-clause-came g c =
    let t = rw c.in-Ok-Some.field-0-is at (c.in-Ok-Some.ensures.turned c.args.args.now c.takes.invariant.so_far) in
    let o = turned (tape c.args.image.now c.args.args.now c.args.order.now) c.takes.takes c.turn.new.self _ _ _ _ _ _ c.takes.invariant t.0 c.in-Ok-Some.ensures.later in
    ended_tape (tape c.args.image.now c.args.args.now c.args.order.now) c.turn.new.self (shown g.O.Sink.held g.O.Sink.faults c.args.out.now) (shown g.O.Sink.held g.O.Sink.faults c.turn.new.out) _ _ o c.in-Ok-Some.ending c.end_of.result.end c.end_of.result.refusal c.end_of.result.text.items t.1 c.end_of.ensures

pub returns-in-Err-clause-came : goal.returns-in-Err-clause-came
returns-in-Err-clause-came g c =
    cut_tape (tape c.args.image.now c.args.args.now c.args.order.now) c.takes.takes c.turn.new.self (shown g.O.Sink.held g.O.Sink.faults c.args.out.now) (shown g.O.Sink.held g.O.Sink.faults c.takes.out) (shown g.O.Sink.held g.O.Sink.faults c.turn.new.out) c.in-Err.broken c.refused-in-Err.result.end c.refused-in-Err.result.refusal c.refused-in-Err.result.text.items c.takes.invariant (c.in-Err.ensures.turned c.args.args.now c.takes.invariant.so_far)
    (c.refused-in-Err.ensures ∙ ap (λ (x : Refusal). Some x) c.refusal_by.ensures)

pub takes-preserved : goal.takes-preserved
takes-preserved g c =
    let t = rw c.in-Ok-None.field-0-is at (c.in-Ok-None.ensures.turned c.args.args.now c.takes.invariant.so_far) in
    turned (tape c.args.image.now c.args.args.now c.args.order.now) c.takes.takes c.turn.new.self _ _ _ _ _ _ c.takes.invariant t.0 c.in-Ok-None.ensures.later

-- more choices taken are fewer left
fewer : (all n m : ℕ) → n < m → m ≤ all → all - m < all - n
fewer all n m h k = omega (arith, h, k)

pub takes-smaller : goal.takes-smaller
takes-smaller g c =
    let t = rw c.in-Ok-None.field-0-is at (c.in-Ok-None.ensures.turned c.args.args.now c.takes.invariant.so_far) in
    fewer (length c.args.order.now) c.takes.takes.replay.taken c.turn.new.self.replay.taken t.1 t.0.takes.leads.within
