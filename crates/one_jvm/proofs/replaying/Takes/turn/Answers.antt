use Rattle.std.proofs.Common.{ℕ, ◌≤◌, List, Option, Result, drop, length, ap, sym, subst, ◌∙◌}
use Rattle.std.proofs.lemmas.List.{take_rest}
use Rattle.cjvm_io.specs.Sinks.{GainsFront, shown}
use Rattle.order_replay.specs.declared.replay.Ending.{Ending}
use Rattle.one_jvm.specs.Steps.ReplaySteps.{tape, Turned}
use Rattle.one_jvm.specs.declared.running.Broken.{Broken}
use Rattle.one_jvm.proofs.ReplayLoop.{the_takes, grown, breaks, turned_by}
use Rattle.one_jvm.proofs.replaying.Takes.turn.Goals as goal

pub slice_bounds-write_all-count : goal.slice_bounds-write_all-count
slice_bounds-write_all-count g c =
    subst (λ (bytes : List ℕ). c.args.self.now.written ≤ length bytes) (sym c.output-output.ensures)
    (subst (λ (n : ℕ). n ≤ length c.burst-end.new.self.machine.state.output) (sym c.requires.written) (grown c.args.image.now c.args.order.now _ _ c.burst-end.ensures.later))

pub slice_bounds-write_all-start : goal.slice_bounds-write_all-start
slice_bounds-write_all-start g c = slice_bounds-write_all-count g c

pub returns-in-Err-clause-turned : goal.returns-in-Err-clause-turned
returns-in-Err-clause-turned g c args r = (
  breaks (tape c.args.image.now args c.args.order.now) c.args.self.now (the_takes c.burst-end.new.self c.args.self.now.written) r c.burst-end.ensures.later GainsFront _ _ _
      (take_rest c.output-output.result.now c.args.self.now.written ∙ ap (drop c.args.self.now.written) c.output-output.ensures) c.in-Err.ensures.bytes,
  c.in-Err.ensures.cause.failed,
)

pub returns-in-Ok-clause-turned : goal.returns-in-Ok-clause-turned
returns-in-Ok-clause-turned g c args r =
    let t = tape c.args.image.now args c.args.order.now in
    let new = the_takes c.burst-end.new.self (length c.output-output.result.now) in
    let before = shown g.O.Sink.held g.O.Sink.faults c.args.out.now in
    let now = shown g.O.Sink.held g.O.Sink.faults c.write_all.new.out in
    subst (λ (x : Result (Option Ending) Broken). Turned t c.args.self.now new before now x) (sym c.ending_at.ensures)
    (turned_by t c.args.self.now new r c.burst-end.ensures.later c.burst-end.result c.burst-end.ensures.turn _ before now
    (take_rest c.output-output.result.now c.args.self.now.written ∙ ap (drop c.args.self.now.written) c.output-output.ensures) c.in-Ok.ensures.bytes c.burst-end.ensures.ready (ap length c.output-output.ensures))
