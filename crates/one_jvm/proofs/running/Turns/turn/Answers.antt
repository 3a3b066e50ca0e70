use Rattle.std.proofs.Common.{ℕ, ◌≤◌, List, [], Option, Result, drop, length, ap, sym, subst, ◌∙◌}
use Rattle.std.proofs.lemmas.List.{take_rest}
use Rattle.cjvm_io.specs.Sinks.{GainsFront, shown}
use Rattle.scheduler.proofs.Breaks.{reached}
use Rattle.one_jvm.specs.Runs.{job}
use Rattle.one_jvm.specs.Steps.RunSteps.{Turned}
use Rattle.one_jvm.specs.declared.outcome.Stop.{Stop}
use Rattle.one_jvm.specs.declared.running.Broken.{Broken}
use Rattle.one_jvm.proofs.RunLoop.{the_turns, grown, breaks, turned_by}
use Rattle.one_jvm.proofs.running.Turns.turn.Goals as goal

pub slice_bounds-write_all-count : goal.slice_bounds-write_all-count
slice_bounds-write_all-count g c =
    let p = c.args.image.now in
    subst (λ (bytes : List ℕ). c.args.self.now.written ≤ length bytes) (sym c.output-output.ensures)
    (grown p c.args.self.now c.burst-end.new.self c.requires.written
    (reached p _ _ c.burst-end.new.self c.burst-end.result c.burst-end.ensures.run c.burst-end.ensures.later c.burst-end.ensures.err))

pub slice_bounds-write_all-start : goal.slice_bounds-write_all-start
slice_bounds-write_all-start g c = slice_bounds-write_all-count g c

pub returns-in-Err-clause-turned : goal.returns-in-Err-clause-turned
returns-in-Err-clause-turned g c args steps r =
    let p = c.args.image.now in (
      breaks (job p args steps) c.args.self.now (the_turns c.burst-end.new.self c.args.self.now.written) r
          (reached p _ _ c.burst-end.new.self c.burst-end.result c.burst-end.ensures.run c.burst-end.ensures.later c.burst-end.ensures.err) GainsFront _ _ _
          (take_rest c.output-output.result.now c.args.self.now.written ∙ ap (drop c.args.self.now.written) c.output-output.ensures) c.in-Err.ensures.bytes,
      c.in-Err.ensures.cause.failed,
    )

pub returns-in-Ok-clause-turned : goal.returns-in-Ok-clause-turned
returns-in-Ok-clause-turned g c args steps r =
    let p = c.args.image.now in
    let new = the_turns c.burst-end.new.self (length c.output-output.result.now) in
    let before = shown g.O.Sink.held g.O.Sink.faults c.args.out.now in
    let now = shown g.O.Sink.held g.O.Sink.faults c.write_all.new.out in
    subst (λ (x : Result (Option Stop) Broken). Turned (job p args steps) c.args.self.now new before now x) (sym c.stop_at.ensures)
    (turned_by (job p args steps) c.args.self.now new c.burst-end.result r c.burst-end.ensures.run c.burst-end.ensures.later c.burst-end.ensures.turn c.burst-end.ensures.err c.burst-end.ensures.limit _ before now
    (take_rest c.output-output.result.now c.args.self.now.written ∙ ap (drop c.args.self.now.written) c.output-output.ensures) c.in-Ok.ensures.bytes (ap length c.output-output.ensures))
