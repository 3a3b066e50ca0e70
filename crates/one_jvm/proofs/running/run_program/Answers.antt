use Rattle.std.proofs.Common.{ℕ, ◌-◌, ◌<◌, [], length, ap, subst, ◌∙◌, arith}
use Rattle.std.specs.Io.KnownBytes.{Appends}
use Rattle.cjvm_io.specs.Sinks.{shown}
use Rattle.machine_state.specs.Start.{start}
use Rattle.one_jvm.specs.Runs.{job_of}
use Rattle.one_jvm.specs.Steps.Parts.{asked_by}
use Rattle.one_jvm.specs.declared.outcome.Stop.TheVariants.{WriteFault, NoMemory}
use Rattle.one_jvm.proofs.RunLaws.{all_behind}
use Rattle.one_jvm.proofs.RunLoop.{begins, unbegun, turned, broken, broken_write, part, cut_ran, ended_ran, ended_tells, ended_quiet}
use Rattle.one_jvm.proofs.running.run_program.Goals as goal

pub returns-in_default-clause-ran : goal.returns-in_default-clause-ran
returns-in_default-clause-ran g c = cut_ran (job_of c.args.image.now (asked_by c.args.request.now)) [] c.cut_off.result.order NoMemory c.cut_off.result.stop _ _ (c.cut_off.ensures.order ∙ c.new-in_default.ensures) c.cut_off.ensures.stop (unbegun (job_of c.args.image.now (asked_by c.args.request.now)) (g.O.Sink.held c.args.out.now))

pub turns-init : goal.turns-init
turns-init g c = begins (job_of c.args.image.now (asked_by c.args.request.now)) c.in-Ok.run' _ _ c.in-Ok.ensures.run (c.in-Ok.ensures.start ∙ ap (start c.args.image.now) c.strings.ensures) c.in-Ok.ensures.order (c.in-Ok.ensures.limit ∙ c.steps.ensures)

pub returns-in-Ok-Some-clause-ran : goal.returns-in-Ok-Some-clause-ran
returns-in-Ok-Some-clause-ran g c =
    let t = rw c.in-Ok-Some.field-0-is at (c.in-Ok-Some.ensures.turned (asked_by c.args.request.now).args (asked_by c.args.request.now).steps c.turns.invariant.run) in
    let o = turned (job_of c.args.image.now (asked_by c.args.request.now)) c.turns.turns c.turn.new.self _ _ _ _ _ _ c.turns.invariant t.0 c.in-Ok-Some.ensures.later in
    ended_ran (job_of c.args.image.now (asked_by c.args.request.now)) c.turn.new.self c.end_run.result.order c.in-Ok-Some.stop c.end_run.result.stop (shown g.O.Sink.held g.O.Sink.faults c.args.out.now) (shown g.O.Sink.held g.O.Sink.faults c.turn.new.out) _ _ o t.1 c.end_run.ensures.order c.end_run.ensures.stop

pub returns-in-Ok-Some-clause-told : goal.returns-in-Ok-Some-clause-told
returns-in-Ok-Some-clause-told g c =
    let t = rw c.in-Ok-Some.field-0-is at (c.in-Ok-Some.ensures.turned (asked_by c.args.request.now).args (asked_by c.args.request.now).steps c.turns.invariant.run) in
    let o = turned (job_of c.args.image.now (asked_by c.args.request.now)) c.turns.turns c.turn.new.self _ _ _ _ _ _ c.turns.invariant t.0 c.in-Ok-Some.ensures.later in
    ended_tells (job_of c.args.image.now (asked_by c.args.request.now)) c.turn.new.self c.end_run.result.order c.in-Ok-Some.stop c.end_run.result.stop (shown g.O.Sink.held g.O.Sink.faults c.args.out.now) (shown g.O.Sink.held g.O.Sink.faults c.turn.new.out) _ _ o t.1 c.end_run.ensures.order c.end_run.ensures.stop c.end_run.result.text c.end_run.ensures.told

pub returns-in-Ok-Some-clause-quiet : goal.returns-in-Ok-Some-clause-quiet
returns-in-Ok-Some-clause-quiet g c d =
    let t = rw c.in-Ok-Some.field-0-is at (c.in-Ok-Some.ensures.turned (asked_by c.args.request.now).args (asked_by c.args.request.now).steps c.turns.invariant.run) in
    let o = turned (job_of c.args.image.now (asked_by c.args.request.now)) c.turns.turns c.turn.new.self _ _ _ _ _ _ c.turns.invariant t.0 c.in-Ok-Some.ensures.later in
    let q = ended_quiet (job_of c.args.image.now (asked_by c.args.request.now)) c.turn.new.self c.end_run.result.order c.in-Ok-Some.stop c.end_run.result.stop (shown g.O.Sink.held g.O.Sink.faults c.args.out.now) (shown g.O.Sink.held g.O.Sink.faults c.turn.new.out) _ _ o t.1 c.end_run.ensures.order c.end_run.ensures.stop d in
    c.end_run.ensures.quiet q.0 q.1

pub returns-in-Err-WriteFault-clause-ran : goal.returns-in-Err-WriteFault-clause-ran
returns-in-Err-WriteFault-clause-ran g c =
    let before = shown g.O.Sink.held g.O.Sink.faults c.args.out.now in
    let now = shown g.O.Sink.held g.O.Sink.faults c.turn.new.out in
    cut_ran (job_of c.args.image.now (asked_by c.args.request.now)) c.turn.new.self.run.order c.cut_off-in-Err-WriteFault.result.order WriteFault c.cut_off-in-Err-WriteFault.result.stop before now (c.cut_off-in-Err-WriteFault.ensures.order ∙ c.into_order.ensures) c.cut_off-in-Err-WriteFault.ensures.stop
    (broken_write (job_of c.args.image.now (asked_by c.args.request.now)) c.turns.turns c.turn.new.self _ _ _ _ _ _ c.turns.invariant (rw c.in-Err-WriteFault.field-0-is at (c.in-Err-WriteFault.ensures.turned (asked_by c.args.request.now).args (asked_by c.args.request.now).steps c.turns.invariant.run)))

pub returns-in-Err-NoMemory-clause-ran : goal.returns-in-Err-NoMemory-clause-ran
returns-in-Err-NoMemory-clause-ran g c =
    let before = shown g.O.Sink.held g.O.Sink.faults c.args.out.now in
    let now = shown g.O.Sink.held g.O.Sink.faults c.turn.new.out in
    cut_ran (job_of c.args.image.now (asked_by c.args.request.now)) c.turn.new.self.run.order c.cut_off-in-Err-NoMemory.result.order NoMemory c.cut_off-in-Err-NoMemory.result.stop before now (c.cut_off-in-Err-NoMemory.ensures.order ∙ c.into_order-in-Err-NoMemory.ensures) c.cut_off-in-Err-NoMemory.ensures.stop
    (broken Appends (job_of c.args.image.now (asked_by c.args.request.now)) c.turns.turns c.turn.new.self _ _ _ _ _ all_behind c.turns.invariant (rw c.in-Err-NoMemory.field-0-is at (c.in-Err-NoMemory.ensures.turned (asked_by c.args.request.now).args (asked_by c.args.request.now).steps c.turns.invariant.run)))

pub returns-clause-ran : goal.returns-clause-ran
returns-clause-ran g c =
    let before = shown g.O.Sink.held g.O.Sink.faults c.args.out.now in
    let now = shown g.O.Sink.held g.O.Sink.faults c.turns.out in
    cut_ran (job_of c.args.image.now (asked_by c.args.request.now)) c.turns.turns.run.order c.cut_off-2.result.order NoMemory c.cut_off-2.result.stop before now (c.cut_off-2.ensures.order ∙ c.into_order-2.ensures) c.cut_off-2.ensures.stop
    (part (job_of c.args.image.now (asked_by c.args.request.now)) c.turns.turns _ _ _ _ c.turns.invariant)

-- a longer order is nearer to its limit
shorter : (n m : ℕ) → n < m → n < 4294967296 → 4294967296 - m < 4294967296 - n
shorter n m h k = omega (arith, h, k)

pub turns-preserved : goal.turns-preserved
turns-preserved g c =
    let t = rw c.in-Ok-None.field-0-is at (c.in-Ok-None.ensures.turned (asked_by c.args.request.now).args (asked_by c.args.request.now).steps c.turns.invariant.run) in
    turned (job_of c.args.image.now (asked_by c.args.request.now)) c.turns.turns c.turn.new.self _ _ _ _ _ _ c.turns.invariant t.0 c.in-Ok-None.ensures.later

pub turns-smaller : goal.turns-smaller
turns-smaller g c =
    let t = rw c.in-Ok-None.field-0-is at (c.in-Ok-None.ensures.turned (asked_by c.args.request.now).args (asked_by c.args.request.now).steps c.turns.invariant.run) in
    shorter (length c.turns.turns.run.order) (length c.turn.new.self.run.order) t.1 (subst (λ (n : ℕ). n < 4294967296) (c.len.ensures ∙ ap length c.order.ensures) c.turns-test.true)
