use Rattle.std.proofs.Common.{◌-◌, length}
use Rattle.one_jvm.specs.Runs.{job_of}
use Rattle.one_jvm.specs.Steps.Parts.{asked_by}
use Rattle.one_jvm.proofs.RunLoop.{GoesOn}
use Rattle.one_jvm.proofs.running.run_program.Given as goal

abbrev pub invariant-turns : goal.invariant-turns
invariant-turns g l = GoesOn (job_of l.image (asked_by l.request)) l.turns (g.O.Sink.held l.initial.out) (g.O.Sink.held l.out) (g.O.Sink.faults l.initial.out) (g.O.Sink.faults l.out)

-- the order grows towards its limit
abbrev pub decreases-turns : goal.decreases-turns
decreases-turns g l = 4294967296 - length l.turns.run.order
