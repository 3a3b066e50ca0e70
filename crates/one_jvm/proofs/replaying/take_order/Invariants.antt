use Rattle.std.proofs.Common.{◌-◌, length}
use Rattle.one_jvm.specs.Steps.ReplaySteps.{tape}
use Rattle.one_jvm.proofs.ReplayLoop.{GoesOn}
use Rattle.one_jvm.proofs.replaying.take_order.Given as goal

abbrev pub invariant-takes : goal.invariant-takes
invariant-takes g l = GoesOn (tape l.image l.args l.order) l.takes (g.O.Sink.held l.initial.out) (g.O.Sink.held l.out) (g.O.Sink.faults l.initial.out) (g.O.Sink.faults l.out)

-- so many choices are left
abbrev pub decreases-takes : goal.decreases-takes
decreases-takes g l = length l.order - l.takes.replay.taken
