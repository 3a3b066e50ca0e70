use Rattle.std.proofs.Common.{take}
use Rattle.decode_run.specs.Counts.{IsCounted}
use Rattle.decode_run.proofs.counts.count_all.Given as goal

abbrev pub invariant-loop-at : goal.invariant-loop-at
invariant-loop-at l = IsCounted l.descs (take l.at l.methods) l.counts
