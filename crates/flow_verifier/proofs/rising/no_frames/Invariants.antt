use Rattle.std.proofs.Common.{◌≡◌, None}
use Rattle.std.proofs.Math.ListN.{replicate}
use Rattle.flow_verifier.proofs.rising.no_frames.Given as goal

abbrev pub invariant-loop : goal.invariant-loop
invariant-loop l = l.frames ≡ replicate l.counter None
