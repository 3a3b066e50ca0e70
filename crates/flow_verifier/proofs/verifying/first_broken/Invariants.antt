use Rattle.flow_verifier.specs.Typing.{NoneBroken}
use Rattle.flow_verifier.proofs.verifying.first_broken.Given as goal

abbrev pub invariant-loop-place : goal.invariant-loop-place
invariant-loop-place l = NoneBroken l.image l.m l.frames l.place
