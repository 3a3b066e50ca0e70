use Rattle.std.proofs.Common.{◌≡◌, take}
use Rattle.flow_verifier.specs.Methods.{fitted}
use Rattle.flow_verifier.proofs.method.fitted.Given as goal

abbrev pub invariant-loop-i : goal.invariant-loop-i
invariant-loop-i l = l.locals ≡ fitted l.count (take l.i l.types)
