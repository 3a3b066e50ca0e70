use Rattle.std.proofs.Common.{◌≡◌, ◌++◌, drop}
use Rattle.flow_verifier.specs.Methods.{handlers_from}
use Rattle.flow_verifier.proofs.method.handlers.Given as goal

abbrev pub invariant-loop-i : goal.invariant-loop-i
invariant-loop-i l = l.handlers ++ handlers_from l.image l.number l.code.ops l.i (drop l.i l.code.table) ≡ handlers_from l.image l.number l.code.ops 0 l.code.table
