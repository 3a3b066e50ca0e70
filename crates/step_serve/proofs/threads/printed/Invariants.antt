use Rattle.std.proofs.Common.{◌≡◌, ◌++◌, drop}
use Rattle.machine_state.specs.Serve.{printed}
use Rattle.step_serve.proofs.threads.printed.Given as goal

abbrev pub invariant-loop-unit : goal.invariant-loop-unit
invariant-loop-unit l = l.bytes ++ printed (drop l.unit-index l.units) ≡ printed l.units
