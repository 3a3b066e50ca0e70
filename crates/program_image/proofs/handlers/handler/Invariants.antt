use Rattle.std.proofs.Common.{◌≡◌, drop}
use Rattle.program_image.specs.Handlers.{handler_from}
use Rattle.program_image.proofs.handlers.handler.Given as goal

abbrev pub invariant-loop-i : goal.invariant-loop-i
invariant-loop-i l = handler_from l.classes l.targets.entries l.method l.at l.class 0 l.table ≡ handler_from l.classes l.targets.entries l.method l.at l.class l.i (drop l.i l.table)
