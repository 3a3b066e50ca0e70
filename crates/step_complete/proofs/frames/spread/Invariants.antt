use Rattle.std.proofs.Common.{◌≡◌, ◌++◌, drop}
use Rattle.std.specs.List.{flat_map}
use Rattle.frame_ops.specs.Operands.{local_slots}
use Rattle.step_complete.proofs.frames.spread.Given as goal

abbrev pub invariant-loop-value : goal.invariant-loop-value
invariant-loop-value l =
    l.locals.items ++ flat_map local_slots (drop l.value-index l.values)
    ≡ l.fn.locals.items ++ flat_map local_slots l.values
