use Rattle.std.proofs.Common.{◌≡◌, take}
use Rattle.std.specs.List.{list_any}
use Rattle.frame_ops.specs.Operands.{is_negative_size}
use Rattle.frame_ops.proofs.asks.has_negative_size.Given as goal

abbrev pub invariant-loop-depth : goal.invariant-loop-depth
invariant-loop-depth l = l.found ≡ list_any is_negative_size (take l.depth l.stack.values)
