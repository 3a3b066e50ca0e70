use Rattle.std.proofs.Common.{◌≡◌, take}
use Rattle.shared_types.specs.Blocks.{used_from}
use Rattle.shared_types.proofs.block.used_places.Given as goal

abbrev pub invariant-loop-at : goal.invariant-loop-at
invariant-loop-at l = l.used ≡ used_from 0 (take l.at l.types)
