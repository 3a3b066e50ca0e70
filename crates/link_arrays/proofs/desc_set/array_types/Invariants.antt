use Rattle.std.proofs.Common.{◌≡◌, map, take}
use Rattle.link_arrays.specs.Sets.{shared_type}
use Rattle.link_arrays.proofs.desc_set.array_types.Given as goal

abbrev pub invariant-loop-row : goal.invariant-loop-row
invariant-loop-row l = l.types ≡ map (shared_type l.shares) (take l.row-index l.rows)
