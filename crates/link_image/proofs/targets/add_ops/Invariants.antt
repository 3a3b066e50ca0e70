use Rattle.std.proofs.Common.{◌≡◌, ◌++◌, drop}
use Rattle.std.specs.List.{flat_map}
use Rattle.link_image.specs.Seen.{seen_lookup}
use Rattle.link_image.specs.Targets.{placed_target}
use Rattle.link_image.proofs.targets.add_ops.Given as goal

abbrev pub invariant-loop-placed : goal.invariant-loop-placed
invariant-loop-placed l = l.initial.targets ++ flat_map (placed_target (seen_lookup l.lookup) l.file l.method) l.ops ≡ l.targets ++ flat_map (placed_target (seen_lookup l.lookup) l.file l.method) (drop l.placed-index l.ops)
