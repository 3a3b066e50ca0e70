use Rattle.std.proofs.Common.{◌≡◌, drop}
use Rattle.std.specs.List.{flat_map}
use Rattle.link_rules.specs.Walks.Missing.{missing_placed}
use Rattle.link_rules.proofs.named.check_ops.Given as goal

abbrev pub invariant-loop-placed : goal.invariant-loop-placed
invariant-loop-placed l =
    flat_map (missing_placed l.names l.file) l.ops ≡ flat_map (missing_placed l.names l.file) (drop l.placed-index l.ops)
