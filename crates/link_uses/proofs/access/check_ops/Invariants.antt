use Rattle.std.proofs.Common.{◌≡◌, drop}
use Rattle.std.specs.List.{flat_map}
use Rattle.link_uses.specs.Uses.{no_access_placed}
use Rattle.link_uses.proofs.access.check_ops.Given as goal

abbrev pub invariant-loop-placed : goal.invariant-loop-placed
invariant-loop-placed l =
    flat_map (no_access_placed l.resolver l.number l.file) l.ops ≡ flat_map (no_access_placed l.resolver l.number l.file) (drop l.placed-index l.ops)
