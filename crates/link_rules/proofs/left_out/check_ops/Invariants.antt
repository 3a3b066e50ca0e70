use Rattle.std.proofs.Common.{◌≡◌, drop}
use Rattle.std.specs.List.{flat_map}
use Rattle.link_rules.specs.Descriptors.{left_out_placed}
use Rattle.link_rules.proofs.left_out.check_ops.Given as goal

abbrev pub invariant-loop-placed : goal.invariant-loop-placed
invariant-loop-placed l = flat_map (left_out_placed l.file) l.ops ≡ flat_map (left_out_placed l.file) (drop l.placed-index l.ops)
