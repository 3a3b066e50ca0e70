use Rattle.std.proofs.Common.{◌≡◌, drop}
use Rattle.std.specs.List.{flat_map}
use Rattle.link_rules.specs.Descriptors.{left_out_method}
use Rattle.link_rules.proofs.left_out.check_methods.Given as goal

abbrev pub invariant-loop-i : goal.invariant-loop-i
invariant-loop-i l = flat_map (left_out_method l.file) l.file.methods ≡ flat_map (left_out_method l.file) (drop l.i l.file.methods)
