use Rattle.std.proofs.Common.{◌≡◌, drop}
use Rattle.std.specs.List.{flat_map}
use Rattle.link_rules.specs.Descriptors.{left_out_desc}
use Rattle.link_rules.proofs.left_out.check_descs.Given as goal

abbrev pub invariant-loop-i : goal.invariant-loop-i
invariant-loop-i l = flat_map (left_out_desc) l.files ≡ flat_map (left_out_desc) (drop l.i l.files)
