use Rattle.std.proofs.Common.{◌≡◌, drop}
use Rattle.std.specs.List.{flat_map}
use Rattle.link_rules.specs.Classes.{wrong_above}
use Rattle.link_rules.proofs.above.check_kinds.Given as goal

abbrev pub invariant-loop-file : goal.invariant-loop-file
invariant-loop-file l = flat_map (wrong_above l.program) l.files ≡ flat_map (wrong_above l.program) (drop l.file-index l.files)
