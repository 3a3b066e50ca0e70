use Rattle.std.proofs.Common.{◌≡◌, drop}
use Rattle.std.specs.List.{flat_map}
use Rattle.link_rules.specs.Classes.{final_super}
use Rattle.link_rules.proofs.above.check_finals.Given as goal

abbrev pub invariant-loop-file : goal.invariant-loop-file
invariant-loop-file l = flat_map (final_super l.program) l.files ≡ flat_map (final_super l.program) (drop l.file-index l.files)
