use Rattle.std.proofs.Common.{◌≡◌, drop}
use Rattle.std.specs.List.{flat_map}
use Rattle.link_rules.specs.Members.{wrong_members}
use Rattle.link_members.proofs.declared.check_declared.Given as goal

abbrev pub invariant-loop-file : goal.invariant-loop-file
invariant-loop-file l = flat_map (wrong_members) l.files ≡ flat_map (wrong_members) (drop l.file-index l.files)
