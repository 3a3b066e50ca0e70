use Rattle.std.proofs.Common.{◌≡◌, drop}
use Rattle.std.specs.List.{flat_map}
use Rattle.link_rules.specs.Classes.{no_class}
use Rattle.link_rules.proofs.named.check_files.Given as goal

abbrev pub invariant-loop-i : goal.invariant-loop-i
invariant-loop-i l = flat_map (no_class l.names) l.files ≡ flat_map (no_class l.names) (drop l.i l.files)
