use Rattle.std.proofs.Common.{◌≡◌, drop}
use Rattle.std.specs.List.{flat_map}
use Rattle.link_uses.specs.Walk.{broken_file}
use Rattle.link_uses.proofs.walk.check_files.Given as goal

abbrev pub invariant-loop-i : goal.invariant-loop-i
invariant-loop-i l =
    flat_map (broken_file l.rule l.resolver) l.files ≡ flat_map (broken_file l.rule l.resolver) (drop l.i l.files)
