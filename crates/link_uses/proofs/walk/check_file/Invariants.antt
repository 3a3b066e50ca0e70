use Rattle.std.proofs.Common.{◌≡◌, drop}
use Rattle.std.specs.List.{flat_map}
use Rattle.link_uses.specs.Walk.{broken_in}
use Rattle.link_uses.proofs.walk.check_file.Given as goal

abbrev pub invariant-loop-i : goal.invariant-loop-i
invariant-loop-i l =
    flat_map (broken_in l.rule l.resolver l.file) l.file.methods ≡ flat_map (broken_in l.rule l.resolver l.file) (drop l.i l.file.methods)
