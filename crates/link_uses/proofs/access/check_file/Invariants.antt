use Rattle.std.proofs.Common.{◌≡◌, drop}
use Rattle.std.specs.List.{flat_map}
use Rattle.link_uses.specs.Uses.{no_access_in}
use Rattle.link_uses.proofs.access.check_file.Given as goal

abbrev pub invariant-loop-i : goal.invariant-loop-i
invariant-loop-i l =
    flat_map (no_access_in l.resolver l.number l.file) l.file.methods ≡ flat_map (no_access_in l.resolver l.number l.file) (drop l.i l.file.methods)
