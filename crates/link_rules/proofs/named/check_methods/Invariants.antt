use Rattle.std.proofs.Common.{◌≡◌, drop}
use Rattle.std.specs.List.{flat_map}
use Rattle.link_rules.specs.Walks.Missing.{missing_method}
use Rattle.link_rules.proofs.named.check_methods.Given as goal

abbrev pub invariant-loop-i : goal.invariant-loop-i
invariant-loop-i l =
    flat_map (missing_method l.names l.file) l.file.methods ≡ flat_map (missing_method l.names l.file) (drop l.i l.file.methods)
