use Rattle.std.proofs.Common.{◌≡◌, drop}
use Rattle.std.specs.List.{flat_map}
use Rattle.link_rules.specs.Walks.Missing.{missing_desc}
use Rattle.link_rules.proofs.named.check_descs.Given as goal

abbrev pub invariant-loop-desc : goal.invariant-loop-desc
invariant-loop-desc l =
    flat_map (missing_desc l.names l.file) l.descs ≡ flat_map (missing_desc l.names l.file) (drop l.desc-index l.descs)
