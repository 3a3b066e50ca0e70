use Rattle.std.proofs.Common.{◌≡◌, drop}
use Rattle.std.specs.List.{flat_map}
use Rattle.link_rules.specs.Walks.Missing.{missing_interface}
use Rattle.link_rules.proofs.named.check_interfaces.Given as goal

abbrev pub invariant-loop-interface : goal.invariant-loop-interface
invariant-loop-interface l =
    flat_map (missing_interface l.names l.file) l.interfaces ≡ flat_map (missing_interface l.names l.file) (drop l.interface-index l.interfaces)
