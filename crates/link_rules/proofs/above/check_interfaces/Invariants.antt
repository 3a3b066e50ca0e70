use Rattle.std.proofs.Common.{◌≡◌, drop}
use Rattle.std.specs.List.{flat_map}
use Rattle.link_rules.specs.Walks.Kinds.{wrong_interface_item}
use Rattle.link_rules.proofs.above.check_interfaces.Given as goal

abbrev pub invariant-loop-interface : goal.invariant-loop-interface
invariant-loop-interface l = flat_map (wrong_interface_item l.program l.file) l.interfaces ≡ flat_map (wrong_interface_item l.program l.file) (drop l.interface-index l.interfaces)
