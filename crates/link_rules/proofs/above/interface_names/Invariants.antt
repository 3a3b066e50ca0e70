use Rattle.std.proofs.Common.{◌≡◌, length}
use Rattle.link_rules.specs.Classes.{names_interface}
use Rattle.link_rules.specs.Marks.{AreTested}
use Rattle.link_rules.proofs.above.interface_names.Given as goal

abbrev pub invariant-loop-index : goal.invariant-loop-index
invariant-loop-index l = (length l.told ≡ l.index) × AreTested (names_interface l.program) l.pool l.told
