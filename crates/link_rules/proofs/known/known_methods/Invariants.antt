use Rattle.std.proofs.Common.{◌≡◌, length}
use Rattle.link_rules.specs.Marks.{AreTested}
use Rattle.link_rules.specs.Walks.Missing.{knows_method_text}
use Rattle.link_rules.proofs.known.known_methods.Given as goal

abbrev pub invariant-loop-index : goal.invariant-loop-index
invariant-loop-index l = (length l.told ≡ l.index) × AreTested (knows_method_text l.names) l.pool l.told
