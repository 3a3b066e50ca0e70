use Rattle.std.proofs.Common.{◌≡◌, length}
use Rattle.link_rules.specs.Marks.{AreTested}
use Rattle.link_rules.specs.Descriptors.{leaves_out_text}
use Rattle.link_rules.proofs.left_out.left_out_methods.Given as goal

abbrev pub invariant-loop-index : goal.invariant-loop-index
invariant-loop-index l = (length l.told ≡ l.index) × AreTested leaves_out_text l.pool l.told
