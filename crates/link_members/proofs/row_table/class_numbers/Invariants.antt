use Rattle.std.proofs.Common.{◌≡◌, length}
use Rattle.link_rules.specs.Numbers.{number_of}
use Rattle.link_members.specs.Told.{AreTold}
use Rattle.link_members.proofs.row_table.class_numbers.Given as goal

abbrev pub invariant-loop-index : goal.invariant-loop-index
invariant-loop-index l = (length l.told ≡ l.index) × AreTold (number_of l.program) l.pool l.told
