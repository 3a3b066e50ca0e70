use Rattle.std.proofs.Common.{◌≡◌, drop}
use Rattle.shared_types.specs.Trees.{all_operands}
use Rattle.shared_types.proofs.block.all_operands.Given as goal

abbrev pub invariant-loop-i : goal.invariant-loop-i
invariant-loop-i l = all_operands (drop l.i l.types) ≡ all_operands l.types
