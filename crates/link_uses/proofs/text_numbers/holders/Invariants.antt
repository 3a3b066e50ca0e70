use Rattle.std.proofs.Common.{◌≡◌, length}
use Rattle.link_rules.specs.Numbers.{holder_of}
use Rattle.link_uses.specs.TextNumbers.{AreOf}
use Rattle.link_uses.proofs.text_numbers.holders.Given as goal

abbrev pub invariant-loop-index : goal.invariant-loop-index
invariant-loop-index l = (length l.told ≡ l.index) × AreOf (holder_of l.program) l.pool l.told
