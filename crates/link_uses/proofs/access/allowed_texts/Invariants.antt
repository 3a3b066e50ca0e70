use Rattle.std.proofs.Common.{◌≡◌, length}
use Rattle.link_rules.specs.Marks.{AreRight}
use Rattle.link_uses.specs.Uses.{no_access_item}
use Rattle.link_uses.proofs.access.allowed_texts.Given as goal

abbrev pub invariant-loop-index : goal.invariant-loop-index
invariant-loop-index l = (length l.allowed ≡ l.index) × AreRight (no_access_item l.program l.file) l.file.pool l.allowed
