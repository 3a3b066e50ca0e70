use Rattle.std.proofs.Common.{◌≡◌, length}
use Rattle.link_uses.specs.Uses.{is_wrong_new}
use Rattle.link_rules.specs.Marks.{AreTested}
use Rattle.link_uses.proofs.told.wrong_news.Given as goal

abbrev pub invariant-loop-index : goal.invariant-loop-index
invariant-loop-index l = (length l.told ≡ l.index) × AreTested (is_wrong_new l.program) l.pool l.told
