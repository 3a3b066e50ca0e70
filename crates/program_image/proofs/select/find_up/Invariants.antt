use Rattle.std.proofs.Common.{◌≡◌, length}
use Rattle.program_image.specs.Selection.{found_up}
use Rattle.program_image.proofs.Upwards.{found_from, rank_in, IsAt}
use Rattle.program_image.proofs.select.find_up.Given as goal

abbrev pub invariant-loop-at : goal.invariant-loop-at
invariant-loop-at l = IsAt (length l.classes) l.at × (found_up l.classes l.methods l.called l.class ≡ found_from l.classes l.methods l.called l.at)

abbrev pub decreases-loop-at : goal.decreases-loop-at
decreases-loop-at l = rank_in l.ancestry.ranks l.at
