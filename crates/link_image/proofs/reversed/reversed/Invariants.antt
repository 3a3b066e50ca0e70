use Rattle.std.proofs.Common.{◌≡◌, ◌++◌, length, reverse}
use Rattle.link_image.proofs.reversed.reversed.Given as goal

abbrev pub invariant-loop-item : goal.invariant-loop-item
invariant-loop-item g l = reverse l.fn.items ≡ l.other ++ reverse l.items

abbrev pub decreases-loop-item : goal.decreases-loop-item
decreases-loop-item g l = length l.items
