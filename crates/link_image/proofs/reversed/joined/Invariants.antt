use Rattle.std.proofs.Common.{◌≡◌, ◌++◌, length, reverse}
use Rattle.link_image.proofs.reversed.joined.Given as goal

abbrev pub invariant-loop-item : goal.invariant-loop-item
invariant-loop-item g l = l.fn.first ++ l.fn.second ≡ l.all ++ reverse l.rest

abbrev pub decreases-loop-item : goal.decreases-loop-item
decreases-loop-item g l = length l.rest
