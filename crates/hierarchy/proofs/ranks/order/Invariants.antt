use Rattle.std.proofs.Common.{◌≡◌, ℕ, ◌<◌, ◌≤◌, ◌+◌, length, slice_index}
use Rattle.hierarchy.specs.Steps.Marks.{AreDone, unseen}
use Rattle.hierarchy.proofs.ranks.order.Given as goal

-- the numbers below c are done, and none is on the way
abbrev pub invariant-loop-c : goal.invariant-loop-c
invariant-loop-c l =
    (length l.marks.items ≡ length l.rows) × AreDone l.rows l.marks.items l.last × ((g : ℕ) → slice_index l.marks.items g ≡ 1 → g < g) × ((g : ℕ) → g < l.c → 2 ≤ slice_index l.marks.items g) × (l.last + unseen l.marks.items ≤ length l.rows + 1)
