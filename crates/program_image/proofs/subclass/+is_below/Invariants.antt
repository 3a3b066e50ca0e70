use Rattle.std.proofs.Common.{◌≡◌, ℕ, ◌<◌, true, slice_index}
use Rattle.program_image.specs.Subclass.{is_sub_of}
use Rattle.program_image.proofs.subclass.+is_below.Given as goal

abbrev pub decreases-is_below : goal.decreases-is_below
decreases-is_below l = slice_index l.ancestry.now.ranks l.high

abbrev pub invariant-loop-p : goal.invariant-loop-p
invariant-loop-p l = (i : ℕ) → i < l.p-index → is_sub_of l.classes (slice_index l.p-items i) l.q ≡ true → ⊥
