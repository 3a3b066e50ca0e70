-- What the walk over a row keeps.
use Rattle.std.proofs.Common.{◌≡◌, ℕ, ◌+◌, ◌<◌, ◌≤◌, List, slice_index}
use Rattle.hierarchy.specs.Steps.Marks.{AreDone, Grew, unseen}

-- from the marks m0, c among them on the way, to m: the first `index` of c's row are done
pub record Walking (rows : List (List ℕ)) (row m0 m : List ℕ) (c last0 last index : ℕ) : Type 0 where
  pub here : slice_index m c ≡ 1
  pub grew : Grew m0 m
  pub done : AreDone rows m last
  pub passed : (i : ℕ) → i < index → 2 ≤ slice_index m (slice_index row i)
  pub room : last + unseen m ≤ last0 + unseen m0
  pub rises : last0 ≤ last
