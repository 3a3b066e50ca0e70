-- For each number the set of itself and all that lies above it.
use Rattle.std.specs.Prelude.{◌≡◌, ℕ, true, ◌<◌, List, length}
use Rattle.std.proofs.Common.{◌⊎◌}
use Rattle.std.specs.Ordering.{nat_cmp}
use Rattle.std.specs.List.Sorted.{IsSorted}
use Rattle.hierarchy.specs.Hierarchy.{row_of, Under}
use Rattle.hierarchy.specs.Walks.{has}

-- the row has the number, all that lies above it and nothing else, in rising order
pub record IsUpwards (rows : List (List ℕ)) (c : ℕ) (row : List ℕ) : Type 0 where
  pub sound : (d : ℕ) → has row d ≡ true → (c ≡ d) ⊎ Under rows c d
  pub itself : has row c ≡ true
  pub whole : (d : ℕ) → Under rows c d → has row d ≡ true
  pub sorted : IsSorted nat_cmp row

-- the table has such a row for each number
pub record IsClosure (rows table : List (List ℕ)) : Type 0 where
  pub same : length table ≡ length rows
  pub each : (c : ℕ) → c < length rows → IsUpwards rows c (row_of table c)
