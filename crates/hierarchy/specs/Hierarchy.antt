-- A hierarchy of numbers: each row has the numbers directly above the number of the row.
use Rattle.std.specs.Prelude.{◌≡◌, ℕ, ◌<◌, ◌+◌, List, [], length, slice_index, slice_index_or}
use Rattle.std.specs.List.{All, Contains}

-- the numbers directly above a number; a number without a row has none
abbrev pub row_of : List (List ℕ) → ℕ → List ℕ
row_of rows c = slice_index_or rows c []

-- each number in a row has a row itself
abbrev pub IsWithin : List (List ℕ) → Type 0
IsWithin rows = All (λ row. All (λ k. k < length rows) row) rows

-- the second number lies above the first, over one or more steps
pub data Under (rows : List (List ℕ)) : ℕ → ℕ → Type 0 where
  directly : {c d : ℕ} → Contains (row_of rows c) d → Under rows c d
  over : {c k d : ℕ} → Contains (row_of rows c) k → Under rows k d → Under rows c d

-- each number's rank is greater than the ranks of the numbers directly above it
pub record IsRanked (rows : List (List ℕ)) (ranks : List ℕ) : Type 0 where
  pub all : length ranks ≡ length rows
  pub falls : (c k : ℕ) → Contains (row_of rows c) k → slice_index ranks k < slice_index ranks c
  pub most : (c : ℕ) → slice_index ranks c < length rows + 2
