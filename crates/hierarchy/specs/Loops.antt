-- Numbers that lie above themselves.
use Rattle.std.specs.Prelude.{ℕ, Bool, List, length}
use Rattle.std.specs.List.{flat_map}
use Rattle.hierarchy.specs.Hierarchy.{row_of}
use Rattle.hierarchy.specs.Walks.{walk, has}

-- what lies above a number, over at most so many steps
unfoldable pub above_by : ℕ → List (List ℕ) → ℕ → List ℕ
above_by n rows c = flat_map (walk n rows) (row_of rows c)

-- the number lies above itself: no loop has more steps than there are numbers
unfoldable pub on_loop : List (List ℕ) → ℕ → Bool
on_loop rows c = has (above_by (length rows) rows c) c
