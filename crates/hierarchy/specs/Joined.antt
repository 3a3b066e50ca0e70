-- For each list of numbers the rows of them in a table.
use Rattle.std.specs.Prelude.{◌≡◌, ℕ, ◌<◌, List, length}
use Rattle.std.specs.List.{flat_map}
use Rattle.hierarchy.specs.Hierarchy.{row_of}
use Rattle.hierarchy.specs.Walks.{firsts}

-- each row has the rows of the list's numbers one behind the other, each item where it stands first
pub record AreJoined (lists table joined : List (List ℕ)) : Type 0 where
  pub same : length joined ≡ length lists
  pub each : (c : ℕ) → c < length lists → row_of joined c ≡ firsts (flat_map (row_of table) (row_of lists c))
