use Rattle.std.proofs.Common.{◌≡◌, ℕ, ◌<◌, length}
use Rattle.std.specs.List.{flat_map}
use Rattle.hierarchy.specs.Hierarchy.{row_of}
use Rattle.hierarchy.specs.Walks.{firsts}
use Rattle.hierarchy.proofs.join_table.joins.Given as goal

abbrev pub invariant-loop-list : goal.invariant-loop-list
invariant-loop-list l = record {
  same : length l.joined ≡ l.list-index;
  each : (c : ℕ) → c < l.list-index → row_of l.joined c ≡ firsts (flat_map (row_of l.table) (row_of l.lists c));
}
