use Rattle.std.proofs.Common.{◌≡◌, ℕ, ◌<◌, ◌≤◌, [], length, replicate}
use Rattle.hierarchy.specs.Hierarchy.{row_of}
use Rattle.hierarchy.specs.Steps.Filled.{AreWalked, AreUnseen}
use Rattle.hierarchy.proofs.walk_table.walks.Given as goal

abbrev pub invariant-loop-row : goal.invariant-loop-row
invariant-loop-row l = l.table.items ≡ replicate l._row-index []

abbrev pub invariant-loop-c : goal.invariant-loop-c
invariant-loop-c l = record {
  lens : length l.table.items ≡ length l.rows;
  marks : length l.seen.items ≡ length l.rows;
  right : AreWalked l.rows l.table.items;
  filled : (d : ℕ) → d < l.c → 1 ≤ length (row_of l.table.items d);
  unseen : AreUnseen l.seen.items;
}
