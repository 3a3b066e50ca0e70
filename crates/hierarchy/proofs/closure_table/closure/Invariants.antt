use Rattle.std.proofs.Common.{◌≡◌, ℕ, ◌<◌, length}
use Rattle.hierarchy.specs.Hierarchy.{row_of}
use Rattle.hierarchy.specs.Closure.{IsUpwards}
use Rattle.hierarchy.proofs.closure_table.closure.Given as goal

abbrev pub invariant-loop-walk : goal.invariant-loop-walk
invariant-loop-walk l = record { same : length l.table ≡ l.walk-index; each : (c : ℕ) → c < l.walk-index → IsUpwards l.rows c (row_of l.table c) }
