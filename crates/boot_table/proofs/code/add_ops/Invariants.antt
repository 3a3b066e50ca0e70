use Rattle.std.proofs.Common.{◌≡◌, ◌+◌, ◌*◌, ◌≤◌, ◌++◌, drop, map, length}
use Rattle.boot_table.specs.Files.{with_ops, ops_bytes}
use Rattle.boot_table.specs.Seen.{seen_op}
use Rattle.boot_table.proofs.code.add_ops.Given as goal

abbrev pub invariant-loop-op : goal.invariant-loop-op
invariant-loop-op l = record {
  added : with_ops l.fn.pool (map seen_op l.ops) ≡ with_ops l.pool (map seen_op (drop l.op-index l.ops));
  bytes : ops_bytes l.fn.pool (map seen_op l.ops) ≡ l.code ++ ops_bytes l.pool (map seen_op (drop l.op-index l.ops));
  few : length l.pool ≤ length l.fn.pool + 6 * l.op-index;
}
