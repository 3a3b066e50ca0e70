use Rattle.std.proofs.Common.{◌≡◌, ◌+◌, ◌*◌, ◌≤◌, ◌++◌, drop, map, length}
use Rattle.boot_table.specs.Files.{with_methods, method_items}
use Rattle.boot_table.specs.Seen.{seen_method}
use Rattle.boot_table.proofs.build.add_methods.Given as goal

abbrev pub invariant-loop-method : goal.invariant-loop-method
invariant-loop-method l = record {
  added : with_methods l.fn.pool (map seen_method l.methods) ≡ with_methods l.pool (map seen_method (drop l.method-index l.methods));
  items : method_items l.fn.pool (map seen_method l.methods) ≡ l.items ++ method_items l.pool (map seen_method (drop l.method-index l.methods));
  few : length l.pool ≤ length l.fn.pool + 50 * l.method-index;
}
