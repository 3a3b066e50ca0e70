use Rattle.std.proofs.Common.{◌≡◌, ◌+◌, ◌*◌, ◌++◌, drop, map, length}
use Rattle.boot_table.specs.Files.{with_classes, class_indices}
use Rattle.boot_table.proofs.pool.add_classes.Given as goal

abbrev pub invariant-loop-name : goal.invariant-loop-name
invariant-loop-name l = record {
  added : with_classes l.fn.pool (map (λ s. s.now) l.names) ≡ with_classes l.pool (map (λ s. s.now) (drop l.name-index l.names));
  indices : class_indices l.fn.pool (map (λ s. s.now) l.names) ≡ l.indices ++ class_indices l.pool (map (λ s. s.now) (drop l.name-index l.names));
  count : length l.pool ≡ length l.fn.pool + 2 * l.name-index;
}
