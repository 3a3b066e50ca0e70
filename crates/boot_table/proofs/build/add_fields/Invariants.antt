use Rattle.std.proofs.Common.{◌≡◌, ◌+◌, ◌*◌, ◌++◌, drop, map, length}
use Rattle.boot_table.specs.Files.{with_fields, field_items}
use Rattle.boot_table.specs.Seen.{seen_field}
use Rattle.boot_table.proofs.build.add_fields.Given as goal

abbrev pub invariant-loop-field : goal.invariant-loop-field
invariant-loop-field l = record {
  added : with_fields l.fn.pool (map seen_field l.fields) ≡ with_fields l.pool (map seen_field (drop l.field-index l.fields));
  items : field_items l.fn.pool (map seen_field l.fields) ≡ l.items ++ field_items l.pool (map seen_field (drop l.field-index l.fields));
  count : length l.pool ≡ length l.fn.pool + 2 * l.field-index;
}
