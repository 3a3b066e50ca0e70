use Rattle.std.proofs.Common.{◌≡◌, drop}
use Rattle.std.specs.List.{flat_map}
use Rattle.link_rules.specs.Descriptors.{left_out_entry}
use Rattle.link_rules.proofs.left_out.check_table.Given as goal

abbrev pub invariant-loop-entry : goal.invariant-loop-entry
invariant-loop-entry l = flat_map (left_out_entry l.file) l.table ≡ flat_map (left_out_entry l.file) (drop l.entry-index l.table)
