use Rattle.std.proofs.Common.{◌≡◌, drop}
use Rattle.std.specs.List.{flat_map}
use Rattle.link_rules.specs.Walks.Missing.{missing_entry}
use Rattle.link_rules.proofs.named.check_table.Given as goal

abbrev pub invariant-loop-entry : goal.invariant-loop-entry
invariant-loop-entry l =
    flat_map (missing_entry l.names l.file) l.table ≡ flat_map (missing_entry l.names l.file) (drop l.entry-index l.table)
