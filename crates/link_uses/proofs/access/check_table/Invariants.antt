use Rattle.std.proofs.Common.{◌≡◌, drop}
use Rattle.std.specs.List.{flat_map}
use Rattle.link_uses.specs.Uses.{no_access_entry}
use Rattle.link_uses.proofs.access.check_table.Given as goal

abbrev pub invariant-loop-entry : goal.invariant-loop-entry
invariant-loop-entry l =
    flat_map (no_access_entry l.program l.file) l.table ≡ flat_map (no_access_entry l.program l.file) (drop l.entry-index l.table)
