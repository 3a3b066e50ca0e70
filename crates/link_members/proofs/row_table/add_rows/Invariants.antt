use Rattle.std.proofs.Common.{◌≡◌, ◌++◌, drop, map}
use Rattle.link_members.specs.Rows.{row_by}
use Rattle.link_members.proofs.row_table.add_rows.Given as goal

abbrev pub invariant-loop-file : goal.invariant-loop-file
invariant-loop-file l =
    l.initial.rows ++ map (row_by l.step l.program) l.files ≡ l.rows ++ map (row_by l.step l.program) (drop l.file-index l.files)
