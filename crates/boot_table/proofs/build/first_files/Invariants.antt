use Rattle.std.proofs.Common.{◌≡◌, ◌++◌, drop, map}
use Rattle.boot_table.specs.Files.{file_of}
use Rattle.boot_table.specs.Table.{first_rows}
use Rattle.boot_table.specs.Seen.{seen}
use Rattle.boot_table.proofs.build.first_files.Given as goal

abbrev pub invariant-loop-row : goal.invariant-loop-row
invariant-loop-row l = map file_of first_rows ≡ l.files ++ map file_of (map seen (drop l.row-index l.row-items))
