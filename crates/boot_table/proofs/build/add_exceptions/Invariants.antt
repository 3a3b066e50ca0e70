use Rattle.std.proofs.Common.{◌≡◌, ◌++◌, drop, map}
use Rattle.boot_table.specs.Files.{file_of}
use Rattle.boot_table.specs.Seen.{seen_exception}
use Rattle.boot_table.proofs.build.add_exceptions.Given as goal

abbrev pub invariant-loop-exception : goal.invariant-loop-exception
invariant-loop-exception l =
    l.initial.files ++ map file_of (map seen_exception l.exceptions) ≡ l.files ++ map file_of (map seen_exception (drop l.exception-index l.exceptions))
