use Rattle.std.proofs.Common.{◌++◌, ◌∙◌, map, ap, sym}
use Rattle.std.proofs.lemmas.List.{map-append}
use Rattle.boot_table.specs.Files.{file_of, boot_files}
use Rattle.boot_table.specs.Seen.{seen_exception}
use Rattle.boot_table.specs.Table.{first_rows, exceptions, boot_rows}
use Rattle.boot_table.proofs.build.boot_classes.Goals as goal

pub returns : goal.returns
unfolding boot_files boot_rows
returns c =
    c.in_ok-add_exceptions.ensures ∙ ap (λ z. z ++ map file_of (map seen_exception c.exceptions.result.now)) c.in_ok-files.ensures ∙ ap (λ z. map file_of first_rows ++ map file_of z) c.exceptions.ensures ∙ sym (map-append file_of first_rows exceptions)
