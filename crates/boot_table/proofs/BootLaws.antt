-- Each boot file is a class file, found by computing.
use Rattle.std.proofs.Common.{◌≡◌, true, refl}
use Rattle.std.specs.Prelude.{All}
use Rattle.std.specs.List.{list_all}
use Rattle.code_table.specs.Decoded.{decoded}
use Rattle.code_table.specs.Instructions.{sized_at, wide_of, wide_at, instruction_at}
use Rattle.code_table.specs.Pooled.{field, method, interface_method}
use Rattle.code_table.specs.Sequences.{instructions_from, instructions_of}
use Rattle.code_table.specs.Switches.{table_switch_at, lookup_switch_at}
use Rattle.code_table.specs.Table.{table, form_at}
use Rattle.code_table.specs.Targets.{is_start, leads_off, is_bad_entry, flag_at}
use Rattle.boot_table.specs.Decoding.{are_decoded}
use Rattle.jvm_base.specs.Descriptors.{method_of, args_at, desc_of, desc_at, elem_at}
use Rattle.class_format.specs.Meaning.{IsClass}
use Rattle.boot_table.specs.Files.{boot_files}
use Rattle.boot_table.specs.Table.{boot_rows, first_rows, exceptions}
use Rattle.boot_table.proofs.Formed.{is_formed, files_are}

all_formed : list_all is_formed boot_files ≡ true
unfolding boot_files boot_rows first_rows exceptions method_of args_at desc_of desc_at elem_at
all_formed = refl

pub boot_formed : All IsClass boot_files
boot_formed = files_are boot_files all_formed

pub boot_decoded : list_all are_decoded boot_files ≡ true
unfolding boot_files boot_rows first_rows exceptions decoded sized_at wide_of wide_at instruction_at field method interface_method instructions_from instructions_of table_switch_at lookup_switch_at table form_at is_start leads_off is_bad_entry flag_at method_of args_at desc_of desc_at elem_at
boot_decoded = refl
