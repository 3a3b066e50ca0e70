-- The boot classes name no array type and have no literal, so those of the files are all.
use Rattle.std.proofs.Common.{◌≡◌, Bool, true, not, ◌||◌, List, [], ◌∷◌, ◌++◌, is_some, refl, ap, ◌∙◌}
use Rattle.std.specs.List.{flat_map, list_all}
use Rattle.std.proofs.lemmas.Grind.{flat_map-append}
use Rattle.boot_table.specs.Table.{boot_rows, first_rows, exceptions}
use Rattle.boot_table.specs.Files.{boot_files}
use Rattle.class_format.specs.declared.class.ClassFile.{ClassFile}
use Rattle.class_format.specs.declared.class.MethodItem.{MethodItem}
use Rattle.class_names.specs.Classes.{code_of}
use Rattle.code_table.specs.Decoded.{decoded}
use Rattle.code_table.specs.Instructions.{sized_at, instruction_at}
use Rattle.code_table.specs.Pooled.{field, method, interface_method}
use Rattle.code_table.specs.Sequences.{instructions_from, instructions_of}
use Rattle.code_table.specs.Table.{table, form_at}
use Rattle.code_table.specs.Targets.{is_start, leads_off, is_bad_entry}
use Rattle.jvm_base.specs.declared.pool.PoolItem.{PoolItem}
use Rattle.jvm_base.specs.Descriptors.{desc_of, desc_at, elem_at, args_at, method_of}
use Rattle.link_arrays.specs.Arrays.{file_types, array_types, with_types, strings}
use Rattle.link_arrays.specs.Literals.{file_literals, literals, with_contents}

-- a method has no code, or code that is decoded
abbrev pub is_decoded : List PoolItem → MethodItem → Bool
is_decoded pool m = not (is_some m.code) || is_some (code_of pool m)

-- all code of theirs is decoded
pub boot_code : list_all (λ f. list_all (is_decoded f.pool) f.methods) boot_files ≡ true
unfolding boot_files boot_rows first_rows exceptions decoded sized_at instruction_at field method interface_method instructions_from instructions_of table form_at is_start leads_off is_bad_entry desc_of desc_at elem_at args_at method_of
boot_code = refl

-- and none of its instructions names an array type
pub boot_types : flat_map file_types boot_files ≡ []
unfolding boot_files boot_rows first_rows exceptions decoded sized_at instruction_at field method interface_method instructions_from instructions_of table form_at is_start leads_off is_bad_entry desc_of desc_at elem_at args_at method_of
boot_types = refl

-- nor does one load a String
pub boot_literals : flat_map file_literals boot_files ≡ []
unfolding boot_files boot_rows first_rows exceptions decoded sized_at instruction_at field method interface_method instructions_from instructions_of table form_at is_start leads_off is_bad_entry desc_of desc_at elem_at args_at method_of
boot_literals = refl

-- so a program has the array types of its files
pub types_of_files : (files : List ClassFile) → array_types (boot_files ++ files) ≡ array_types files
unfolding array_types
types_of_files files = ap (λ types. with_types [] (strings ∷ types)) (flat_map-append file_types boot_files files ∙ ap (λ types. types ++ flat_map file_types files) boot_types)

-- and their literals
pub literals_of_files : (files : List ClassFile) → literals (boot_files ++ files) ≡ literals files
unfolding literals
literals_of_files files = ap (with_contents []) (flat_map-append file_literals boot_files files ∙ ap (λ contents. contents ++ flat_map file_literals files) boot_literals)
