-- How many bytes code takes.
use Rattle.std.proofs.Common.{◌≡◌, ◌+◌, ◌*◌, List, [], ◌∷◌, length, refl, arith, length-append}
use Rattle.std.specs.List.{flat_map}
use Rattle.jvm_base.specs.declared.code_item.CodeItem.{CodeItem}
use Rattle.jvm_base.specs.declared.code_item.TableItem.{TableItem}
use Rattle.class_format.specs.Spelling.{table_bytes, code_bytes}

table-length : (ts : List TableItem) → length (flat_map table_bytes ts) ≡ 8 * length ts
table-length [] = refl
table-length (t ∷ ts) = omega (arith, table-length ts)

pub code-length : (c : CodeItem) → length (code_bytes c []) ≡ 12 + length c.code + 8 * length c.table
code-length c = grind (arith, length-append, table-length c.table)
