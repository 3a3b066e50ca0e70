-- How large classes may be: counts in a class file take two bytes, and so does the length of code.
use Rattle.std.specs.Prelude.{◌<◌, ◌^◌, length, Option, Some, None}
use Rattle.std.specs.List.{AllByRecursion}
use Rattle.jvm_base.specs.declared.code_item.CodeItem.{CodeItem}
use Rattle.class_format.specs.declared.class.ClassFile.{ClassFile}

-- few fields
abbrev pub HasFewFields : ClassFile → Type 0
HasFewFields f = length f.fields < 2 ^ 16

-- short code, and a short exception table, if there is some
abbrev pub IsShort : Option CodeItem → Type 0
IsShort None = Unit {0}
IsShort (Some c) = (length c.code < 2 ^ 16) × (length c.table < 2 ^ 16)

-- the code of each method is
abbrev pub HasShortCode : ClassFile → Type 0
HasShortCode f = AllByRecursion (λ m. IsShort m.code) f.methods
