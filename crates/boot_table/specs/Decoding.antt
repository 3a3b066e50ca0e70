-- Files whose code is decoded.
use Rattle.std.specs.Prelude.{Bool, true, List, Option, Some, None, is_ok}
use Rattle.std.specs.List.{list_all}
use Rattle.jvm_base.specs.declared.code_item.CodeItem.{CodeItem}
use Rattle.jvm_base.specs.declared.pool.PoolItem.{PoolItem}
use Rattle.class_format.specs.declared.class.ClassFile.{ClassFile}
use Rattle.code_table.specs.Decoded.{decoded}

-- there is no code, or none of its refusals comes
abbrev pub is_decoded : List PoolItem → Option CodeItem → Bool
is_decoded pool None = true
is_decoded pool (Some c) = is_ok (decoded c pool)

-- each method's code
abbrev pub are_decoded : ClassFile → Bool
are_decoded f = list_all (λ m. is_decoded f.pool m.code) f.methods
