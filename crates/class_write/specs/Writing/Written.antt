-- What the counts and lengths of a class file have room for.
use Rattle.std.specs.Prelude.{◌<◌, ◌^◌, length, All, Option, Some, None}
use Rattle.jvm_base.specs.Text.{text_bytes}
use Rattle.jvm_base.specs.declared.code_item.CodeItem.{CodeItem}
use Rattle.class_format.specs.declared.class.ClassFile.{ClassFile}
use Rattle.jvm_base.specs.declared.pool.PoolItem.{PoolItem}
use Rattle.jvm_base.specs.declared.pool.PoolItem.TheVariants.{Utf8}

-- a text has a length that fits two bytes
abbrev pub FitsWritten : PoolItem → Type 0
FitsWritten (Utf8 us) = length (text_bytes us) < 2 ^ 16
FitsWritten _ = Unit {0}

-- the code and the table of a method
abbrev pub FitsCode : Option CodeItem → Type 0
FitsCode None = Unit {0}
FitsCode (Some c) = (length c.code < 2 ^ 16) × (length c.table < 2 ^ 16)

-- each count, and each length of two bytes, is below 2^16
pub record IsWritable (c : ClassFile) : Type 0 where
  pub pool : length c.pool < 2 ^ 16
  pub items : All FitsWritten c.pool
  pub interfaces : length c.interfaces < 2 ^ 16
  pub fields : length c.fields < 2 ^ 16
  pub methods : length c.methods < 2 ^ 16
  pub codes : All (λ m. FitsCode m.code) c.methods
