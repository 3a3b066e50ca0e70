-- The members that the items of a file's pool lead to, as a table keeps them.
use Rattle.std.specs.Prelude.{◌≡◌, ◌<◌, ℕ, Bool, true, false, List, length, Option, Some, None, slice_get, slice_index_or}
use Rattle.jvm_base.specs.declared.pool.PoolItem.{PoolItem}
use Rattle.jvm_base.specs.declared.pool.PoolItem.TheVariants.{Field, Method, InterfaceMethod}
use Rattle.jvm_base.specs.Words.{from}
use Rattle.class_format.specs.declared.class.ClassFile.{ClassFile}
use Rattle.class_names.specs.Texts.{member_of}
use Rattle.link_uses.specs.declared.lookup.Found.{Found}
use Rattle.link_uses.specs.Lookups.{found_field, found_method}

-- the field or method that an item leads to
abbrev pub found_of : List ClassFile → List PoolItem → PoolItem → Option Found
found_of all pool (Field class pair) = found_field all (member_of pool (Some (Field class pair)))
found_of all pool (Method class pair) = found_method all (member_of pool (Some (Method class pair)))
found_of all pool (InterfaceMethod class pair) = found_method all (member_of pool (Some (InterfaceMethod class pair)))
found_of all pool _ = None

-- of the item at an index
unfoldable pub found_at_index : List ClassFile → List PoolItem → ℕ → Option Found
found_at_index all pool i = from None (found_of all pool) (slice_get pool i)

-- what a table has at an index is what the item there leads to
abbrev pub AreItems : List ClassFile → List PoolItem → List (Option Found) → Type 0
AreItems all pool found = (i : ℕ) (x : Option Found) → slice_get found i ≡ Some x → x ≡ found_at_index all pool i

-- what tables have for each of some files' pools
pub record HaveItems (all files : List ClassFile) (tables : List (List (Option Found))) : Type 0 where
  pub same : length tables ≡ length files
  pub each : (i : ℕ) (f : ClassFile) (found : List (Option Found)) → i < length files → AreItems all (slice_index_or files i f).pool (slice_index_or tables i found)

-- the item is a field, or a method
abbrev pub is_field_item : Option PoolItem → Bool
is_field_item (Some (Field class pair)) = true
is_field_item _ = false

abbrev pub is_method_item : Option PoolItem → Bool
is_method_item (Some (Method class pair)) = true
is_method_item (Some (InterfaceMethod class pair)) = true
is_method_item _ = false
