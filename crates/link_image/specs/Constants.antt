-- The values of constant items (JVMS2 4.4, 5.1).
use Rattle.std.specs.Prelude.{ℕ, List, Option, Some, None, option_map, option_and_then, slice_get}
use Rattle.jvm_base.specs.declared.pool.PoolItem.{PoolItem}
use Rattle.jvm_base.specs.declared.pool.PoolItem.TheVariants as item
use Rattle.jvm_base.specs.declared.value.Value.{Value}
use Rattle.jvm_base.specs.declared.value.Value.TheVariants.{Int, Long, Ref}
use Rattle.class_names.specs.Texts.{text_in}
use Rattle.link_arrays.specs.Literals.{literal_name, literal_number}

-- the object of a literal's text
abbrev pub literal_value : ℕ → List (List ℕ) → List ℕ → Option Value
literal_value classes literals text = option_map (λ n. Ref (literal_name classes n)) (literal_number literals text)

-- the value of an item; floats and doubles are left out
abbrev pub item_value : ℕ → List (List ℕ) → List PoolItem → PoolItem → Option Value
item_value classes literals pool (item.Integer n) = Some (Int n)
item_value classes literals pool (item.Long n) = Some (Long n)
item_value classes literals pool (item.Text i) = literal_value classes literals (text_in pool i)
item_value classes literals pool _ = None

-- the value of the item at an index
abbrev pub constant_value : ℕ → List (List ℕ) → List PoolItem → ℕ → Option Value
constant_value classes literals pool i = option_and_then (item_value classes literals pool) (slice_get pool i)
