-- What an index of a constant pool finds (JVMS2 4.4).
use Rattle.std.specs.Prelude.{ℕ, List, Bool, true, false, nat_eq, Option, Some, None, slice_get, option_and_then, option_map, is_some}
use Rattle.std.specs.Borrow.{Bor}
use Rattle.std.specs.Option.{option_map_or}
use Rattle.std.specs.Cmp.Lexicographic.{pointwise}
use Rattle.jvm_base.specs.declared.pool.PoolItem.{PoolItem}
use Rattle.jvm_base.specs.declared.pool.PoolItem.TheVariants.{Utf8, Long, Double, Class, NameAndKind}

-- ---- texts

-- the text that an item is
abbrev pub text_of : PoolItem → Option (List ℕ)
text_of (Utf8 us) = Some us
text_of _ = None

-- the text at an index
abbrev pub text_at : List PoolItem → ℕ → Option (List ℕ)
text_at pool i = option_and_then text_of (slice_get pool i)

-- the units of a text that is lent
abbrev pub units : Option (Bor (List ℕ)) → Option (List ℕ)
units text = option_map (λ t. t.now) text

-- the item at an index is a text that passes
abbrev pub is_text_that : (List ℕ → Bool) → List PoolItem → ℕ → Bool
is_text_that test pool i = option_map_or test (text_at pool i) false

-- the item is a text that passes
abbrev pub is_item_that : (List ℕ → Bool) → PoolItem → Bool
is_item_that test item = option_map_or test (text_of item) false

-- the item at an index is a text
abbrev pub is_text_at : List PoolItem → ℕ → Bool
is_text_at pool i = is_some (text_at pool i)

-- the second text is the first
abbrev pub is_the_text : List ℕ → List ℕ → Bool
is_the_text us vs = pointwise nat_eq vs us

-- both are the same text, or neither is one
abbrev pub is_same_text : Option (List ℕ) → Option (List ℕ) → Bool
is_same_text (Some us) (Some vs) = pointwise nat_eq us vs
is_same_text None None = true
is_same_text _ _ = false

-- ---- items of a kind

-- a Long or a Double takes two indices (JVMS2 4.4.5)
abbrev pub is_wide : PoolItem → Bool
is_wide (Long n) = true
is_wide (Double n) = true
is_wide _ = false

-- the index of the name of the class that an item is
abbrev pub name_of : PoolItem → Option ℕ
name_of (Class name) = Some name
name_of _ = None

-- the index of the name of the class at an index
abbrev pub class_at : List PoolItem → ℕ → Option ℕ
class_at pool i = option_and_then name_of (slice_get pool i)

-- the item at an index is a class
abbrev pub is_class_at : List PoolItem → ℕ → Bool
is_class_at pool i = is_some (class_at pool i)

-- the index of the descriptor of the name and descriptor that an item is
abbrev pub desc_index : PoolItem → Option ℕ
desc_index (NameAndKind name desc) = Some desc
desc_index _ = None

-- the text of the descriptor of the name and descriptor at an index
abbrev pub pair_text : List PoolItem → ℕ → Option (List ℕ)
pair_text pool i = option_and_then (text_at pool) (option_and_then desc_index (slice_get pool i))

-- the item at an index is a name and descriptor whose descriptor passes
abbrev pub is_pair_that : (List ℕ → Bool) → List PoolItem → ℕ → Bool
is_pair_that test pool i =
    option_map_or (is_text_that test pool) (option_and_then desc_index (slice_get pool i)) false
