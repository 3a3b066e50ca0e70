-- Texts with a meaning of their own, and which constants a field may have (JVMS2 3.9, 4.3, 4.7).
use Rattle.std.specs.Prelude.{ℕ, codes, List, length, nat_eq, nat_lt, Bool, false, ◌||◌, slice_get}
use Rattle.std.specs.Option.{option_map_or}
use Rattle.jvm_base.specs.declared.pool.PoolItem.{PoolItem}
use Rattle.jvm_base.specs.declared.pool.PoolItem.TheVariants.{Integer, Float, Long, Double, Text}
use Rattle.constant_pool.specs.Items.{is_text_that, is_the_text}

-- a name isn't empty
abbrev pub is_named : List ℕ → Bool
is_named us = nat_lt 0 (length us)

-- the name of a class initialiser
abbrev pub is_clinit : List ℕ → Bool
is_clinit us = is_the_text (codes "<clinit>") us

-- the name of the attribute with a method's code
abbrev pub is_code : List ℕ → Bool
is_code us = is_the_text (codes "Code") us

-- the name of the attribute with a field's constant
abbrev pub is_constant_value : List ℕ → Bool
is_constant_value us = is_the_text (codes "ConstantValue") us

-- the descriptor of strings
abbrev pub is_string_desc : List ℕ → Bool
is_string_desc us = is_the_text (codes "Ljava/lang/String;") us

-- the descriptor of int, or of a type whose constants are ints
abbrev pub is_int_desc : List ℕ → Bool
is_int_desc us =
    is_the_text (codes "I") us || is_the_text (codes "S") us || is_the_text (codes "C") us
    || is_the_text (codes "B") us || is_the_text (codes "Z") us

-- ---- constants of fields

-- the item is a constant of that descriptor (JVMS2 table 4.6)
abbrev pub is_constant : List ℕ → PoolItem → Bool
is_constant desc (Integer n) = is_int_desc desc
is_constant desc (Float n) = is_the_text (codes "F") desc
is_constant desc (Long n) = is_the_text (codes "J") desc
is_constant desc (Double n) = is_the_text (codes "D") desc
is_constant desc (Text n) = is_string_desc desc
is_constant desc _ = false

-- the item at an index is a constant of the descriptor at another
abbrev pub is_constant_at : List PoolItem → ℕ → ℕ → Bool
is_constant_at pool desc value =
    option_map_or (λ item. is_text_that (λ us. is_constant us item) pool desc)
    (slice_get pool value) false
