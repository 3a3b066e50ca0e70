-- Which item an index must name (JVMS2 4.4), and which texts are of use there.
use Rattle.std.specs.Prelude.{ℕ, List, [], ◌∷◌, Bool, true, false, not, ◌&&◌, ◌||◌, ◌==◌, Option, position, is_some}
use Rattle.jvm_base.specs.declared.pool.PoolItem.{PoolItem}
use Rattle.jvm_base.specs.declared.pool.PoolItem.TheVariants.{Class, Text, Field, Method, InterfaceMethod, NameAndKind}
use Rattle.jvm_base.specs.Letters.{array_letter}
use Rattle.jvm_base.specs.Descriptors.{desc_of, is_method_of}
use Rattle.constant_pool.specs.Items.{is_text_that, is_text_at, is_class_at, is_pair_that}

-- the descriptor of a field (JVMS2 4.3.2)
abbrev pub is_field_text : List ℕ → Bool
is_field_text us = is_some (desc_of us)

-- the name of a class or interface, or the descriptor of an array class (JVMS2 4.4.1)
abbrev pub is_class_text : List ℕ → Bool
is_class_text [] = false
is_class_text (u ∷ us) = not (u == array_letter) || is_field_text (u ∷ us)

-- each index in the item names an item of the needed kind. The descriptor of a field or method is
-- one also where the pair itself stands at a higher index; no receiver counts among its slots
abbrev pub is_linked : List PoolItem → PoolItem → Bool
is_linked pool (Class name) = is_text_that is_class_text pool name
is_linked pool (Text text) = is_text_at pool text
is_linked pool (Field class pair) = is_class_at pool class && is_pair_that is_field_text pool pair
is_linked pool (Method class pair) =
    is_class_at pool class && is_pair_that (λ us. is_method_of us 255) pool pair
is_linked pool (InterfaceMethod class pair) =
    is_class_at pool class && is_pair_that (λ us. is_method_of us 255) pool pair
is_linked pool (NameAndKind name desc) = is_text_at pool name && is_text_at pool desc
is_linked pool _ = true

-- the lowest index of an item that isn't linked
abbrev pub bad_link : List PoolItem → Option ℕ
bad_link pool = position (λ item. not (is_linked pool item)) pool
