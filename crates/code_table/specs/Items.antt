-- What the items of the pool tell an instruction (JVMS2 4.4). Where an index of an item leads to no
-- item of its kind, which isn't so in a class file that was read, nothing is told.
use Rattle.std.specs.Prelude.{ℕ, List, Option, Some, None, slice_get, option_and_then, option_map, take_while, length, ◌==◌}
use Rattle.jvm_base.specs.declared.pool.PoolItem.{PoolItem}
use Rattle.jvm_base.specs.declared.pool.PoolItem.TheVariants.{Field, Method, InterfaceMethod}
use Rattle.jvm_base.specs.declared.desc.Desc.{Desc}
use Rattle.jvm_base.specs.declared.desc.MethodDesc.{MethodDesc}
use Rattle.jvm_base.specs.Descriptors.{desc_of, method_of}
use Rattle.jvm_base.specs.Letters.{array_letter}
use Rattle.constant_pool.specs.Items.{text_at, class_at, pair_text}

-- the dimensions of the class that has this name: its leading `[`
abbrev pub dimensions_of : List ℕ → ℕ
dimensions_of name = length (take_while (λ u. u == array_letter) name)

-- the dimensions of the class at an index
abbrev pub class_dimensions : List PoolItem → ℕ → Option ℕ
class_dimensions pool i =
    option_map dimensions_of (option_and_then (text_at pool) (class_at pool i))

-- the index of the name and descriptor of a field
abbrev pub pair_of_field : Option PoolItem → Option ℕ
pair_of_field (Some (Field class pair)) = Some pair
pair_of_field _ = None

-- of a method
abbrev pub pair_of_method : Option PoolItem → Option ℕ
pair_of_method (Some (Method class pair)) = Some pair
pair_of_method _ = None

-- of an interface's method
abbrev pub pair_of_interface_method : Option PoolItem → Option ℕ
pair_of_interface_method (Some (InterfaceMethod class pair)) = Some pair
pair_of_interface_method _ = None

-- the descriptor's text of the field at an index, of the method there, and of the interface method
abbrev pub field_text : List PoolItem → ℕ → Option (List ℕ)
field_text pool i = option_and_then (pair_text pool) (pair_of_field (slice_get pool i))

-- of the method
abbrev pub method_text : List PoolItem → ℕ → Option (List ℕ)
method_text pool i = option_and_then (pair_text pool) (pair_of_method (slice_get pool i))

-- of the interface method
abbrev pub interface_method_text : List PoolItem → ℕ → Option (List ℕ)
interface_method_text pool i =
    option_and_then (pair_text pool) (pair_of_interface_method (slice_get pool i))

-- the descriptors
abbrev pub field_desc : List PoolItem → ℕ → Option Desc
field_desc pool i = option_and_then desc_of (field_text pool i)

-- of a method
abbrev pub method_desc : List PoolItem → ℕ → Option MethodDesc
method_desc pool i = option_and_then method_of (method_text pool i)

-- of an interface method
abbrev pub interface_method_desc : List PoolItem → ℕ → Option MethodDesc
interface_method_desc pool i = option_and_then method_of (interface_method_text pool i)
