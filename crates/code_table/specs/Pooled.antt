-- Instructions that an item of the pool or a number must allow (JVMS2 4.4, 4.8.1, 6): by the pool,
-- the index and the address.
use Rattle.std.specs.Prelude.{ℕ, ◌+◌, List, slice_get, Option, Some, None, Result, Ok, Err, ◌==◌, ◌||◌, ◌&&◌, nat_lt, if◌then◌else◌}
use Rattle.std.specs.Int.{w8, w16}
use Rattle.jvm_base.specs.declared.pool.PoolItem.{PoolItem}
use Rattle.jvm_base.specs.declared.pool.PoolItem.TheVariants.{Integer, Float, Long, Double, Text}
use Rattle.jvm_base.specs.declared.desc.Desc.{Desc}
use Rattle.jvm_base.specs.declared.desc.MethodDesc.{MethodDesc}
use Rattle.jvm_base.specs.Descriptors.{args_slots}
use Rattle.code_table.specs.declared.error.CodeErr.{CodeErr}
use Rattle.code_table.specs.declared.error.CodeErr.TheVariants.{LeftOutOp, BadIndex}
use Rattle.code_table.specs.declared.op.Op.{Op}
use Rattle.code_table.specs.declared.op.Op.TheVariants.{Ldc, Ldc2}
use Rattle.code_table.specs.ElementKinds.{is_kind, is_left_out_kind}
use Rattle.code_table.specs.Numbers.{number_at}
use Rattle.jvm_base.specs.Refusing.{◌>>=◌, need, want}
use Rattle.code_table.specs.Items.{class_dimensions, field_desc, method_desc, interface_method_desc}
use Rattle.constant_pool.specs.Items.{class_at}

-- an int or a text is loaded, and a float is left out
abbrev pub loaded : Option PoolItem → ℕ → ℕ → Result Op CodeErr
loaded (Some (Integer n)) i at = Ok (Ldc i)
loaded (Some (Text name)) i at = Ok (Ldc i)
loaded (Some (Float bits)) i at = Err (LeftOutOp at)
loaded _ i at = Err (BadIndex at)

-- the load of the constant at an index
abbrev pub constant : List PoolItem → ℕ → ℕ → Result Op CodeErr
constant pool i at = loaded (slice_get pool i) i at

-- a long is loaded, and a double is left out
abbrev pub loaded_2w : Option PoolItem → ℕ → ℕ → Result Op CodeErr
loaded_2w (Some (Long n)) i at = Ok (Ldc2 i)
loaded_2w (Some (Double bits)) i at = Err (LeftOutOp at)
loaded_2w _ i at = Err (BadIndex at)

-- the load of the constant of two slots at an index
abbrev pub constant_2w : List PoolItem → ℕ → ℕ → Result Op CodeErr
constant_2w pool i at = loaded_2w (slice_get pool i) i at

-- on the field at an index, whose descriptor must be of the needed grammar
unfoldable pub field : (ℕ → Desc → Op) → List PoolItem → ℕ → ℕ → Result Op CodeErr
field op pool i at = do
  desc ← want (field_desc pool i) (BadIndex at)
  Ok (op i desc)

-- on the method at an index, likewise
unfoldable pub method : (ℕ → MethodDesc → Op) → List PoolItem → ℕ → ℕ → Result Op CodeErr
method op pool i at = do
  desc ← want (method_desc pool i) (BadIndex at)
  Ok (op i desc)

-- on an interface's method: the operands count the slots of the receiver and the arguments, and end
-- in a 0
unfoldable pub interface_method : (ℕ → MethodDesc → Op) → List ℕ → List PoolItem → ℕ
    → Result Op CodeErr
interface_method op xs pool at = do
  let i = number_at w16 xs 0
  desc ← want (interface_method_desc pool i) (BadIndex at)
  let slots = 1 + args_slots desc.args
  _ ← need ((number_at w8 xs 2 == slots) && (number_at w8 xs 3 == 0)) (BadIndex at)
  Ok (op i desc)

-- on the class that has this name
abbrev pub on_class : Option ℕ → Op → ℕ → Result Op CodeErr
on_class (Some name) op at = Ok op
on_class None op at = Err (BadIndex at)

-- on the class at an index
abbrev pub class : (ℕ → Op) → List PoolItem → ℕ → ℕ → Result Op CodeErr
class op pool i at = on_class (class_at pool i) (op i) at

-- an array has at most 255 dimensions, so the class of its elements has fewer
abbrev pub on_element : Option ℕ → Op → ℕ → Result Op CodeErr
on_element (Some dims) op at = if nat_lt dims 255 then Ok op else Err (BadIndex at)
on_element None op at = Err (BadIndex at)

-- on an array of elements of the class at an index
abbrev pub element_class : (ℕ → Op) → List PoolItem → ℕ → ℕ → Result Op CodeErr
element_class op pool i at = on_element (class_dimensions pool i) (op i) at

-- of the class's dimensions at least one is made, and at most all
abbrev pub on_dimensions : Option ℕ → ℕ → Op → ℕ → Result Op CodeErr
on_dimensions (Some dims) n op at = if n == 0 || nat_lt dims n then Err (BadIndex at) else Ok op
on_dimensions None n op at = Err (BadIndex at)

-- on n dimensions of an array of the class at an index
abbrev pub dimensions : (ℕ → ℕ → Op) → List PoolItem → ℕ → ℕ → ℕ → Result Op CodeErr
dimensions op pool i n at = on_dimensions (class_dimensions pool i) n (op i n) at

-- of an array of elements of a kind, where floats and doubles are left out
abbrev pub element_kind : (ℕ → Op) → ℕ → ℕ → Result Op CodeErr
element_kind op kind at =
    if is_left_out_kind kind then Err (LeftOutOp at)
    else (if is_kind kind then Ok (op kind)
    else Err (BadIndex at))
