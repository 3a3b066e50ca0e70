-- The descriptors that decoded instructions hold are those of the items that they name.
use Rattle.std.specs.Prelude.{◌≡◌, ℕ, List, Some}
use Rattle.jvm_base.specs.declared.desc.Desc.{Desc}
use Rattle.jvm_base.specs.declared.desc.MethodDesc.{MethodDesc}
use Rattle.jvm_base.specs.declared.pool.PoolItem.{PoolItem}
use Rattle.jvm_base.specs.Descriptors.{desc_of, method_of}
use Rattle.code_table.specs.declared.code.Placed.{Placed}
use Rattle.code_table.specs.declared.op.Op.{Op}
use Rattle.code_table.specs.declared.op.Op.TheVariants.{Static, Field, Invoke}
use Rattle.class_names.specs.Texts.{member_in}

-- the text of the item's descriptor spells this type of a field, or of a method
abbrev pub IsField : List PoolItem → ℕ → Desc → Type 0
IsField pool item d = desc_of (member_in pool item).desc ≡ Some d

abbrev pub IsMethod : List PoolItem → ℕ → MethodDesc → Type 0
IsMethod pool item m = method_of (member_in pool item).desc ≡ Some m

-- an instruction's descriptor
abbrev pub IsSpelled : List PoolItem → Op → Type 0
IsSpelled pool (Static op item d) = IsField pool item d
IsSpelled pool (Field op item d) = IsField pool item d
IsSpelled pool (Invoke op item m) = IsMethod pool item m
IsSpelled pool _ = Unit {0}

-- that of one at its address
abbrev pub IsSpelledPlaced : List PoolItem → Placed → Type 0
IsSpelledPlaced pool p = IsSpelled pool p.op
