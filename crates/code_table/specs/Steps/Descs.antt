-- The descriptors that the items of a pool are.
use Rattle.std.specs.Prelude.{Option, option_and_then}
use Rattle.jvm_base.specs.declared.pool.PoolItem.{PoolItem}
use Rattle.jvm_base.specs.declared.desc.Desc.{Desc}
use Rattle.jvm_base.specs.declared.desc.MethodDesc.{MethodDesc}
use Rattle.jvm_base.specs.Descriptors.{desc_of, method_of}
use Rattle.constant_pool.specs.Items.{text_of}

-- the descriptor of a field that an item's text is
abbrev pub field_in : PoolItem → Option Desc
field_in item = option_and_then desc_of (text_of item)

-- of a method
abbrev pub method_in : PoolItem → Option MethodDesc
method_in item = option_and_then method_of (text_of item)
