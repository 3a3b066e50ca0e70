-- What is asked again and again of the texts of a pool.
use Rattle.std.specs.Prelude.{false}
use Rattle.std.specs.Option.{option_map_or}
use Rattle.jvm_base.specs.declared.pool.PoolItem.{PoolItem}
use Rattle.jvm_base.specs.Descriptors.{is_method_of}
use Rattle.constant_pool.specs.declared.texts.TextKind.{TextKind}
use Rattle.constant_pool.specs.Items.{text_of}
use Rattle.constant_pool.specs.Links.{is_field_text}

-- of which descriptors an item is the text
abbrev pub kind_of : PoolItem → TextKind
kind_of item = record {
  field = option_map_or is_field_text (text_of item) false;
  method = option_map_or (λ us. is_method_of us 255) (text_of item) false;
  instance = option_map_or (λ us. is_method_of us 254) (text_of item) false;
}
