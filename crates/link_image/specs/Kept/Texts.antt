-- The names and descriptors of members, as they are kept by place.
use Rattle.std.specs.Prelude.{◌≡◌, ℕ, List, map}
use Rattle.jvm_base.specs.declared.desc.Desc.{Desc}
use Rattle.jvm_base.specs.declared.desc.MethodDesc.{MethodDesc}
use Rattle.jvm_base.specs.declared.pool.PoolItem.{PoolItem}
use Rattle.jvm_base.specs.Descriptors.{desc_of, method_of}
use Rattle.jvm_base.specs.Words.{from}
use Rattle.class_format.specs.declared.class.ClassFile.{ClassFile}
use Rattle.class_names.specs.Texts.{text_in}
use Rattle.link_image.specs.declared.fields.FieldTexts.{FieldTexts}
use Rattle.link_image.specs.declared.methods.MethodTexts.{MethodTexts}
use Rattle.link_image.specs.Fields.{no_desc}
use Rattle.link_image.specs.Methods.{no_method_desc}

-- the descriptor of a field, and that of a method, that the text at an index is
abbrev pub field_desc_in : List PoolItem → ℕ → Desc
field_desc_in pool i = from no_desc (λ d. d) (desc_of (text_in pool i))

abbrev pub method_desc_in : List PoolItem → ℕ → MethodDesc
method_desc_in pool i = from no_method_desc (λ d. d) (method_of (text_in pool i))

-- those of a class's fields, and those of its methods
pub record AreFieldTexts (f : ClassFile) (texts : FieldTexts) : Type 0 where
  pub names : texts.names ≡ map (λ x. text_in f.pool x.name) f.fields
  pub descs : texts.descs ≡ map (λ x. field_desc_in f.pool x.desc) f.fields

pub record AreMethodTexts (f : ClassFile) (texts : MethodTexts) : Type 0 where
  pub names : texts.names ≡ map (λ m. text_in f.pool m.name) f.methods
  pub descs : texts.descs ≡ map (λ m. method_desc_in f.pool m.desc) f.methods
