-- How far before each method of a program one of the same name or descriptor stands.
use Rattle.std.specs.Prelude.{ℕ, List, map}
use Rattle.std.specs.List.{flat_map}
use Rattle.jvm_base.specs.declared.desc.MethodDesc.{MethodDesc}
use Rattle.class_format.specs.declared.class.ClassFile.{ClassFile}
use Rattle.class_names.specs.Texts.{text_in}
use Rattle.link_image.specs.declared.signs.Backs.{Backs}
use Rattle.link_image.specs.Kept.Backs.{AreBacks}
use Rattle.link_image.specs.Kept.Texts.{method_desc_in}

-- the names of a class's methods, and their descriptors
abbrev pub names_of : ClassFile → List (List ℕ)
names_of f = map (λ m. text_in f.pool m.name) f.methods

abbrev pub descs_of : ClassFile → List MethodDesc
descs_of f = map (λ m. method_desc_in f.pool m.desc) f.methods

-- for those of one class
pub record AreClassBacks (f : ClassFile) (backs : Backs) : Type 0 where
  pub names : AreBacks (names_of f) backs.names
  pub descs : AreBacks (descs_of f) backs.descs

-- for those of some classes
pub record AreMethodBacks (fs : List ClassFile) (backs : Backs) : Type 0 where
  pub names : AreBacks (flat_map names_of fs) backs.names
  pub descs : AreBacks (flat_map descs_of fs) backs.descs
