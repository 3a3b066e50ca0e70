-- The checks of kinds go over the places that the rules speak of.
use Rattle.std.proofs.Common.{◌≡◌, List}
use Rattle.std.specs.List.{flat_map}
use Rattle.std.proofs.lemmas.List.Folds.{flat_map-map}
use Rattle.class_format.specs.declared.class.ClassFile.{ClassFile}
use Rattle.class_names.specs.Texts.{class_text}
use Rattle.class_names.specs.Classes.{interface_texts}
use Rattle.link_rules.specs.Classes.{wrong_interface}
use Rattle.link_rules.specs.Walks.Kinds.{wrong_interface_item}

pub of_interfaces : (all : List ClassFile) (f : ClassFile) → flat_map (wrong_interface all f) (interface_texts f) ≡ flat_map (wrong_interface_item all f) f.interfaces
unfolding wrong_interface_item
of_interfaces all f = flat_map-map (wrong_interface all f) (class_text f.pool) f.interfaces
