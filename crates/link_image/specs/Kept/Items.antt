-- What tables tell of the items and the texts of a file's pool, by index.
use Rattle.std.specs.Prelude.{ℕ, Option, option_and_then}
use Rattle.class_format.specs.declared.class.ClassFile.{ClassFile}
use Rattle.class_names.specs.Texts.{class_text, member_in}
use Rattle.link_arrays.specs.ArrayClasses.{class_number}
use Rattle.link_arrays.specs.Literals.{literal_number}
use Rattle.link_uses.specs.Items.{AreItems}
use Rattle.link_uses.specs.Lookups.{found_field, found_method}
use Rattle.link_uses.specs.TextNumbers.{AreOf}
use Rattle.program_image.specs.declared.info.Target.{Target}
use Rattle.link_image.specs.declared.items.Told.{Told}
use Rattle.link_image.specs.Targets.{Known, field_at, method_at, class_of}

-- the field, the method and the class that an item names
abbrev pub item_field : Known → ClassFile → ℕ → Option Target
item_field k f i = option_and_then (field_at k.infos) (found_field k.all (member_in f.pool i))

abbrev pub item_method : Known → ClassFile → ℕ → Option Target
item_method k f i = option_and_then (method_at k.infos) (found_method k.all (member_in f.pool i))

abbrev pub item_class : Known → ClassFile → ℕ → Option Target
item_class k f i = class_of k (class_text f.pool i)

-- the members that items lead to, and the numbers of the classes and literals that texts name
pub record AreTold (k : Known) (f : ClassFile) (told : Told) : Type 0 where
  pub found : AreItems k.all f.pool told.found.now
  pub classes : AreOf (class_number k.all k.arrays) f.pool told.classes
  pub literals : AreOf (literal_number k.literals) f.pool told.literals
