-- What tables have for each text of a file's pool, by index.
use Rattle.std.specs.Prelude.{◌≡◌, ℕ, List, Option, Some, None, slice_get}
use Rattle.jvm_base.specs.declared.pool.PoolItem.{PoolItem}
use Rattle.jvm_base.specs.declared.pool.PoolItem.TheVariants.{NameAndKind}
use Rattle.class_format.specs.declared.class.ClassFile.{ClassFile}
use Rattle.class_names.specs.Texts.{text_in}
use Rattle.link_rules.specs.Numbers.{holder_of}
use Rattle.link_members.specs.Signs.{name_number}
use Rattle.link_uses.specs.Owned.{member_names}
use Rattle.link_uses.specs.declared.text_numbers.TextNumbers.{TextNumbers}

-- the indices of the texts of a name and descriptor
abbrev pub pair_of : Option PoolItem → Option (ℕ × ℕ)
pair_of (Some (NameAndKind name desc)) = Some (name, desc)
pair_of _ = None

-- what a table has for a text is what a function makes of it
abbrev pub AreOf : {A : Type 0} → (List ℕ → A) → List PoolItem → List A → Type 0
AreOf {A} f pool told = (t : ℕ) (x : A) → slice_get told t ≡ Some x → x ≡ f (text_in pool t)

-- the number of each text among the names and descriptors of members, and that of the class whose
-- members a class item of that text has
pub record AreNumbers (all : List ClassFile) (pool : List PoolItem) (numbers : TextNumbers) : Type 0 where
  pub names : AreOf (name_number (member_names all)) pool numbers.names
  pub holders : AreOf (holder_of all) pool numbers.holders
