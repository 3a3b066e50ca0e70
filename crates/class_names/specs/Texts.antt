-- The texts that items of a pool name (JVMS2 4.4). Where an index names no such item, which doesn't
-- happen in a class file, the text is empty.
use Rattle.std.specs.Prelude.{ℕ, List, [], ◌∷◌, Bool, false, ◌==◌, Option, Some, slice_get, codes}
use Rattle.jvm_base.specs.declared.pool.PoolItem.{PoolItem}
use Rattle.jvm_base.specs.declared.pool.PoolItem.TheVariants.{Field, Method, InterfaceMethod, NameAndKind}
use Rattle.jvm_base.specs.Letters.{array_letter}
use Rattle.jvm_base.specs.Words.{from}
use Rattle.constant_pool.specs.Items.{text_at, class_at}

-- the text at an index
abbrev pub text_in : List PoolItem → ℕ → List ℕ
text_in pool i = from [] (λ us. us) (text_at pool i)

-- the text of the class at an index: its name, or the descriptor of an array class
abbrev pub class_text : List PoolItem → ℕ → List ℕ
class_text pool i = from [] (text_in pool) (class_at pool i)

-- the text is that of an array class
abbrev pub is_array : List ℕ → Bool
is_array [] = false
is_array (u ∷ us) = u == array_letter

-- a field or method that code names: the text of its class, its name and its descriptor
pub record Member : Type 0 where
  pub class : List ℕ
  pub name : List ℕ
  pub desc : List ℕ

-- a member without texts
abbrev pub no_member : Member
no_member = record { class = []; name = []; desc = [] }

-- the member of a class and of a name and descriptor
abbrev pub member_of_pair : List PoolItem → ℕ → Option PoolItem → Member
member_of_pair pool class (Some (NameAndKind name desc)) = record {
  class = class_text pool class;
  name = text_in pool name;
  desc = text_in pool desc;
}
member_of_pair pool class _ = no_member

-- the member that an item is
abbrev pub member_of : List PoolItem → Option PoolItem → Member
member_of pool (Some (Field class pair)) = member_of_pair pool class (slice_get pool pair)
member_of pool (Some (Method class pair)) = member_of_pair pool class (slice_get pool pair)
member_of pool (Some (InterfaceMethod class pair)) = member_of_pair pool class (slice_get pool pair)
member_of pool _ = no_member

-- the member at an index
abbrev pub member_in : List PoolItem → ℕ → Member
member_in pool i = member_of pool (slice_get pool i)

-- ---- names with a meaning of their own

-- `java/lang/Object`
abbrev pub object_name : List ℕ
object_name = codes "java/lang/Object"

-- `<init>`, of constructors (JVMS2 3.9)
abbrev pub init_name : List ℕ
init_name = codes "<init>"

-- `<clinit>`, of class initialisers
abbrev pub clinit_name : List ℕ
clinit_name = codes "<clinit>"
