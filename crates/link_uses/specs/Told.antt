-- What tables tell of each text of a pool, for the rule on kinds.
use Rattle.std.specs.Prelude.{List}
use Rattle.jvm_base.specs.declared.pool.PoolItem.{PoolItem}
use Rattle.class_format.specs.declared.class.ClassFile.{ClassFile}
use Rattle.link_rules.specs.Classes.{names_interface}
use Rattle.link_rules.specs.Marks.{AreTested}
use Rattle.link_uses.specs.declared.told.Told.{Told}
use Rattle.link_uses.specs.Uses.{is_wrong_new}

-- that it names an interface, and that `new` may not make an object of it
pub record AreTold (all : List ClassFile) (pool : List PoolItem) (told : Told) : Type 0 where
  pub interfaces : AreTested (names_interface all) pool told.interfaces
  pub wrong_news : AreTested (is_wrong_new all) pool told.wrong_news
