-- What a loop keeps: no promise of a public call rests on this.
use Rattle.std.specs.Prelude.{◌≡◌, ℕ, Bool, true, List, Some, slice_get}
use Rattle.jvm_base.specs.declared.pool.PoolItem.{PoolItem}
use Rattle.class_names.specs.Known.{is_known}
use Rattle.class_names.specs.Texts.{text_in}

-- the texts that are marked are known
pub record AreAdded (names : List (List ℕ)) (pool : List PoolItem) (added : List Bool) : Type 0 where
  pub each : (t : ℕ) → slice_get added t ≡ Some true → is_known names (text_in pool t) ≡ true
