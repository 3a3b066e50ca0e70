-- Numbers of the texts of a file's pool, told by the index of a text.
use Rattle.std.specs.Prelude.{◌≡◌, ℕ, List, Option, Some, slice_get}
use Rattle.jvm_base.specs.declared.pool.PoolItem.{PoolItem}
use Rattle.class_names.specs.Texts.{text_in}

-- what a table tells of a text is its number
abbrev pub AreTold : (List ℕ → Option ℕ) → List PoolItem → List (Option ℕ) → Type 0
AreTold number pool told =
    (t : ℕ) (n : Option ℕ) → slice_get told t ≡ Some n → n ≡ number (text_in pool t)
