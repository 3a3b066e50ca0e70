-- The order of the texts of a pool.
use Rattle.std.specs.Prelude.{ℕ, List, Bool, Option, count_by}
use Rattle.std.specs.Cmp.Lexicographic.{slice_cmp}
use Rattle.std.specs.Option.{option_cmp}
use Rattle.std.specs.Ordering.{nat_cmp, is_lt}
use Rattle.std.specs.declared.cmp.Ordering.{Ordering}
use Rattle.jvm_base.specs.declared.pool.PoolItem.{PoolItem}
use Rattle.constant_pool.specs.Items.{text_of, text_at}

-- texts are in the order of their units, and what is no text comes before each of them
abbrev pub text_cmp : Option (List ℕ) → Option (List ℕ) → Ordering
text_cmp s t = option_cmp (slice_cmp nat_cmp) s t

-- strictly
abbrev pub comes_before : Option (List ℕ) → Option (List ℕ) → Bool
comes_before s t = is_lt (text_cmp s t)

-- how many of the pool's items come before a text
abbrev pub rank_of : List PoolItem → Option (List ℕ) → ℕ
rank_of pool text = count_by (λ item. comes_before (text_of item) text) pool

-- of the text at an index
abbrev pub rank_at : List PoolItem → ℕ → ℕ
rank_at pool i = rank_of pool (text_at pool i)
