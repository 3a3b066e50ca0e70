-- Names and descriptors of members, told apart by the ranks of their texts.
use Rattle.std.specs.Prelude.{ℕ, List}
use Rattle.std.specs.Ordering.{nat_cmp, ordering_then}
use Rattle.std.specs.declared.cmp.Ordering.{Ordering}
use Rattle.jvm_base.specs.declared.pool.PoolItem.{PoolItem}
use Rattle.constant_pool.specs.Facts.Ranks.{rank_at}

-- pairs by their first part, then by their second
abbrev pub key_cmp : ℕ × ℕ → ℕ × ℕ → Ordering
key_cmp x y = ordering_then (nat_cmp x.0 y.0) (nat_cmp x.1 y.1)

-- the ranks of the texts of a name and a descriptor
abbrev pub key_ranks : List PoolItem → ℕ × ℕ → ℕ × ℕ
key_ranks pool key = (rank_at pool key.0, rank_at pool key.1)
