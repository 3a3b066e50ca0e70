-- Which names and descriptors were seen, by the ranks of their texts.
use Rattle.std.specs.Prelude.{◌≡◌, ℕ, List}
use Rattle.std.specs.BTreeSet.{BTreeSet, contains}
use Rattle.jvm_base.specs.declared.pool.PoolItem.{PoolItem}
use Rattle.class_format.specs.Judging.Keys.{key_cmp, key_ranks}
use Rattle.class_format.specs.Members.{is_among}

-- the set has exactly the ranks of these names and descriptors
abbrev pub HasSeen : List PoolItem → BTreeSet (ℕ × ℕ) → List (ℕ × ℕ) → Type 0
HasSeen pool seen keys =
    (name desc : ℕ)
    → contains key_cmp seen (key_ranks pool (name, desc)) ≡ is_among pool keys name desc
