-- A table of walks that is being filled, and marks of what a walk has.
use Rattle.std.specs.Prelude.{◌≡◌, ℕ, ◌<◌, ◌≤◌, Bool, false, List, length, slice_index_or}
use Rattle.hierarchy.specs.Hierarchy.{row_of}
use Rattle.hierarchy.specs.Walks.{all_from, firsts, has, add_one, add_new}

-- each row that isn't empty is its number's walk
pub record AreWalked (rows table : List (List ℕ)) : Type 0 where
  pub each : (c : ℕ) → 1 ≤ length (row_of table c) → row_of table c ≡ firsts (all_from rows c)

-- the number is marked
abbrev pub is_seen : List Bool → ℕ → Bool
is_seen seen d = slice_index_or seen d false

-- none is marked
abbrev pub AreUnseen : List Bool → Type 0
AreUnseen seen = (d : ℕ) → is_seen seen d ≡ false

-- those of the list are marked, and no others
abbrev pub AreMarked : List Bool → List ℕ → Type 0
AreMarked seen all = (d : ℕ) → d < length seen → is_seen seen d ≡ has all d

-- a number was added, and marked
pub record Adds (seen seen2 : List Bool) (all all2 : List ℕ) (x : ℕ) : Type 0 where
  pub added : all2 ≡ add_one all x
  pub marked : AreMarked seen2 all2

-- and each of several
pub record AddsAll (seen seen2 : List Bool) (all all2 more : List ℕ) : Type 0 where
  pub added : all2 ≡ add_new all more
  pub marked : AreMarked seen2 all2
