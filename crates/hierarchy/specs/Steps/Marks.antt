-- The marks of a walk: 0 for a number that wasn't seen, 1 for one on the way, and a number from 2 on for one that is done.
use Rattle.std.specs.Prelude.{◌≡◌, ℕ, ◌<◌, ◌≤◌, ◌==◌, List, length, slice_index, count_by}
use Rattle.std.specs.List.{Contains}
use Rattle.hierarchy.specs.Hierarchy.{row_of, Under}

-- how many weren't seen
abbrev pub unseen : List ℕ → ℕ
unseen marks = count_by (λ m. m == 0) marks

-- all above a number that is done are done, with lower marks; no mark is above the last
pub record AreDone (rows : List (List ℕ)) (marks : List ℕ) (last : ℕ) : Type 0 where
  pub falls : (d k : ℕ) → 2 ≤ slice_index marks d → Contains (row_of rows d) k → (2 ≤ slice_index marks k) × (slice_index marks k < slice_index marks d)
  pub most : (d : ℕ) → slice_index marks d ≤ last
  pub some : 1 ≤ last

-- each number on the way lies under c
pub record Leads (rows : List (List ℕ)) (marks : List ℕ) (c : ℕ) : Type 0 where
  pub way : (g : ℕ) → slice_index marks g ≡ 1 → Under rows g c

-- what was on the way still is, and nothing else; what was done is
pub record Grew (a b : List ℕ) : Type 0 where
  pub same : length b ≡ length a
  pub still : (g : ℕ) → slice_index a g ≡ 1 → slice_index b g ≡ 1
  pub back : (g : ℕ) → slice_index b g ≡ 1 → slice_index a g ≡ 1
  pub kept : (d : ℕ) → 2 ≤ slice_index a d → slice_index b d ≡ slice_index a d
