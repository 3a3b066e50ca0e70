-- A search upwards: marks of what was seen, and what is to do.
use Rattle.std.specs.Prelude.{◌≡◌, ℕ, ◌+◌, ◌<◌, ◌≤◌, Bool, true, false, List, length, slice_index}
use Rattle.std.specs.List.{Contains}
use Rattle.std.proofs.Common.{◌⊎◌}
use Rattle.hierarchy.specs.Walks.{has}
use Rattle.hierarchy.specs.Steps.Marks.{unseen}
use Rattle.hierarchy.specs.Hierarchy.{row_of, Under}

-- what was seen still is, what was to do still is, and what is new in one is new in the other
pub record Grows (s t s2 t2 : List ℕ) : Type 0 where
  pub same : length s2 ≡ length s
  pub kept : (x : ℕ) → 1 ≤ slice_index s x → 1 ≤ slice_index s2 x
  pub stays : (x : ℕ) → has t x ≡ true → has t2 x ≡ true
  pub fresh : (x : ℕ) → 1 ≤ slice_index s2 x → (1 ≤ slice_index s x) ⊎ (has t2 x ≡ true)
  pub less : unseen s2 + length t2 ≤ unseen s + length t

pub record Marked (s t s2 t2 : List ℕ) (m : ℕ) : Type 0 where
  pub grows : Grows s t s2 t2
  pub seen : 1 ≤ slice_index s2 m
  pub from : (x : ℕ) → has t2 x ≡ true → (has t x ≡ true) ⊎ (m ≡ x)

pub record Spread (row : List ℕ) (c : ℕ) (s t s2 t2 : List ℕ) (i : ℕ) : Type 0 where
  pub grows : Grows s t s2 t2
  pub seen : (j : ℕ) → j < i → (1 ≤ slice_index s2 (slice_index row j)) × (slice_index row j ≡ c → ⊥)
  pub from : (x : ℕ) → has t2 x ≡ true → (has t x ≡ true) ⊎ Contains row x

abbrev pub Outcome : Bool → List ℕ → ℕ → List ℕ → List ℕ → List ℕ → List ℕ → Type 0
Outcome true row c s t s2 t2 = Contains row c
Outcome false row c s t s2 t2 = Spread row c s t s2 t2 (length row)

-- what is to do lies above c or is c; all else that was seen was gone through
pub record Reached (rows : List (List ℕ)) (c : ℕ) (s t : List ℕ) : Type 0 where
  pub same : length s ≡ length rows
  pub sound : (k : ℕ) → has t k ≡ true → (k ≡ c) ⊎ Under rows c k
  pub closed : (x : ℕ) → (x ≡ c) ⊎ (1 ≤ slice_index s x) → (has t x ≡ true) ⊎ ((m : ℕ) → Contains (row_of rows x) m → (1 ≤ slice_index s m) × (m ≡ c → ⊥))
