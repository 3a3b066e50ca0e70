-- How far before each item of a list the same item stands.
use Rattle.std.specs.Prelude.{◌≡◌, ℕ, ◌+◌, ◌<◌, ◌≤◌, List, Option, Some, length, slice_get}

-- so many places before a place, the same item stands
abbrev pub IsBack : {A : Type 0} → List A → ℕ → ℕ → Type 0
IsBack {A} xs i d = (d ≤ i) × ((a : ℕ) → a + d ≡ i → slice_get xs a ≡ slice_get xs i)

-- for each place so many
pub record AreBacks {A : Type 0} (xs : List A) (backs : List ℕ) : Type 0 where
  pub all : length backs ≡ length xs
  pub each : (i d : ℕ) → slice_get backs i ≡ Some d → IsBack xs i d

-- the place that was seen for an index lies before a place, and that index stands there
pub record AreSeen (seen : List (Option ℕ)) (indices : List ℕ) (place : ℕ) : Type 0 where
  pub before : (t a : ℕ) → slice_get seen t ≡ Some (Some a) → a < place
  pub at : (t a : ℕ) → slice_get seen t ≡ Some (Some a) → slice_get indices a ≡ Some t
