-- A number and all that lies above it, in the order in which a search goes.
use Rattle.std.specs.Prelude.{◌≡◌, ℕ, ◌+◌, ◌<◌, Bool, ◌==◌, List, [], ◌∷◌, ◌++◌, length, Option, Some, None, if◌then◌else◌}
use Rattle.std.proofs.Common.{zero, suc}
use Rattle.std.specs.List.{flat_map, list_any}
use Rattle.hierarchy.specs.Hierarchy.{row_of}

-- the number, then the walks from each number of its row, over at most so many numbers
unfoldable pub walk : ℕ → List (List ℕ) → ℕ → List ℕ
walk zero rows c = []
walk (suc n) rows c = c ∷ flat_map (walk n rows) (row_of rows c)

-- the walk upwards from a number: where nothing lies above itself, none is longer
unfoldable pub all_from : List (List ℕ) → ℕ → List ℕ
all_from rows c = walk (length rows + 2) rows c

-- the number is one of the list
abbrev pub has : List ℕ → ℕ → Bool
has xs d = list_any (λ y. y == d) xs

-- the list with the number, at its end where it is new
abbrev pub add_one : List ℕ → ℕ → List ℕ
add_one xs y = if has xs y then xs else xs ++ y ∷ []

-- the list with each of the others, at its end where it is new
abbrev pub add_new : List ℕ → List ℕ → List ℕ
add_new xs [] = xs
add_new xs (y ∷ ys) = add_new (add_one xs y) ys

-- each item where it stands first
abbrev pub firsts : List ℕ → List ℕ
firsts xs = add_new [] xs

-- the first option, or else the second
abbrev pub or_else : {A : Type 0} → Option A → Option A → Option A
or_else (Some x) o = Some x
or_else None o = o

-- the first answer that a question has along a list
abbrev pub first_some : {A : Type 0} → (ℕ → Option A) → List ℕ → Option A
first_some f [] = None
first_some f (x ∷ xs) = or_else (f x) (first_some f xs)

-- the table has each number's walk, each item where it stands first
pub record IsWalked (rows table : List (List ℕ)) : Type 0 where
  pub same : length table ≡ length rows
  pub each : (c : ℕ) → c < length rows → row_of table c ≡ firsts (all_from rows c)
