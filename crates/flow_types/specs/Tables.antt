-- Tables by number.
use Rattle.std.specs.Prelude.{ℕ, ◌==◌, if◌then◌else◌, List, [], ◌∷◌}

-- what a table has for a number: the first of its rows, or else another thing
abbrev pub in_table : {A : Type 0} → List (ℕ × A) → A → ℕ → A
in_table [] other n = other
in_table (r ∷ rows) other n = if n == r.0 then r.1 else in_table rows other n
