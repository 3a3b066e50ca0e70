-- Orders kept in rows: choices that follow each other and are alike are one row.
use Rattle.std.specs.Prelude.{ℕ, ◌-◌, ◌≤◌, ◌++◌, List, [], ◌∷◌, replicate}
use Rattle.machine_state.specs.declared.state.Choice.{Choice}
use Rattle.machine_state.specs.declared.order.Row.{Row}

-- the choices of rows, the first of which begins at a number
abbrev pub spelled : ℕ → List Row → List Choice
spelled start [] = []
spelled start (r ∷ rs) = replicate (r.until - start) r.choice ++ spelled r.until rs

-- no row ends before it begins
abbrev pub IsRising : ℕ → List Row → Type 0
IsRising start [] = Unit {0}
IsRising start (r ∷ rs) = (start ≤ r.until) × IsRising r.until rs

-- where the last row ends
abbrev pub end_of_rows : ℕ → List Row → ℕ
end_of_rows start [] = start
end_of_rows start (r ∷ rs) = end_of_rows r.until rs
