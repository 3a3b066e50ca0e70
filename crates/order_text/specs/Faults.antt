-- The first line of a text at which it is no order's.
use Rattle.std.specs.Prelude.{◌≡◌, ◌≤◌, ◌==◌, ◌-◌, ℕ, List, [], ◌∷◌, ◌++◌, length, take, if◌then◌else◌}
use Rattle.std.specs.List.{onto_first}
use Rattle.machine_state.specs.declared.state.Choice.{Choice}
use Rattle.order_text.specs.Spelling.{line_end, order_lines, AreChoices, IsOrderText}

-- the lines of a text, each up to its line end; what stands behind the last line end is a line too
abbrev pub lines : List ℕ → List (List ℕ)
lines [] = []
lines (b ∷ bs) = if b == line_end then (b ∷ []) ∷ lines bs else onto_first b (lines bs)

-- an order's lines begin with these
abbrev pub Begins : List (List ℕ) → Type 0
Begins front =
    (order : List Choice) × (rest : List (List ℕ)) × AreChoices order
    × (order_lines order ≡ front ++ rest)

-- the text has so many lines, and an order's lines begin with these
abbrev pub BeginsFor : ℕ → List ℕ → Type 0
BeginsFor count text = (count ≤ length (lines text)) × Begins (take count (lines text))

-- the text is no order's, and with this line, counted from 1, it stops to begin as one: the lines
-- before it are there and begin an order's, and those up to it aren't or don't. Where only the last
-- line is missing, it is the line behind all that are there
pub record IsFirstFault (text : List ℕ) (line : ℕ) : Type 0 where
  pub other : (order : List Choice) → IsOrderText text order → ⊥
  pub before : BeginsFor (line - 1) text
  pub here : BeginsFor line text → ⊥
