-- The lowest of the rules that are broken.
use Rattle.std.specs.Prelude.{ℕ, min, List, [], ◌∷◌, Option, Some, None}

-- the lower of two rules, either of which may be none
abbrev pub lower : Option ℕ → Option ℕ → Option ℕ
lower None b = b
lower (Some a) None = Some a
lower (Some a) (Some b) = Some (min a b)

-- the lowest of the rules that are broken; None where none is
abbrev pub lowest : List ℕ → Option ℕ
lowest [] = None
lowest (r ∷ rs) = lower (Some r) (lowest rs)
