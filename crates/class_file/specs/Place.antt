-- A place in a file.
use Rattle.std.specs.Prelude.{ℕ, ◌-◌, List, length, drop}

-- how long the file is, and what is left of it
pub record Place : Type 0 where
  pub total : ℕ
  pub rest : List ℕ

-- the offset of the next byte
abbrev pub offset_of : Place → ℕ
offset_of p = p.total - length p.rest

-- the place after so many bytes
abbrev pub after : ℕ → Place → Place
after n p = record { total = p.total; rest = drop n p.rest }
