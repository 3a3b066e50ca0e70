-- Which versions of class files are read.
use Rattle.std.specs.Prelude.{ℕ, nat_eq, nat_lt, Bool, not, ◌&&◌, ◌||◌}

-- this project's own: the majors 45 to 48, and above 45 no minor version but 0
abbrev pub is_other_version : ℕ → ℕ → Bool
is_other_version major minor =
    nat_lt major 45 || nat_lt 48 major || (nat_lt 45 major && not (nat_eq minor 0))
