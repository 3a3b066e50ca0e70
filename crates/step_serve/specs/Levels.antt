-- How many arrays an array of arrays has in all (JVMS2 6, multianewarray).
use Rattle.std.specs.Prelude.{ℕ, ◌+◌, ◌*◌, List, [], ◌∷◌}

-- those of the first level, and for each of them as many as its size on the level below
abbrev pub array_count : ℕ → List ℕ → ℕ
array_count count [] = 0
array_count count (s ∷ ss) = count + array_count (count * s) ss
