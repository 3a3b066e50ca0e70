-- Names that were seen.
use Rattle.std.specs.Prelude.{ℕ, Bool, List, [], ◌∷◌, ◌++◌, nat_eq, if◌then◌else◌}
use Rattle.std.specs.List.{list_any}
use Rattle.std.specs.Cmp.Lexicographic.{pointwise}

-- two texts are one name
abbrev pub is_name : List ℕ → List ℕ → Bool
is_name a b = pointwise nat_eq a b

-- a name is one of those
abbrev pub is_known : List (List ℕ) → List ℕ → Bool
is_known names name = list_any (is_name name) names

-- the names with one more, at the end where it is new
abbrev pub add_name : List (List ℕ) → List ℕ → List (List ℕ)
add_name names name = if is_known names name then names else names ++ name ∷ []

-- the names with some more, in order of first sight
abbrev pub add_names : List (List ℕ) → List (List ℕ) → List (List ℕ)
add_names names [] = names
add_names names (name ∷ more) = add_names (add_name names name) more
