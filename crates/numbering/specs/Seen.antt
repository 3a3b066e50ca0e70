-- Items in order of first sight, told apart by a test.
use Rattle.std.specs.Prelude.{Bool, List, [], ◌∷◌, ◌++◌, if◌then◌else◌}
use Rattle.std.specs.List.{list_any}

-- the item was seen
abbrev pub is_seen : {A : Type 0} → (A → A → Bool) → List A → A → Bool
is_seen same items item = list_any (same item) items

-- the items once this one is seen: a new one goes last
abbrev pub with_item : {A : Type 0} → (A → A → Bool) → List A → A → List A
with_item same items item = if is_seen same items item then items else items ++ item ∷ []
