-- Lists in order of first sight.
use Rattle.std.specs.Prelude.{Bool, List, [], ◌∷◌}
use Rattle.numbering.specs.Seen.{with_item}

-- the items once some more are seen, one after the other
abbrev pub with_items : {A : Type 0} → (A → A → Bool) → List A → List A → List A
with_items same items [] = items
with_items same items (x ∷ xs) = with_items same (with_item same items x) xs
