-- What lies above what.
use Rattle.std.proofs.Common.{◌≡◌, ℕ, ◌<◌, inl, inr, List, [], length, subst, arith}
use Rattle.std.specs.List.{Contains}
use Rattle.std.proofs.lemmas.Bool.{cases_lt}
use Rattle.std.proofs.lemmas.List.{get_or_past}
use Rattle.std.proofs.lemmas.List.Elements.{All-contains}
use Rattle.hierarchy.specs.Hierarchy.{row_of, Under, IsWithin}
use Rattle.hierarchy.specs.Hierarchy.Under.{directly, over}

-- one more step at the end
pub then : (rows : List (List ℕ)) (c d e : ℕ) → Under rows c d → Contains (row_of rows d) e → Under rows c e
then rows c d e (directly w) h = over w (directly h)
then rows c d e (over {k} w r) h = over w (then rows k d e r h)

-- only numbers of rows have something directly above them, and that is a row's number too
pub above_in : (rows : List (List ℕ)) (c k : ℕ) → IsWithin rows → Contains (row_of rows c) k → (c < length rows) × (k < length rows)
above_in rows c k within w = elim (cases_lt c (length rows)) [
  | inl h ↦ (h, All-contains (λ x. x < length rows) (row_of rows c) k (within c [] h) w)
  | inr h ↦ let e : row_of rows c ≡ [] = get_or_past rows c [] h in absurd (let l = (subst (λ z. Contains z k) e w).1 in omega arith)
]

-- what lies above a number is a row's number
pub under_in : (rows : List (List ℕ)) (c k : ℕ) → IsWithin rows → Under rows c k → k < length rows
under_in rows c k within (directly w) = (above_in rows c k within w).1
under_in rows c k within (over {k = m} w u) = under_in rows m k within u
