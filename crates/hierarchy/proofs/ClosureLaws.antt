-- The set of what a walk meets.
use Rattle.std.proofs.Common.{◌≡◌, ℕ, zero, suc, ◌+◌, true, ◌⊎◌, inl, inr, ◌==◌, List, [], length, subst, sym, ◌∙◌, ap}
use Rattle.std.specs.List.{Contains, flat_map}
use Rattle.std.specs.List.Sorted.{IsPermutation, IsSorted}
use Rattle.std.specs.Ordering.{nat_cmp}
use Rattle.std.proofs.lemmas.List.Sorted.{list_any-IsPermutation}
use Rattle.hierarchy.specs.Hierarchy.{row_of, Under, IsRanked}
use Rattle.hierarchy.specs.Hierarchy.Under.{directly, over}
use Rattle.hierarchy.specs.Walks.{walk, all_from, has, firsts}
use Rattle.hierarchy.specs.Closure.{IsUpwards}
use Rattle.hierarchy.proofs.Tests.{or_split, or_left, or_right, equal_from, equal_to}
use Rattle.hierarchy.proofs.WalkLaws.{walk_unfolds, has_new}
use Rattle.hierarchy.proofs.LoopLaws.{has_some, has_in}

-- what a walk meets is where it began or lies above that
pub walk_under : (n : ℕ) (rows : List (List ℕ)) (c d : ℕ) → has (walk n rows c) d ≡ true → (c ≡ d) ⊎ Under rows c d
unfolding walk
walk_under zero rows c d e = absurd cc
walk_under (suc n) rows c d e = elim (or_split (c == d) (has (flat_map (walk n rows) (row_of rows c)) d) e) [
  | inl h ↦ inl (equal_from c d h)
  | inr h ↦
      let r = has_some (walk n rows) (row_of rows c) d h in
      inr (elim (walk_under n rows r.0 d r.1.1) [
        | inl s ↦ directly (subst (λ z. Contains (row_of rows c) z) s r.1.0)
        | inr u ↦ over r.1.0 u
      ])
]

-- a walk meets where it began
from_itself : (rows : List (List ℕ)) (ranks : List ℕ) (c : ℕ) → IsRanked rows ranks → has (all_from rows c) c ≡ true
from_itself rows ranks c r = ap (λ xs. has xs c) (walk_unfolds rows ranks r c) ∙ or_left _ _ (equal_to c)

-- a walk meets all that it meets from a number directly above
from_above : (rows : List (List ℕ)) (ranks : List ℕ) (c k d : ℕ) → IsRanked rows ranks → Contains (row_of rows c) k → has (all_from rows k) d ≡ true → has (all_from rows c) d ≡ true
from_above rows ranks c k d r w h = ap (λ xs. has xs d) (walk_unfolds rows ranks r c) ∙ or_right (c == d) _ (has_in (all_from rows) (row_of rows c) d k w h)

-- a walk meets all that lies above where it began
under_walk : (rows : List (List ℕ)) (ranks : List ℕ) (c d : ℕ) → IsRanked rows ranks → Under rows c d → has (all_from rows c) d ≡ true
under_walk rows ranks c d r (directly w) = from_above rows ranks c d d r w (from_itself rows ranks d r)
under_walk rows ranks c d r (over {k} w u) = from_above rows ranks c k d r w (under_walk rows ranks k d r u)

-- the items of a walk, sorted, are the number and all above it
pub upwards_row : (rows : List (List ℕ)) (ranks : List ℕ) (c : ℕ) (walked row : List ℕ) → IsRanked rows ranks → walked ≡ firsts (all_from rows c) → IsPermutation walked row → IsSorted nat_cmp row → IsUpwards rows c row
unfolding all_from
upwards_row rows ranks c walked row r e p s =
    let same : (d : ℕ) → has row d ≡ has (all_from rows c) d = λ d. sym (list_any-IsPermutation (λ y. y == d) walked row p) ∙ ap (λ xs. has xs d) e ∙ has_new [] (all_from rows c) d in
    record {
      sound = λ d h. walk_under (length rows + 2) rows c d (sym (same d) ∙ h);
      itself = same c ∙ from_itself rows ranks c r;
      whole = λ d u. same d ∙ under_walk rows ranks c d r u;
      sorted = s;
    }
