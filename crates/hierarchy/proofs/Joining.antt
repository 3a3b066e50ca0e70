-- The joining of the rows of some numbers.
use Rattle.std.proofs.Common.{◌≡◌, ℕ, ◌+◌, ◌<◌, ◌≤◌, Bool, List, [], length, drop, slice_index, slice_index_or, sym, ◌∙◌, ap, subst, arith, inl, inr}
use Rattle.std.specs.List.{All, flat_map}
use Rattle.std.proofs.lemmas.Bool.{cases_lt}
use Rattle.std.proofs.lemmas.List.{at_drop_more, at_drop_all, get_or_default}
use Rattle.std.proofs.Math.ListN.{get_or-eq_default}
use Rattle.hierarchy.specs.Hierarchy.{row_of, IsWithin}
use Rattle.hierarchy.specs.Walks.{add_new, firsts, IsWalked}
use Rattle.hierarchy.specs.Steps.Filled.{AreMarked, AddsAll}
use Rattle.hierarchy.proofs.Filling.{walk_in}
use Rattle.hierarchy.proofs.WalkLaws.{add_append}

-- with the numbers of the list from `index` on left
pub record Joining (table : List (List ℕ)) (list : List ℕ) (seen : List Bool) (all : List ℕ) (index : ℕ) : Type 0 where
  pub left : firsts (flat_map (row_of table) list) ≡ add_new all (flat_map (row_of table) (drop index list))
  pub marked : AreMarked seen all
  pub lens : length seen ≡ length table

-- one more row is in
pub joins_more : (table : List (List ℕ)) (list : List ℕ) (seen seen2 : List Bool) (all all2 more : List ℕ) (i : ℕ) → i < length list → more ≡ row_of table (slice_index list i) → length seen2 ≡ length table → AddsAll seen seen2 all all2 more → Joining table list seen all i → Joining table list seen2 all2 (i + 1)
joins_more table list seen seen2 all all2 more i inside em lens a s =
    let k = slice_index list i in
    let rest = flat_map (row_of table) (drop (i + 1) list) in
    let e : all2 ≡ add_new all (row_of table k) = a.added ∙ ap (add_new all) em in
    record {
      left = s.left ∙ at_drop_more (λ z. add_new all (flat_map (row_of table) z)) list i 0 inside ∙ add_append all (row_of table k) rest ∙ ap (λ z. add_new z rest) (sym e);
      marked = a.marked;
      lens = lens;
    }

-- all are
pub joins_all : (table : List (List ℕ)) (list : List ℕ) (seen : List Bool) (all : List ℕ) (i : ℕ) → length list ≤ i → Joining table list seen all i → all ≡ firsts (flat_map (row_of table) list)
joins_all table list seen all i done s = sym (s.left ∙ at_drop_all (λ z. add_new all (flat_map (row_of table) z)) list i done)

-- the items of a row have rows
pub row_in : (table : List (List ℕ)) (k n : ℕ) (row : List ℕ) → IsWithin table → row ≡ row_of table k → n ≡ length table → All (λ x. x < n) row
row_in table k n row within e same = subst (λ z. All (λ x. x < z) row) (sym same) (subst (All (λ x. x < length table)) (sym e) inside)
  where
    inside : All (λ x. x < length table) (row_of table k)
    inside = elim (cases_lt k (length table)) [
      | inl less ↦ within k [] less
      | inr more ↦ subst (All (λ x. x < length table)) (sym (get_or-eq_default table [] {n = k} more)) (λ i d none. absurd (omega arith))
    ]

-- the numbers in a table of walks have rows
pub walked_in : (rows table : List (List ℕ)) → IsWithin rows → IsWalked rows table → IsWithin table
walked_in rows table within w = λ c d h.
    let inside : c < length rows = subst (λ z. c < z) w.same h in
    let row : slice_index_or table c d ≡ row_of table c = get_or_default table c d [] h in
    subst (λ z. All (λ x. x < z) (slice_index_or table c d)) (sym w.same) (walk_in rows c (slice_index_or table c d) within inside (row ∙ w.each c inside))
