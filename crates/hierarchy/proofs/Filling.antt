-- The filling of a row.
use Rattle.std.proofs.Common.{◌≡◌, ℕ, ◌+◌, ◌<◌, ◌≤◌, ◌==◌, ◌⊎◌, Bool, true, false, List, [], ◌∷◌, length, drop, slice_index, slice_index_or, slice_set, sym, ◌∙◌, ap, subst, refl, arith, get_or-set_same, get_or-set_other, inl, inr}
use Rattle.std.specs.Prelude.{if◌then◌else◌, ◌++◌}
use Rattle.std.proofs.Common.{length-append}
use Rattle.std.specs.List.{All, Contains, flat_map}
use Rattle.std.proofs.lemmas.Bool.{cases_eq, cases_lt}
use Rattle.std.proofs.lemmas.List.{at_drop_more, at_drop_all, get_or_default}
use Rattle.std.proofs.lemmas.List.Elements.{Contains-get_or}
use Rattle.hierarchy.specs.Hierarchy.{row_of, Under, IsRanked, IsWithin}
use Rattle.hierarchy.specs.Walks.{walk, all_from, has, add_one, add_new, firsts}
use Rattle.hierarchy.specs.Steps.Filled.{AreWalked, AreMarked, AddsAll}
use Rattle.hierarchy.proofs.Tests.{any_from, equal_to}
use Rattle.hierarchy.proofs.Under.{under_in}
use Rattle.hierarchy.proofs.WalkLaws.{walk_unfolds, add_append, add_firsts, has_new}
use Rattle.hierarchy.proofs.ClosureLaws.{walk_under}

-- ---- the walk of one number

-- with the items of c's row from `index` on left
pub record Gathering (rows : List (List ℕ)) (c : ℕ) (row : List ℕ) (seen : List Bool) (all : List ℕ) (index : ℕ) : Type 0 where
  pub left : add_new (c ∷ []) (flat_map (all_from rows) row) ≡ add_new all (flat_map (all_from rows) (drop index row))
  pub marked : AreMarked seen all

-- one more walk is in
pub gathers_more : (rows table : List (List ℕ)) (c k : ℕ) (row : List ℕ) (seen seen2 : List Bool) (all all2 more : List ℕ) (i : ℕ) → i < length row → k ≡ slice_index row i → more ≡ row_of table k → 1 ≤ length (row_of table k) → AreWalked rows table → AddsAll seen seen2 all all2 more → Gathering rows c row seen all i → Gathering rows c row seen2 all2 (i + 1)
gathers_more rows table c k row seen seen2 all all2 more i inside ek em filled right a f =
    let got : more ≡ firsts (all_from rows k) = em ∙ right.each k filled in
    let e : all2 ≡ add_new all (all_from rows k) = a.added ∙ ap (add_new all) got ∙ add_firsts all (all_from rows k) in
    let rest = flat_map (all_from rows) (drop (i + 1) row) in
    record {
      left = f.left ∙ at_drop_more (λ z. add_new all (flat_map (all_from rows) z)) row i 0 inside ∙ ap (λ z. add_new all (flat_map (all_from rows) (z ∷ drop (i + 1) row))) (sym ek) ∙ add_append all (all_from rows k) rest ∙ ap (λ z. add_new z rest) (sym e);
      marked = a.marked;
    }

-- the walk is whole once all are
pub gathers_all : (rows : List (List ℕ)) (ranks : List ℕ) (c : ℕ) (row : List ℕ) (seen : List Bool) (all : List ℕ) (i : ℕ) → IsRanked rows ranks → row ≡ row_of rows c → length row ≤ i → Gathering rows c row seen all i → all ≡ firsts (all_from rows c)
gathers_all rows ranks c row seen all i ranked er done f =
    let e1 : add_new (c ∷ []) (flat_map (all_from rows) row) ≡ all = f.left ∙ at_drop_all (λ z. add_new all (flat_map (all_from rows) z)) row i done in
    let e2 : firsts (all_from rows c) ≡ add_new (c ∷ []) (flat_map (all_from rows) (row_of rows c)) = ap firsts (walk_unfolds rows ranks ranked c) in
    sym (e2 ∙ ap (λ z. add_new (c ∷ []) (flat_map (all_from rows) z)) (sym er) ∙ e1)

-- all that a walk meets has a row
pub walk_in : (rows : List (List ℕ)) (c : ℕ) (items : List ℕ) → IsWithin rows → c < length rows → items ≡ firsts (all_from rows c) → All (λ x. x < length rows) items
unfolding all_from
walk_in rows c items within inside e = λ i d h.
    let x = slice_index_or items i d in
    let there : has items x ≡ true = any_from (λ y. y == x) items x (Contains-get_or items i d h) (equal_to x) in
    let met : has (all_from rows c) x ≡ true = sym (has_new [] (all_from rows c) x) ∙ sym (ap (λ z. has z x) e) ∙ there in
    elim (walk_under (length rows + 2) rows c x met) [ inl s ↦ subst (λ z. z < length rows) s inside | inr u ↦ under_in rows c x within u ]

-- ---- the rows of the table

-- from the table at first to the table now, the first `index` of c's row are filled
pub record Filling (rows : List (List ℕ)) (row : List ℕ) (first table : List (List ℕ)) (index : ℕ) : Type 0 where
  pub right : AreWalked rows table
  pub filled : (i : ℕ) → i < index → 1 ≤ length (row_of table (slice_index row i))
  pub kept : (d : ℕ) → 1 ≤ length (row_of first d) → 1 ≤ length (row_of table d)

-- one more row is filled
pub fills_more : (rows : List (List ℕ)) (row : List ℕ) (t0 t t2 : List (List ℕ)) (i : ℕ) → AreWalked rows t2 → 1 ≤ length (row_of t2 (slice_index row i)) → ((d : ℕ) → 1 ≤ length (row_of t d) → 1 ≤ length (row_of t2 d)) → Filling rows row t0 t i → Filling rows row t0 t2 (i + 1)
fills_more rows row t0 t t2 i right filled kept f = record {
  right = right;
  filled = λ j h. elim (cases_lt j i) [
    | inl less ↦ kept (slice_index row j) (f.filled j less)
    | inr more ↦ (let e : j ≡ i = omega arith in subst (λ z. 1 ≤ length (row_of t2 (slice_index row z))) (sym e) filled)
  ];
  kept = λ d h. kept d (f.kept d h);
}

-- each number in the row has its walk once all are filled
pub all_filled : (rows : List (List ℕ)) (c : ℕ) (row : List ℕ) (t0 t : List (List ℕ)) (i : ℕ) → row ≡ row_of rows c → length row ≤ i → Filling rows row t0 t i → (k : ℕ) → Contains (row_of rows c) k → 1 ≤ length (row_of t k)
all_filled rows c row t0 t i er done f k w =
    let w2 : Contains row k = subst (λ z. Contains z k) (sym er) w in
    let at : slice_index row w2.0 ≡ k = get_or_default row w2.0 0 k w2.1 ∙ w2.2 in
    let h = w2.1 in
    subst (λ z. 1 ≤ length (row_of t z)) at (f.filled w2.0 (omega arith))

-- a walk has its own number
pub walk_some : (rows : List (List ℕ)) (ranks : List ℕ) (c : ℕ) (all : List ℕ) → IsRanked rows ranks → all ≡ firsts (all_from rows c) → 1 ≤ length all
walk_some rows ranks c all ranked e = subst (λ z. 1 ≤ length z) (sym (e ∙ ap firsts (walk_unfolds rows ranks ranked c))) (add_some (c ∷ []) (flat_map (all_from rows) (row_of rows c)) (omega arith))
  where
    one_some : (xs : List ℕ) (y : ℕ) → 1 ≤ length xs → 1 ≤ length (add_one xs y)
    one_some xs y h = elim (has xs y) as (λ b. 1 ≤ length (if b then xs else xs ++ y ∷ [])) [ true ↦ h | false ↦ omega (arith, length-append xs (y ∷ [])) ]

    add_some : (xs ys : List ℕ) → 1 ≤ length xs → 1 ≤ length (add_new xs ys)
    add_some xs [] h = h
    add_some xs (y ∷ ys) h = add_some (add_one xs y) ys (one_some xs y h)

-- c's row is put
pub put_right : (rows : List (List ℕ)) (c : ℕ) (t : List (List ℕ)) (all : List ℕ) → c < length t → all ≡ firsts (all_from rows c) → AreWalked rows t → AreWalked rows (slice_set t c all)
put_right rows c t all inside e right = record {
  each = λ x h. elim (cases_eq x c) [
    | inl s ↦
        let put : row_of (slice_set t c all) x ≡ all = ap (row_of (slice_set t c all)) s ∙ get_or-set_same t c all [] inside in
        put ∙ e ∙ ap (λ z. firsts (all_from rows z)) (sym s)
    | inr ne ↦
        let other : row_of (slice_set t c all) x ≡ row_of t x = get_or-set_other t c x all [] ne in
        other ∙ right.each x (subst (λ z. 1 ≤ length z) other h)
  ];
}

-- and what was filled still is
pub put_kept : (c : ℕ) (t : List (List ℕ)) (all : List ℕ) (d : ℕ) → c < length t → 1 ≤ length all → 1 ≤ length (row_of t d) → 1 ≤ length (row_of (slice_set t c all) d)
put_kept c t all d inside some h = elim (cases_eq d c) [
  | inl s ↦
      let e : row_of (slice_set t c all) d ≡ all = ap (row_of (slice_set t c all)) s ∙ get_or-set_same t c all [] inside in
      subst (λ z. 1 ≤ length z) (sym e) some
  | inr ne ↦ subst (λ z. 1 ≤ length z) (sym (get_or-set_other t c d all [] ne)) h
]

pub put_here : (c : ℕ) (t : List (List ℕ)) (all : List ℕ) → c < length t → 1 ≤ length all → 1 ≤ length (row_of (slice_set t c all) c)
put_here c t all inside some = subst (λ z. 1 ≤ length z) (sym (get_or-set_same t c all [] inside)) some
