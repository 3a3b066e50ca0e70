-- The items of a row that a loop goes over.
use Rattle.std.proofs.Common.{◌≡◌, ℕ, ◌<◌, ◌+◌, ◌∙◌, List, [], ◌∷◌, ◌++◌, length, slice_index, slice_index_or, subst, sym, ap, inl, inr, arith}
use Rattle.std.proofs.Math.ListN.{get_or-append}
use Rattle.std.proofs.Math.Seq.{get_or-append_seam}
use Rattle.std.proofs.lemmas.Bool.{cases_lt}
use Rattle.std.specs.List.{Contains}
use Rattle.std.proofs.lemmas.List.{get_or_read}
use Rattle.std.proofs.lemmas.List.Elements.{Contains-get_or}
use Rattle.hierarchy.specs.Hierarchy.{row_of}

-- the items are the row of c
pub row_is : (rows : List (List ℕ)) (c : ℕ) (r items : List ℕ) → c < length rows → r ≡ slice_index_or rows c r → items ≡ r → items ≡ row_of rows c
row_is rows c r items inside is same = same ∙ get_or_read rows c r inside is []

-- an item stands in c's row
pub in_row : (rows : List (List ℕ)) (c : ℕ) (r items : List ℕ) (i : ℕ) → c < length rows → r ≡ slice_index_or rows c r → items ≡ r → i < length items → Contains (row_of rows c) (slice_index items i)
in_row rows c r items i inside is same h = subst (λ z. Contains z (slice_index items i)) (row_is rows c r items inside is same) (Contains-get_or items i 0 h)

-- what holds of each row, and of one more at the end, holds of all of them
pub each_more : (P : ℕ → List ℕ → Type 0) (rows : List (List ℕ)) (row : List ℕ) (n : ℕ) → length rows ≡ n → ((c : ℕ) → c < n → P c (row_of rows c)) → P n row → (c : ℕ) → c < n + 1 → P c (row_of (rows ++ row ∷ []) c)
each_more P rows row n e all one c h = elim (cases_lt c n) [
  | inl less ↦
      let inside : c < length rows = omega arith in
      subst (P c) (sym (get_or-append rows (row ∷ []) [] c inside)) (all c less)
  | inr more ↦
      let s : c ≡ length rows = omega arith in
      let last : row_of (rows ++ row ∷ []) c ≡ row = ap (row_of (rows ++ row ∷ [])) s ∙ get_or-append_seam rows row [] [] in
      subst (P c) (sym last) (subst (λ z. P z row) (sym (s ∙ e)) one)
]
