-- Each row is small.
use Rattle.std.proofs.Common.{◌≡◌, ℕ, ◌<◌, true, Bool, List, map, length, IsTrue, slice_index_or, refl, ◌∙◌, ap, subst, arith}
use Rattle.std.specs.List.{list_all}
use Rattle.std.proofs.lemmas.List.{length-map}
use Rattle.std.proofs.lemmas.List.Sums.{AllPass-from_list_all}
use Rattle.std.proofs.Math.ListN.{get_or-map}
use Rattle.boot_table.specs.declared.row.BootClass.{BootClass}
use Rattle.boot_table.specs.declared.row.BootMethod.{BootMethod}
use Rattle.boot_table.specs.Seen.{seen, seen_method}
use Rattle.boot_table.specs.Sizes.{is_short, is_small}
use Rattle.boot_table.specs.Table.{first_rows}

-- what holds of each item that is seen holds of the one at i
seen_at : {A B : Type 0} (f : A → B) (p : B → Bool) (xs : List A) (i : ℕ) (d : A) → list_all p (map f xs) ≡ true → i < length xs → p (f (slice_index_or xs i d)) ≡ true
seen_at f p xs i d h lt =
    let n : i < length (map f xs) = let l = length-map xs f in omega arith in
    subst (λ z. p z ≡ true) (get_or-map f xs i d) (AllPass-from_list_all p (map f xs) h i (f d) n)

-- each method of a small row has short code
pub short_at : (methods : List BootMethod) (i : ℕ) (d : BootMethod) → IsTrue (list_all (λ m. is_short m.code) (map seen_method methods)) → i < length methods → IsTrue (is_short (seen_method (slice_index_or methods i d)).code)
short_at methods i d h lt = seen_at seen_method (λ m. is_short m.code) methods i d h lt

all_small : list_all is_small first_rows ≡ true
unfolding first_rows
all_small = refl

-- each of the first rows is small
pub small_at : (rows : List BootClass) (i : ℕ) (d : BootClass) → map seen rows ≡ first_rows → i < length rows → IsTrue (is_small (seen (slice_index_or rows i d)))
small_at rows i d e lt = seen_at seen is_small rows i d (ap (list_all is_small) e ∙ all_small) lt
