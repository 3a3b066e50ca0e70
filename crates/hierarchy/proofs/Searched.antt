-- A search in a list of numbers that rise.
use Rattle.std.proofs.Common.{◌≡◌, ℕ, ◌<◌, ◌≤◌, Bool, true, false, ◌==◌, inl, inr, List, length, slice_index_or, sym, ap, ◌∙◌, refl, arith, get_or, subst}
use Rattle.std.specs.Prelude.{Result, Ok, Err, is_ok, MatchResult}
use Rattle.std.specs.List.{list_any}
use Rattle.std.specs.List.Sorted.{IsSorted, IsBinarySearchResult}
use Rattle.std.specs.Ordering.{nat_cmp}
use Rattle.std.proofs.lemmas.Bool.{cases_lt}
use Rattle.std.proofs.lemmas.Bool.Decides.{nat_tests}
use Rattle.std.proofs.lemmas.List.{get_or_default}
use Rattle.std.proofs.lemmas.List.Folds.{list_any_at, list_any_none}
use Rattle.std.proofs.lemmas.List.Sorted.{searched, IsNonDecreasingBy-from_sort}
use Rattle.hierarchy.specs.Walks.{has}
use Rattle.hierarchy.proofs.Tests.{equal_to}

unequal : (a b : ℕ) → (a ≡ b → ⊥) → (a == b) ≡ false
unequal a b h = grind (arith, nat_tests)

-- what a search finds is there, and what it doesn't isn't
found : (xs : List ℕ) (n : ℕ) (r : Result ℕ ℕ) → MatchResult r (λ i. (i < length xs) × (get_or xs i 0 ≡ n)) (λ i. (i ≤ length xs) × ((k : ℕ) → k < i → get_or xs k 0 < n) × ((k : ℕ) → i ≤ k → k < length xs → n < get_or xs k 0)) → is_ok r ≡ has xs n
found xs n (Ok i) h = sym (list_any_at (λ y. y == n) xs i 0 h.0 (subst (λ z. (z == n) ≡ true) (sym h.1) (equal_to n)))
found xs n (Err i) h = sym (list_any_none (λ y. y == n) xs (λ k d l. elim (cases_lt k i) [
  | inl less ↦ let a = h.1 k less in let e = get_or_default xs k d 0 l in unequal _ n (λ q. omega arith)
  | inr more ↦ let a = h.2 k more l in let e = get_or_default xs k d 0 l in unequal _ n (λ q. omega arith)
]))

-- a binary search of sorted numbers tells whether a number is one of them
pub among : (xs : List ℕ) (n : ℕ) (r : Result ℕ ℕ) → IsSorted nat_cmp xs → IsBinarySearchResult (λ y. nat_cmp y n) xs r → is_ok r ≡ has xs n
among xs n r s b = found xs n r (searched xs n r b (λ i j. IsNonDecreasingBy-from_sort (λ x. x) xs s i j 0))
