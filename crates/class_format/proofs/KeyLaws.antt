-- Members are new, one after the other, where the ranks of their names and descriptors are distinct.
use Rattle.std.proofs.Common.{◌≡◌, ℕ, ◌<◌, ◌≤◌, ◌+◌, List, [], ◌∷◌, ◌++◌, map, length, get_or, Bool, true, false, ◌&&◌, Some, slice_get, refl, sym, ap, ap₂, subst, ◌∙◌, arith, append_assoc, append-nil, IsPermutation, IsSorted}
use Rattle.std.specs.Prelude.{◌↔◌, nat_eq}
use Rattle.std.specs.Cmp.{IsEquivalence, IsTotalOrder, tied_then}
use Rattle.std.specs.List.{IsDistinct, AllByRecursion, list_any}
use Rattle.std.specs.Ordering.{nat_cmp, eq_by_cmp, is_eq, is_lt, ordering_reverse}
use Rattle.std.specs.declared.cmp.Ordering.{Ordering}
use Rattle.std.specs.declared.cmp.Ordering.TheVariants.{Less, Equal, Greater}
use Rattle.std.proofs.lemmas.Bool.Decides.{nat_tests}
use Rattle.std.proofs.lemmas.Cmp.{nat_cmp_total, on_total, then_total, eq_by_cmp_equiv}
use Rattle.std.proofs.lemmas.List.{map-append}
use Rattle.std.proofs.lemmas.Map.Keys.{IsDistinct-head, IsDistinct-tail, IsDistinct-push, IsDistinct-IsPermutation, IsDistinct-from_sorted, sorted_from_all_adjacent}
use Rattle.std.proofs.lemmas.List.Sorted.{IsPermutation-sym}
use Rattle.jvm_base.specs.declared.pool.PoolItem.{PoolItem}
use Rattle.jvm_base.specs.declared.pool.PoolItem.TheVariants.{Gap}
use Rattle.constant_pool.specs.Items.{text_at, is_same_text}
use Rattle.constant_pool.specs.Facts.Ranks.{rank_at}
use Rattle.constant_pool.proofs.RankLaws.{same_rank}
use Rattle.class_format.specs.Judging.Keys.{key_cmp, key_ranks}
use Rattle.class_format.specs.Members.{is_among}
use Rattle.class_format.specs.Judging.Formed.{AreNew}

pub key_total : IsTotalOrder key_cmp
key_total = then_total (on_total (λ (k : ℕ × ℕ). k.0) nat_cmp_total) (on_total (λ (k : ℕ × ℕ). k.1) nat_cmp_total)

abbrev pub key_eq : ℕ × ℕ → ℕ × ℕ → Bool
key_eq = eq_by_cmp key_cmp

key_laws : IsEquivalence key_eq
key_laws = eq_by_cmp_equiv key_total

is_eq-nat_cmp : (a b : ℕ) → is_eq (nat_cmp a b) ≡ nat_eq a b
is_eq-nat_cmp a b = grind (arith, nat_tests)

pub key_eq-is : (x y : ℕ × ℕ) → key_eq x y ≡ (nat_eq x.0 y.0 && nat_eq x.1 y.1)
key_eq-is x y = sym (tied_then (nat_cmp x.0 y.0) (nat_cmp x.1 y.1)) ∙ rw (is_eq-nat_cmp x.0 y.0, is_eq-nat_cmp x.1 y.1) refl

-- ---- the keys of members

pub keyed : (pool : List PoolItem) (key : ℕ × ℕ) (name desc : ℕ) → name ≡ rank_at pool key.0 → desc ≡ rank_at pool key.1 → (name, desc) ≡ key_ranks pool key
keyed pool key name desc a b = ap₂ (λ (n d : ℕ). (n, d)) a b

module _ (pool : List PoolItem) (gap : slice_get pool 0 ≡ Some Gap) where
  -- the ranks of two keys are the same where their texts are
  pub same_key : (a b : ℕ × ℕ) → key_eq (key_ranks pool a) (key_ranks pool b) ≡ (is_same_text (text_at pool a.0) (text_at pool b.0) && is_same_text (text_at pool a.1) (text_at pool b.1))
  same_key a b = sym (tied_then (nat_cmp (key_ranks pool a).0 (key_ranks pool b).0) (nat_cmp (key_ranks pool a).1 (key_ranks pool b).1)) ∙ rw (same_rank pool gap a.0 b.0, same_rank pool gap a.1 b.1) refl

  module _ {X : Type 0} (key : X → ℕ × ℕ) where
    abbrev ranks : List X → List (ℕ × ℕ)
    ranks xs = map (λ x. key_ranks pool (key x)) xs

    among : (xs : List X) (x : X) → list_any (key_eq (key_ranks pool (key x))) (ranks xs) ≡ is_among pool (map key xs) (key x).0 (key x).1
    among [] x = refl
    among (y ∷ xs) x = rw (key_laws.symm (key_ranks pool (key x)) (key_ranks pool (key y)), same_key (key y) (key x), among xs x) refl

    apart : (k : ℕ × ℕ) (ks ls : List (ℕ × ℕ)) → AllByRecursion (λ l. key_eq k l ≡ false) (ks ++ ls) → AllByRecursion (λ l. key_eq k l ≡ false) ls
    apart k [] ls h = h
    apart k (l ∷ ks) ls h = apart k ks ls h.1

    none_before : (ks : List (ℕ × ℕ)) (k : ℕ × ℕ) (ls : List (ℕ × ℕ)) → IsDistinct key_eq (ks ++ k ∷ ls) → list_any (key_eq k) ks ≡ false
    none_before [] k ls h = refl
    none_before (l ∷ ks) k ls h =
        let other : key_eq l k ≡ false = (apart l ks (k ∷ ls) (IsDistinct-head key_eq l (ks ++ k ∷ ls) h)).0 in
        rw (key_laws.symm k l, other, none_before ks k ls (IsDistinct-tail key_eq l (ks ++ k ∷ ls) h)) refl

    -- the earlier ones with one more, and the rest
    moved : (earlier : List X) (x : X) (xs : List X) → ranks ((earlier ++ x ∷ []) ++ xs) ≡ ranks (earlier ++ x ∷ xs)
    moved earlier x xs = ap ranks (append_assoc earlier (x ∷ []) xs)

    distinct_from_new : (earlier xs : List X) → IsDistinct key_eq (ranks earlier) → AreNew pool key earlier xs → IsDistinct key_eq (ranks (earlier ++ xs))
    distinct_from_new earlier [] h new = subst (λ ys. IsDistinct key_eq (ranks ys)) (sym (append-nil earlier)) h
    distinct_from_new earlier (x ∷ xs) h new =
        let pushed = IsDistinct-push key_laws (ranks earlier) (key_ranks pool (key x)) h (among earlier x ∙ new.0) in
        let more : IsDistinct key_eq (ranks (earlier ++ x ∷ [])) = subst (IsDistinct key_eq) (sym (map-append (λ y. key_ranks pool (key y)) earlier (x ∷ []))) pushed in
        subst (IsDistinct key_eq) (moved earlier x xs) (distinct_from_new (earlier ++ x ∷ []) xs more new.1)

    new_from_distinct : (earlier xs : List X) → IsDistinct key_eq (ranks (earlier ++ xs)) → AreNew pool key earlier xs
    new_from_distinct earlier [] h = tt
    new_from_distinct earlier (x ∷ xs) h =
        let split : IsDistinct key_eq (ranks earlier ++ key_ranks pool (key x) ∷ ranks xs) = subst (IsDistinct key_eq) (map-append (λ y. key_ranks pool (key y)) earlier (x ∷ xs)) h in
        (sym (among earlier x) ∙ none_before (ranks earlier) (key_ranks pool (key x)) (ranks xs) split, new_from_distinct (earlier ++ x ∷ []) xs (subst (IsDistinct key_eq) (sym (moved earlier x xs)) h))

    -- told of the sorted ranks
    none_yet : IsDistinct key_eq (ranks [])
    unfolding IsDistinct
    none_yet = tt

    pub new_where_distinct : (xs : List X) (keys sorted : List (ℕ × ℕ)) → keys ≡ ranks xs → IsPermutation keys sorted → IsDistinct key_eq sorted ↔ AreNew pool key [] xs
    new_where_distinct xs keys sorted is permuted = (
      λ h. new_from_distinct [] xs (subst (IsDistinct key_eq) is (IsDistinct-IsPermutation key_eq key_laws.symm sorted keys (IsPermutation-sym keys sorted permuted) h)),
      λ new. IsDistinct-IsPermutation key_eq key_laws.symm keys sorted permuted (subst (IsDistinct key_eq) (sym is) (distinct_from_new [] xs none_yet new)),
    )

-- ---- neighbours among sorted keys

only_less : (o p : Ordering) → o ≡ ordering_reverse p → is_lt p ≡ false → is_eq o ≡ false → o ≡ Less
only_less o Less e p q = absurd cc
only_less o Equal e p q = let tie : true ≡ false = ap is_eq (sym e) ∙ q in absurd cc
only_less o Greater e p q = e

-- below a place, each key differs from the next one
abbrev pub Differ : List (ℕ × ℕ) → ℕ → Type 0
Differ keys later = (k : ℕ) → k + 1 < later → (d : ℕ × ℕ) → key_eq (get_or keys k d) (get_or keys (k + 1) d) ≡ false

-- keys that don't fall, and differ from their neighbours, are distinct
pub distinct_neighbours : (keys : List (ℕ × ℕ)) (later : ℕ) → IsSorted key_cmp keys → length keys ≤ later → Differ keys later → IsDistinct key_eq keys
distinct_neighbours keys later sorted all differ =
    IsDistinct-from_sorted key_cmp keys (sorted_from_all_adjacent key_total keys (0, 0)
    (λ k lt. only_less (key_cmp (get_or keys k (0, 0)) (get_or keys (k + 1) (0, 0))) (key_cmp (get_or keys (k + 1) (0, 0)) (get_or keys k (0, 0)))
    (key_total.antisymm (get_or keys k (0, 0)) (get_or keys (k + 1) (0, 0))) (sorted k (0, 0) (omega arith) lt) (differ k (omega arith) (0, 0))))
