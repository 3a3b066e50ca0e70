-- Ranks of texts: they are found by a search among the sorted texts, and tell texts apart.
use Rattle.std.proofs.Common.{◌≡◌, ℕ, zero, suc, ◌<◌, ◌≤◌, ◌+◌, List, [], ◌∷◌, map, length, get_or, Bool, true, false, cond, Option, Some, None, option_map, slice_get, Bor, refl, sym, ap, subst, ◌∙◌, arith, IsPermutation, IsSorted}
use Rattle.std.specs.Prelude.{◌↔◌, count_by, option_and_then}
use Rattle.std.specs.Cmp.{IsStrictWeakOrder, IsTotalOrder}
use Rattle.std.specs.Cmp.Lexicographic.{slice_cmp, options_total}
use Rattle.std.specs.List.Sorted.{IsPartitionPoint, IsPartitionedBy}
use Rattle.std.specs.Option.{option_cmp, unwrap_or}
use Rattle.std.specs.Ordering.{nat_cmp, is_eq, is_lt, ordering_index, ordering_reverse}
use Rattle.std.specs.declared.cmp.Ordering.{Ordering}
use Rattle.std.specs.declared.cmp.Ordering.TheVariants.{Less, Equal, Greater}
use Rattle.std.proofs.lemmas.Cmp.{nat_cmp_total, nat_list_cmp_total, tied_itself}
use Rattle.std.proofs.lemmas.List.Sums.{sum_by-cons, sum_by-le-sum_by}
use Rattle.std.proofs.lemmas.List.Sorted.{ranks_by, searchable_from_sorted, sum_by-IsPermutation}
use Rattle.std.proofs.lemmas.Map.Lookups.{exact_bytes, exact_unsigned}
use Rattle.std.proofs.lemmas.Option.{get_or_from_slice_get, slice_get-get_or, slice_get-map, slice_get_within}
use Rattle.jvm_base.specs.declared.pool.PoolItem.{PoolItem}
use Rattle.jvm_base.specs.declared.pool.PoolItem.TheVariants.{Gap}
use Rattle.constant_pool.specs.Items.{text_of, text_at, is_same_text, units}
use Rattle.constant_pool.specs.Facts.Ranks.{text_cmp, comes_before, rank_of, rank_at}
use Rattle.constant_pool.proofs.SameTexts.{same_tests, same_is, same_as_itself}

-- ---- counts

abbrev one_if : Bool → ℕ
one_if b = cond b 1 0

count-cons : {X : Type 0} (p : X → Bool) (x : X) (xs : List X) → count_by p (x ∷ xs) ≡ cond (p x) 1 0 + count_by p xs
count-cons p x xs = sum_by-cons (λ y. cond (p y) 1 0) x xs

count_none : {X : Type 0} (p : X → Bool) (xs : List X) → ((k : ℕ) (d : X) → k < length xs → p (get_or xs k d) ≡ false) → count_by p xs ≡ 0
count_none p [] h = refl
count_none p (x ∷ xs) h =
    let first : one_if (p x) ≡ 0 = ap one_if (h 0 x (omega arith)) in
    omega (arith, count-cons p x xs, first, count_none p xs (λ k d lt. h (suc k) d (omega arith)))

-- a partition's point counts what passes
count_to : {X : Type 0} (p : X → Bool) (xs : List X) (i : ℕ) → i ≤ length xs → ((k : ℕ) (d : X) → k < i → p (get_or xs k d) ≡ true) → ((k : ℕ) (d : X) → i ≤ k → k < length xs → p (get_or xs k d) ≡ false) → count_by p xs ≡ i
count_to p [] zero le pass fail = refl
count_to p [] (suc i) le pass fail = absurd (omega arith)
count_to p (x ∷ xs) zero le pass fail = count_none p (x ∷ xs) (λ k d lt. fail k d (omega arith) lt)
count_to p (x ∷ xs) (suc i) le pass fail =
    let first : one_if (p x) ≡ 1 = ap one_if (pass 0 x (omega arith)) in
    let rest = count_to p xs i (omega arith) (λ k d lt. pass (suc k) d (omega arith)) (λ k d ge lt. fail (suc k) d (omega arith) (omega arith)) in
    omega (arith, count-cons p x xs, first, rest)

count-map : {X Y : Type 0} (p : Y → Bool) (g : X → Y) (xs : List X) → count_by (λ x. p (g x)) xs ≡ count_by p (map g xs)
count-map p g [] = refl
count-map p g (x ∷ xs) = count-cons (λ y. p (g y)) x xs ∙ ap (λ n. cond (p (g x)) 1 0 + n) (count-map p g xs) ∙ sym (count-cons p (g x) (map g xs))

one_no_more : (a b : Bool) → (a ≡ true → b ≡ true) → cond a 1 0 ≤ cond b 1 0
one_no_more true b h = let other : one_if b ≡ 1 = ap one_if (h refl) in omega (arith, other)
one_no_more false b h = omega arith

-- what passes more tests is more
count_less : {X : Type 0} (p q : X → Bool) (xs : List X) (i : ℕ) (d : X) → ((x : X) → p x ≡ true → q x ≡ true) → i < length xs → p (get_or xs i d) ≡ false → q (get_or xs i d) ≡ true → count_by p xs < count_by q xs
count_less p q [] i d more lt fails passes = absurd (omega arith)
count_less p q (x ∷ xs) zero d more lt fails passes =
    let rest : count_by p xs ≤ count_by q xs = sum_by-le-sum_by (λ y. cond (p y) 1 0) (λ y. cond (q y) 1 0) xs (λ y. one_no_more (p y) (q y) (more y)) in
    let none : one_if (p x) ≡ 0 = ap one_if fails in
    let one : one_if (q x) ≡ 1 = ap one_if passes in
    omega (arith, count-cons p x xs, count-cons q x xs, none, one, rest)
count_less p q (x ∷ xs) (suc i) d more lt fails passes =
    let rest = count_less p q xs i d more (omega arith) fails passes in
    omega (arith, count-cons p x xs, count-cons q x xs, rest, one_no_more (p x) (q x) (more x))

-- ---- the order

total : IsTotalOrder text_cmp
total = options_total nat_list_cmp_total

is_lt_Less : (r : Ordering) → is_lt r ≡ true → r ≡ Less
is_lt_Less Less e = refl
is_lt_Less Equal e = absurd cc
is_lt_Less Greater e = absurd cc

passes_later : (r s t : Option (List ℕ)) → text_cmp s t ≡ Less → comes_before r s ≡ true → comes_before r t ≡ true
passes_later r s t e h = ap is_lt (total.trans r s t (is_lt_Less (text_cmp r s) h) e)

exact : (s t : Option (List ℕ)) → text_cmp s t ≡ Equal → s ≡ t
exact None None e = refl
exact None (Some vs) e = absurd cc
exact (Some us) None e = absurd cc
exact (Some us) (Some vs) e = ap Some (exact_bytes us vs e)

-- ---- ranks tell texts apart

-- the text of an item of the pool
record IsIn (pool : List PoolItem) (text : Option (List ℕ)) : Type 0 where
  at : ℕ
  within : at < length pool
  is : text_of (get_or pool at Gap) ≡ text

less_rank : (pool : List PoolItem) (s t : Option (List ℕ)) → IsIn pool s → text_cmp s t ≡ Less → rank_of pool s < rank_of pool t
less_rank pool s t in_pool e =
    count_less (λ item. comes_before (text_of item) s) (λ item. comes_before (text_of item) t) pool in_pool.at Gap
    (λ item. passes_later (text_of item) s t e) in_pool.within
    (ap (λ r. comes_before r s) in_pool.is ∙ ap is_lt (tied_itself total s))
    (ap (λ r. comes_before r t) in_pool.is ∙ ap is_lt e)

same_text : (pool : List PoolItem) (s t : Option (List ℕ)) (r : Ordering) → text_cmp s t ≡ r → IsIn pool s → IsIn pool t → rank_of pool s ≡ rank_of pool t → s ≡ t
same_text pool s t Less e in_s in_t same = absurd (omega (arith, less_rank pool s t in_s e))
same_text pool s t Equal e in_s in_t same = exact s t e
same_text pool s t Greater e in_s in_t same = absurd (omega (arith, less_rank pool t s in_t (total.antisymm t s ∙ ap ordering_reverse e)))

module _ (pool : List PoolItem) (gap : slice_get pool 0 ≡ Some Gap) where
  stands : (i : ℕ) (o : Option PoolItem) → slice_get pool i ≡ o → IsIn pool (option_and_then text_of o)
  stands i None e = record { at = 0; within = slice_get_within pool 0 Gap gap; is = ap text_of (get_or_from_slice_get pool 0 Gap Gap gap) }
  stands i (Some item) e = record { at = i; within = slice_get_within pool i item e; is = ap text_of (get_or_from_slice_get pool i item Gap e) }

  pub rank_tells : (i j : ℕ) → rank_at pool i ≡ rank_at pool j → text_at pool i ≡ text_at pool j
  rank_tells i j same = same_text pool (text_at pool i) (text_at pool j) (text_cmp (text_at pool i) (text_at pool j)) refl (stands i (slice_get pool i) refl) (stands j (slice_get pool j) refl) same

  -- of an index whose rank is known
  pub tells : (i rank : ℕ) → rank ≡ rank_at pool i → (j : ℕ) → (rank ≡ rank_at pool j) ↔ (text_at pool i ≡ text_at pool j)
  tells i rank is j = (λ e. rank_tells i j (sym is ∙ e), λ e. is ∙ ap (rank_of pool) e)

  is_eq_is : (a b : ℕ) (r : Ordering) → nat_cmp a b ≡ r → is_eq r ≡ true → a ≡ b
  is_eq_is a b Less e h = absurd cc
  is_eq_is a b Equal e h = exact_unsigned a b e
  is_eq_is a b Greater e h = absurd cc

  -- two indices are of the same text exactly where their ranks are the same
  pub same_rank : (i j : ℕ) → is_eq (nat_cmp (rank_at pool i) (rank_at pool j)) ≡ is_same_text (text_at pool i) (text_at pool j)
  same_rank i j = same_tests _ _
      (λ e. subst (λ (t : Option (List ℕ)). is_same_text (text_at pool i) t ≡ true) (rank_tells i j (is_eq_is (rank_at pool i) (rank_at pool j) (nat_cmp (rank_at pool i) (rank_at pool j)) refl e)) (same_as_itself (text_at pool i)))
      (λ e. subst (λ (t : Option (List ℕ)). is_eq (nat_cmp (rank_at pool i) (rank_of pool t)) ≡ true) (same_is (text_at pool i) (text_at pool j) e) (ap is_eq (tied_itself nat_cmp_total (rank_at pool i))))

-- ---- ranks found among the sorted texts

pub on_units : (s t : Option (Bor (List ℕ))) → option_cmp (λ a b. slice_cmp nat_cmp a.now b.now) s t ≡ text_cmp (units s) (units t)
on_units None None = refl
on_units None (Some v) = refl
on_units (Some u) None = refl
on_units (Some u) (Some v) = refl

-- the order of indices by their texts
pub text_ranks : (pool : List PoolItem) → IsStrictWeakOrder (λ i j. is_lt (text_cmp (text_at pool i) (text_at pool j)))
text_ranks pool = ranks_by total (text_at pool)

pub text_there : (pool : List PoolItem) (i : ℕ) (d : PoolItem) → i < length pool → text_at pool i ≡ text_of (get_or pool i d)
text_there pool i d lt = ap (option_and_then text_of) (slice_get-get_or pool i d lt)

pub searched : (pool : List PoolItem) (sorted : List ℕ) (text : Option (List ℕ)) (n : ℕ) → n ≤ length sorted → IsPartitionPoint (λ i. comes_before (text_at pool i) text ≡ true) (λ i. comes_before (text_at pool i) text ≡ false) sorted n → n ≡ count_by (λ i. comes_before (text_at pool i) text) sorted
searched pool sorted text n le point = sym (count_to (λ i. comes_before (text_at pool i) text) sorted n le (λ k d lt. point.0 k d (omega arith) lt) (λ k d ge lt. point.1 k d ge lt))

pub rank_among : (pool : List PoolItem) (indices sorted : List ℕ) (text : Option (List ℕ)) → map (text_at pool) indices ≡ map text_of pool → IsPermutation indices sorted → count_by (λ i. comes_before (text_at pool i) text) sorted ≡ rank_of pool text
rank_among pool indices sorted text same moved =
    sum_by-IsPermutation (λ i. cond (comes_before (text_at pool i) text) 1 0) indices sorted moved
    ∙ count-map (λ t. comes_before t text) (text_at pool) indices ∙ ap (count_by (λ t. comes_before t text)) same ∙ sym (count-map (λ t. comes_before t text) text_of pool)

first_is_least : (r : Ordering) → ordering_index r ≤ 0 → is_lt r ≡ true
first_is_least Less le = refl
first_is_least Equal le = absurd (omega arith)
first_is_least Greater le = absurd (omega arith)

-- what stands before a text that comes before, comes before too
pub partitioned : (pool : List PoolItem) (sorted : List ℕ) (text : Option (List ℕ)) → IsSorted (λ i j. text_cmp (text_at pool i) (text_at pool j)) sorted → IsPartitionedBy (λ i. comes_before (text_at pool i) text) sorted
partitioned pool sorted text up i j d le lt e =
    let rises = searchable_from_sorted total (text_at pool) sorted text up i j d le lt in
    let least : ordering_index (text_cmp (text_at pool (get_or sorted j d)) text) ≡ 0 = ap ordering_index (is_lt_Less (text_cmp (text_at pool (get_or sorted j d)) text) e) in
    first_is_least (text_cmp (text_at pool (get_or sorted i d)) text) (omega (arith, rises, least))

-- ---- ranks kept for each index

none_before : (s : Option (List ℕ)) → comes_before s None ≡ false
none_before None = refl
none_before (Some us) = refl

nothing_before : (pool : List PoolItem) → rank_of pool None ≡ 0
nothing_before [] = refl
nothing_before (item ∷ pool) =
    let first : one_if (comes_before (text_of item) None) ≡ 0 = ap one_if (none_before (text_of item)) in
    omega (arith, count-cons (λ other. comes_before (text_of other) None) item pool, first, nothing_before pool)

kept : (pool : List PoolItem) (o : Option PoolItem) → unwrap_or (option_map (λ item. rank_of pool (text_of item)) o) 0 ≡ rank_of pool (option_and_then text_of o)
kept pool None = sym (nothing_before pool)
kept pool (Some item) = refl

pub rank_kept : (pool : List PoolItem) (ranks : List ℕ) (i : ℕ) → ranks ≡ map (λ item. rank_of pool (text_of item)) pool → unwrap_or (slice_get ranks i) 0 ≡ rank_at pool i
rank_kept pool ranks i is = ap (λ (xs : List ℕ). unwrap_or (slice_get xs i) 0) is ∙ ap (λ (o : Option ℕ). unwrap_or o 0) (slice_get-map (λ item. rank_of pool (text_of item)) pool i) ∙ kept pool (slice_get pool i)
