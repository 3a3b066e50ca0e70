-- That as many steps as there are numbers reach all that lies above a number.
use Rattle.std.proofs.Common.{◌≡◌, ℕ, zero, suc, ◌+◌, ◌<◌, ◌≤◌, Bool, true, false, ◌⊎◌, inl, inr, List, [], ◌∷◌, length, sym, ◌∙◌, ap, subst, refl, arith}
use Rattle.std.specs.Prelude.{◌==◌, if◌then◌else◌}
use Rattle.std.specs.List.{Contains, flat_map}
use Rattle.std.proofs.lemmas.Bool.{cases_lt, cases_eq}
use Rattle.std.proofs.lemmas.List.Folds.{list_any-append}
use Rattle.std.proofs.Common.{map, slice_index}
use Rattle.std.specs.List.{range_with_len}
use Rattle.std.proofs.lemmas.List.FromFn.{get_or-map-range_with_len, length-map-range_with_len}
use Rattle.std.proofs.lemmas.List.{get_or_past}
use Rattle.hierarchy.specs.Hierarchy.{row_of, Under, IsWithin, IsRanked}
use Rattle.hierarchy.specs.Hierarchy.Under.{directly, over as further}
use Rattle.hierarchy.specs.Walks.{walk, has}
use Rattle.hierarchy.specs.Loops.{above_by, on_loop}
use Rattle.hierarchy.proofs.Tests.{or_split, or_left, or_right, equal_from, equal_to}
use Rattle.hierarchy.proofs.Under.{above_in}

-- what a list of lists has
pub has_some : (f : ℕ → List ℕ) (xs : List ℕ) (d : ℕ) → has (flat_map f xs) d ≡ true → (k : ℕ) × (Contains xs k × (has (f k) d ≡ true))
has_some f [] d e = absurd cc
has_some f (x ∷ xs) d e = elim (or_split (has (f x) d) (has (flat_map f xs) d) (sym (list_any-append (λ y. y == d) (f x) (flat_map f xs)) ∙ e)) [
  | inl h ↦ (x, ((0, omega arith, refl), h))
  | inr h ↦ let r = has_some f xs d h in (r.0, ((suc r.1.0.0, (let l = r.1.0.1 in omega arith), r.1.0.2), r.1.1))
]

pub has_in : (f : ℕ → List ℕ) (xs : List ℕ) (d k : ℕ) → Contains xs k → has (f k) d ≡ true → has (flat_map f xs) d ≡ true
has_in f [] d k w h = absurd (let l = w.1 in omega arith)
has_in f (x ∷ xs) d k (zero, l, e) h = list_any-append (λ y. y == d) (f x) (flat_map f xs) ∙ or_left _ _ (ap (λ z. has (f z) d) e ∙ h)
has_in f (x ∷ xs) d k (suc i, l, e) h = list_any-append (λ y. y == d) (f x) (flat_map f xs) ∙ or_right (has (f x) d) _ (has_in f xs d k (i, omega arith, e) h)

-- one step, then at most n
over_step : (n : ℕ) (rows : List (List ℕ)) (c k d : ℕ) → Contains (row_of rows c) k → (k ≡ d) ⊎ (has (above_by n rows k) d ≡ true) → has (above_by (suc n) rows c) d ≡ true
unfolding above_by walk
over_step n rows c k d w h = has_in (walk (suc n) rows) (row_of rows c) d k w (elim h [
  | inl e ↦ or_left (k == d) _ (subst (λ z. (k == z) ≡ true) e (equal_to k))
  | inr r ↦ or_right (k == d) _ r
])

over_first : (n : ℕ) (rows : List (List ℕ)) (c d : ℕ) → has (above_by (suc n) rows c) d ≡ true → (k : ℕ) × (Contains (row_of rows c) k × ((k ≡ d) ⊎ (has (above_by n rows k) d ≡ true)))
unfolding above_by walk
over_first n rows c d e =
    let r = has_some (walk (suc n) rows) (row_of rows c) d e in
    (r.0, (r.1.0, elim (or_split (r.0 == d) (has (above_by n rows r.0) d) r.1.1) [ inl h ↦ inl (equal_from r.0 d h) | inr h ↦ inr h ]))

over_zero : (rows : List (List ℕ)) (c d : ℕ) → has (above_by 0 rows c) d ≡ true → ⊥
unfolding above_by walk
over_zero rows c d e = let r = has_some (walk 0 rows) (row_of rows c) d e in let h = r.1.1 in cc

-- what is reached lies above
pub over_under : (n : ℕ) (rows : List (List ℕ)) (c d : ℕ) → has (above_by n rows c) d ≡ true → Under rows c d
over_under zero rows c d e = absurd (over_zero rows c d e)
over_under (suc n) rows c d e =
    let r = over_first n rows c d e in
    elim r.1.1 [ inl s ↦ directly (subst (λ z. Contains (row_of rows c) z) s r.1.0) | inr h ↦ further r.1.0 (over_under n rows r.0 d h) ]

over_more : (n : ℕ) (rows : List (List ℕ)) (c d : ℕ) → has (above_by n rows c) d ≡ true → has (above_by (suc n) rows c) d ≡ true
over_more zero rows c d e = absurd (over_zero rows c d e)
over_more (suc n) rows c d e =
    let r = over_first n rows c d e in
    over_step (suc n) rows c r.0 d r.1.0 (elim r.1.1 [ inl s ↦ inl s | inr h ↦ inr (over_more n rows r.0 d h) ])

-- how many numbers below m pass
count_to : (ℕ → Bool) → ℕ → ℕ
count_to p zero = 0
count_to p (suc m) = (if p m then 1 else 0) + count_to p m

Sub : (ℕ → Bool) → (ℕ → Bool) → ℕ → Type 0
Sub p q m = (c : ℕ) → c < m → p c ≡ true → q c ≡ true

one_le : (a b : Bool) → (a ≡ true → b ≡ true) → (if a then 1 else 0) ≤ (if b then 1 else 0)
one_le true b h = rw (h refl) (omega arith)
one_le false b h = omega arith

count_le : (p q : ℕ → Bool) (m : ℕ) → Sub p q m → count_to p m ≤ count_to q m
unfolding count_to Sub
count_le p q zero h = omega arith
count_le p q (suc m) h = let a = one_le (p m) (q m) (h m (omega arith)) in let b = count_le p q m (λ c l. h c (omega arith)) in omega arith

one_same : (a b : Bool) → (if b then 1 else 0) ≤ (if a then 1 else 0) → b ≡ true → a ≡ true
one_same true b h e = refl
one_same false true h e = absurd (omega arith)
one_same false false h e = e

count_same : (p q : ℕ → Bool) (m : ℕ) → Sub p q m → count_to q m ≤ count_to p m → Sub q p m
unfolding count_to Sub
count_same p q zero h e c l t = absurd (omega arith)
count_same p q (suc m) h e c l t =
    let a = one_le (p m) (q m) (h m (omega arith)) in
    let b = count_le p q m (λ c l. h c (omega arith)) in
    elim (cases_eq c m) [
      | inl s ↦ ap p s ∙ one_same (p m) (q m) (omega arith) (ap q (sym s) ∙ t)
      | inr ne ↦ count_same p q m (λ c l. h c (omega arith)) (omega arith) c (omega arith) t
    ]

one_most : (a : Bool) → (if a then 1 else 0) ≤ 1
one_most true = omega arith
one_most false = omega arith

count_most : (p : ℕ → Bool) (m : ℕ) → count_to p m ≤ m
unfolding count_to
count_most p zero = omega arith
count_most p (suc m) = let a = one_most (p m) in let b = count_most p m in omega arith

all_count : (p : ℕ → Bool) (m : ℕ) → m ≤ count_to p m → (c : ℕ) → c < m → p c ≡ true
unfolding Sub
all_count p m h c l = count_same p (λ x. true) m (λ c l e. refl) (let t = count_most (λ x. true) m in omega arith) c l refl

-- no step more reaches more
Closed : ℕ → List (List ℕ) → ℕ → Type 0
Closed n rows d = (c : ℕ) → c < length rows → has (above_by (suc n) rows c) d ≡ true → has (above_by n rows c) d ≡ true

closed_more : (n : ℕ) (rows : List (List ℕ)) (d : ℕ) → IsWithin rows → Closed n rows d → Closed (suc n) rows d
unfolding Closed
closed_more n rows d within h c l e =
    let r = over_first (suc n) rows c d e in
    over_step n rows c r.0 d r.1.0 (elim r.1.1 [ inl s ↦ inl s | inr t ↦ inr (h r.0 (above_in rows c r.0 within r.1.0).1 t) ])

closed_here : (n : ℕ) (rows : List (List ℕ)) (d : ℕ) → count_to (λ c. has (above_by (suc n) rows c) d) (length rows) ≤ count_to (λ c. has (above_by n rows c) d) (length rows) → Closed n rows d
unfolding Closed Sub
closed_here n rows d same = count_same (λ c. has (above_by n rows c) d) (λ c. has (above_by (suc n) rows c) d) (length rows) (λ c l. over_more n rows c d) same

-- either nothing more is reached, or there are at least n that reach d
closed_or_many : (n : ℕ) (rows : List (List ℕ)) (d : ℕ) → IsWithin rows → Closed n rows d ⊎ (n ≤ count_to (λ c. has (above_by n rows c) d) (length rows))
closed_or_many zero rows d within = inr (omega arith)
closed_or_many (suc n) rows d within = elim (closed_or_many n rows d within) [
  | inl h ↦ inl (closed_more n rows d within h)
  | inr many ↦ elim (cases_lt (count_to (λ c. has (above_by n rows c) d) (length rows)) (count_to (λ c. has (above_by (suc n) rows c) d) (length rows))) [
    | inl less ↦ inr (omega arith)
    | inr same ↦ inl (closed_more n rows d within (closed_here n rows d same))
  ]
]

closed_always : (rows : List (List ℕ)) (d : ℕ) → IsWithin rows → Closed (length rows) rows d
unfolding Closed
closed_always rows d within c l e = elim (closed_or_many (length rows) rows d within) [
  | inl h ↦ h c l e
  | inr many ↦ all_count (λ c. has (above_by (length rows) rows c) d) (length rows) many c l
]

under_over : (rows : List (List ℕ)) (c d : ℕ) → IsWithin rows → Under rows c d → has (above_by (length rows) rows c) d ≡ true
unfolding Closed
under_over rows c d within (directly w) = closed_always rows d within c (above_in rows c d within w).0 (over_step (length rows) rows c d d w (inl refl))
under_over rows c d within (further {k} w u) = closed_always rows d within c (above_in rows c k within w).0 (over_step (length rows) rows c k d w (inr (under_over rows k d within u)))

-- a number is on a loop exactly where it lies above itself
pub loop_under : (rows : List (List ℕ)) (c : ℕ) → on_loop rows c ≡ true → Under rows c c
unfolding on_loop
loop_under rows c e = over_under (length rows) rows c c e

pub under_loop : (rows : List (List ℕ)) (c : ℕ) → IsWithin rows → Under rows c c → on_loop rows c ≡ true
unfolding on_loop
under_loop rows c within u = under_over rows c c within u

-- how many numbers lie above a number
pub rank_by : List (List ℕ) → ℕ → ℕ
rank_by rows c = count_to (λ d. has (above_by (length rows) rows c) d) (length rows)

-- more lie above a number than above one directly above it
rank_falls : (rows : List (List ℕ)) (c k : ℕ) → IsWithin rows → ((d : ℕ) → Under rows d d → ⊥) → Contains (row_of rows c) k → rank_by rows k < rank_by rows c
unfolding Sub rank_by
rank_falls rows c k within apart w =
    let n = length rows in
    let p : ℕ → Bool = λ d. has (above_by n rows k) d in
    let q : ℕ → Bool = λ d. has (above_by n rows c) d in
    let more : Sub p q n = λ d l e. under_over rows c d within (further w (over_under n rows k d e)) in
    elim (cases_lt (count_to p n) (count_to q n)) [
      | inl less ↦ less
      | inr same ↦ absurd (apart k (over_under n rows k k (count_same p q n more same k (above_in rows c k within w).1 (under_over rows c k within (directly w)))))
    ]

-- where nothing lies above itself, these are ranks
pub there_are_ranks : (rows : List (List ℕ)) → IsWithin rows → ((d : ℕ) → Under rows d d → ⊥) → IsRanked rows (map (rank_by rows) (range_with_len 0 (length rows)))
unfolding rank_by
there_are_ranks rows within apart =
    let n = length rows in
    let ranks = map (rank_by rows) (range_with_len 0 n) in
    let at : (c : ℕ) → c < n → slice_index ranks c ≡ rank_by rows c = λ c h. get_or-map-range_with_len (rank_by rows) 0 n c c 0 h (omega arith) in
    let all : length ranks ≡ n = length-map-range_with_len (rank_by rows) 0 n in
    record {
      all = all;
      falls = λ c k w.
          let both = above_in rows c k within w in
          let a = at c both.0 in
          let b = at k both.1 in
          let f = rank_falls rows c k within apart w in
          omega arith;
      most = λ c. elim (cases_lt c n) [
        | inl h ↦ let a = at c h in let m = count_most (λ d. has (above_by n rows c) d) n in let r : rank_by rows c ≤ n = m in omega arith
        | inr h ↦ let a : slice_index ranks c ≡ 0 = get_or_past ranks c 0 (omega arith) in omega arith
      ];
    }
