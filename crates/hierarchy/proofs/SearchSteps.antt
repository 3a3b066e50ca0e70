-- Steps of the search.
use Rattle.std.proofs.Common.{◌≡◌, ℕ, ◌+◌, ◌<◌, ◌≤◌, true, false, ◌⊎◌, inl, inr, cond, eqb, List, [], ◌∷◌, ◌++◌, length, slice_index, slice_set, sym, ◌∙◌, ap, subst, refl, arith, length-set, length-append, get_or-set_same, get_or-set_other}
use Rattle.std.specs.Prelude.{◌==◌}
use Rattle.std.specs.List.{Contains}
use Rattle.std.proofs.lemmas.Bool.{cases_eq, cases_lt}
use Rattle.std.proofs.lemmas.Bool.Decides.{nat_tests}
use Rattle.std.proofs.lemmas.List.Folds.{list_any-append}
use Rattle.std.proofs.lemmas.List.Sums.{sum_by-set}
use Rattle.std.proofs.lemmas.List.Elements.{Contains-get_or}
use Rattle.hierarchy.specs.Walks.{has}
use Rattle.hierarchy.specs.Steps.Marks.{unseen}
use Rattle.hierarchy.specs.Steps.Search.{Grows, Marked, Spread}
use Rattle.hierarchy.proofs.Tests.{or_left, or_right, or_split, equal_from, equal_to}

pub grows_none : (s t : List ℕ) → Grows s t s t
grows_none s t = record { same = refl; kept = λ x h. h; stays = λ x h. h; fresh = λ x h. inl h; less = omega arith }

pub grows_twice : (s t s2 t2 s3 t3 : List ℕ) → Grows s t s2 t2 → Grows s2 t2 s3 t3 → Grows s t s3 t3
grows_twice s t s2 t2 s3 t3 a b = record {
  same = b.same ∙ a.same;
  kept = λ x h. b.kept x (a.kept x h);
  stays = λ x h. b.stays x (a.stays x h);
  fresh = λ x h. elim (b.fresh x h) [ inl g ↦ elim (a.fresh x g) [ inl k ↦ inl k | inr k ↦ inr (b.stays x k) ] | inr g ↦ inr g ];
  less = let p = a.less in let q = b.less in omega arith;
}

pub has_last : (t : List ℕ) (m x : ℕ) → has (t ++ m ∷ []) x ≡ true → (has t x ≡ true) ⊎ (m ≡ x)
has_last t m x h = elim (or_split (has t x) (has (m ∷ []) x) (sym (list_any-append (λ y. y == x) t (m ∷ [])) ∙ h)) [
  | inl a ↦ inl a
  | inr b ↦ elim (or_split (m == x) false b) [ inl e ↦ inr (equal_from m x e) | inr e ↦ absurd cc ]
]

-- a new one is marked and put at the end
pub marked_new : (s t : List ℕ) (m : ℕ) → m < length s → slice_index s m ≡ 0 → Marked s t (slice_set s m 1) (t ++ m ∷ []) m
marked_new s t m inside new =
    let here : slice_index (slice_set s m 1) m ≡ 1 = get_or-set_same s m 1 0 inside in
    let last : has (t ++ m ∷ []) m ≡ true = list_any-append (λ y. y == m) t (m ∷ []) ∙ or_right (has t m) _ (or_left (m == m) false (equal_to m)) in
    record {
      grows = record {
        same = length-set s m 1;
        kept = λ x h. elim (cases_eq x m) [ inl e ↦ absurd (let z : slice_index s x ≡ 0 = ap (slice_index s) e ∙ new in omega arith) | inr ne ↦ let k = get_or-set_other s m x 1 0 ne in omega arith ];
        stays = λ x h. list_any-append (λ y. y == x) t (m ∷ []) ∙ or_left _ _ h;
        fresh = λ x h. elim (cases_eq x m) [ inl e ↦ inr (subst (λ z. has (t ++ m ∷ []) z ≡ true) (sym e) last) | inr ne ↦ inl (let k = get_or-set_other s m x 1 0 ne in omega arith) ];
        less = let l = length-append t (m ∷ []) in let u : unseen (slice_set s m 1) + 1 ≡ unseen s = grind (arith, nat_tests, sum_by-set (λ x. cond (eqb x 0) 1 0) s m 1 0 inside) in omega arith;
      };
      seen = omega arith;
      from = has_last t m;
    }

pub marked_old : (s t : List ℕ) (m : ℕ) → (slice_index s m ≡ 0 → ⊥) → Marked s t s t m
marked_old s t m old = record { grows = grows_none s t; seen = omega arith; from = λ x h. inl h }

pub spread_more : (row : List ℕ) (c : ℕ) (s t s2 t2 s3 t3 : List ℕ) (i : ℕ) → i < length row → (slice_index row i ≡ c → ⊥) → Marked s2 t2 s3 t3 (slice_index row i) → Spread row c s t s2 t2 i → Spread row c s t s3 t3 (i + 1)
spread_more row c s t s2 t2 s3 t3 i inside ne m f = record {
  grows = grows_twice s t s2 t2 s3 t3 f.grows m.grows;
  seen = λ j h. elim (cases_lt j i) [
    | inl l ↦ (m.grows.kept (slice_index row j) (f.seen j l).0, (f.seen j l).1)
    | inr l ↦ let e : j ≡ i = omega arith in
        (subst (λ z. 1 ≤ slice_index s3 (slice_index row z)) (sym e) m.seen, λ q. ne (ap (slice_index row) (sym e) ∙ q))
  ];
  from = λ x h. elim (m.from x h) [ inl a ↦ f.from x a | inr e ↦ inr (subst (Contains row) e (Contains-get_or row i 0 inside)) ];
}

pub spread_none : (row : List ℕ) (c : ℕ) (s t : List ℕ) → Spread row c s t s t 0
spread_none row c s t = record { grows = grows_none s t; seen = λ j h. absurd (omega arith); from = λ x h. inl h }

pub has_front : (t : List ℕ) (m x : ℕ) → has t x ≡ true → has (t ++ m ∷ []) x ≡ true
has_front t m x h = list_any-append (λ y. y == x) t (m ∷ []) ∙ or_left _ _ h

pub has_back : (t : List ℕ) (m : ℕ) → has (t ++ m ∷ []) m ≡ true
has_back t m = list_any-append (λ y. y == m) t (m ∷ []) ∙ or_right (has t m) _ (or_left (m == m) false (equal_to m))
