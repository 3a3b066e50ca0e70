-- What the search has reached.
use Rattle.std.proofs.Common.{◌≡◌, ℕ, ◌<◌, ◌≤◌, true, false, ◌⊎◌, inl, inr, List, [], ◌∷◌, ◌++◌, length, slice_index, sym, ◌∙◌, ap, subst, refl, arith}
use Rattle.std.specs.List.{Contains}
use Rattle.std.proofs.lemmas.List.{get_or_default}
use Rattle.hierarchy.specs.Hierarchy.{row_of, Under, IsWithin}
use Rattle.hierarchy.specs.Hierarchy.Under.{directly, over}
use Rattle.hierarchy.specs.Walks.{has}
use Rattle.hierarchy.specs.Loops.{on_loop}
use Rattle.hierarchy.proofs.Tests.{not_true}
use Rattle.hierarchy.proofs.Under.{then, under_in}
use Rattle.hierarchy.proofs.LoopLaws.{under_loop, loop_under}
use Rattle.hierarchy.specs.Steps.Search.{Spread, Reached}
use Rattle.hierarchy.proofs.SearchSteps.{has_last, has_front, has_back}

-- one step from what was reached
pub reach_one : (rows : List (List ℕ)) (c k x : ℕ) → (k ≡ c) ⊎ Under rows c k → Contains (row_of rows k) x → Under rows c x
reach_one rows c k x h w = elim h [ inl e ↦ subst (λ z. Under rows z x) e (directly w) | inr u ↦ then rows c k x u w ]

pub reached_more : (rows : List (List ℕ)) (c k : ℕ) (row s t told s2 t2 : List ℕ) → row ≡ row_of rows k → told ≡ t ++ k ∷ [] → Reached rows c s told → Spread row c s t s2 t2 (length row) → Reached rows c s2 t2
reached_more rows c k row s t told s2 t2 er et r f = record {
  same = f.grows.same ∙ r.same;
  sound = λ x h. elim (f.from x h) [
    | inl a ↦ r.sound x (subst (λ z. has z x ≡ true) (sym et) (has_front t k x a))
    | inr w ↦
        let last : has told k ≡ true = subst (λ z. has z k ≡ true) (sym et) (has_back t k) in
        inr (reach_one rows c k x (r.sound k last) (subst (λ z. Contains z x) er w))
  ];
  closed = λ x h.
      let old : (x ≡ c) ⊎ (1 ≤ slice_index s x) → (has t2 x ≡ true) ⊎ ((m : ℕ) → Contains (row_of rows x) m → (1 ≤ slice_index s2 m) × (m ≡ c → ⊥)) =
      λ g. elim (r.closed x g) [
        | inl there ↦ elim (has_last t k x (subst (λ z. has z x ≡ true) et there)) [
          | inl still ↦ inl (f.grows.stays x still)
          | inr e ↦ inr (λ m w.
              let w2 : Contains row m = subst (λ z. Contains z m) (ap (row_of rows) (sym e) ∙ sym er) w in
              let at : slice_index row w2.0 ≡ m = get_or_default row w2.0 0 m w2.1 ∙ w2.2 in
              let q = f.seen w2.0 w2.1 in
              (subst (λ z. 1 ≤ slice_index s2 z) at q.0, λ p. q.1 (at ∙ p)))
        ]
        | inr all ↦ inr (λ m w. let q = all m w in (f.grows.kept m q.0, q.1))
      ] in
      elim h [
        | inl e ↦ old (inl e)
        | inr g ↦ elim (f.grows.fresh x g) [ inl a ↦ old (inr a) | inr a ↦ inl a ]
      ];
}

pub reached_first : (rows : List (List ℕ)) (c : ℕ) (s : List ℕ) → length s ≡ length rows → ((x : ℕ) → slice_index s x ≡ 0) → Reached rows c s (c ∷ [])
reached_first rows c s e z = record {
  same = e;
  sound = λ k h. elim (has_last [] c k h) [ inl a ↦ absurd cc | inr q ↦ inl (sym q) ];
  closed = λ x h. elim h [ inl q ↦ inl (subst (λ z. has (c ∷ []) z ≡ true) (sym q) (has_back [] c)) | inr l ↦ absurd (let n = z x in omega arith) ];
}

all_seen : (rows : List (List ℕ)) (c : ℕ) (s : List ℕ) → Reached rows c s [] → (x d : ℕ) → (x ≡ c) ⊎ (1 ≤ slice_index s x) → Under rows x d → (d ≡ c → ⊥)
all_seen rows c s r x d h (directly w) = elim (r.closed x h) [ inl a ↦ absurd cc | inr all ↦ (all d w).1 ]
all_seen rows c s r x d h (over {k} w u) = elim (r.closed x h) [ inl a ↦ absurd cc | inr all ↦ all_seen rows c s r k d (inr (all k w).0) u ]

pub not_on_loop : (rows : List (List ℕ)) (c : ℕ) (s : List ℕ) → Reached rows c s [] → on_loop rows c ≡ false
not_on_loop rows c s r = not_true (on_loop rows c) (λ e. all_seen rows c s r c c (inl refl) (loop_under rows c e) refl)

pub is_on_loop_by : (rows : List (List ℕ)) (c k : ℕ) (row s t told : List ℕ) → IsWithin rows → row ≡ row_of rows k → told ≡ t ++ k ∷ [] → Reached rows c s told → Contains row c → on_loop rows c ≡ true
is_on_loop_by rows c k row s t told within er et r w =
    let last : has told k ≡ true = subst (λ z. has z k ≡ true) (sym et) (has_back t k) in
    under_loop rows c within (reach_one rows c k c (r.sound k last) (subst (λ z. Contains z c) er w))

pub popped_in : (rows : List (List ℕ)) (c k : ℕ) (s t told : List ℕ) → IsWithin rows → c < length rows → told ≡ t ++ k ∷ [] → Reached rows c s told → k < length rows
popped_in rows c k s t told within inside et r =
    elim (r.sound k (subst (λ z. has z k ≡ true) (sym et) (has_back t k))) [ inl e ↦ subst (λ z. z < length rows) (sym e) inside | inr u ↦ under_in rows c k within u ]
