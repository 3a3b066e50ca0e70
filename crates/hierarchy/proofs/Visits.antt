-- Steps of the walk.
use Rattle.std.proofs.Common.{◌≡◌, ℕ, ◌+◌, ◌<◌, ◌≤◌, inl, inr, List, length, slice_index, slice_set, get_or-set_same, get_or-set_other, sym, ◌∙◌, ap, subst, arith, cond, eqb, refl, length-set}
use Rattle.std.specs.List.{Contains}
use Rattle.std.proofs.lemmas.List.Sums.{sum_by-set}
use Rattle.std.proofs.lemmas.List.{get_or_default}
use Rattle.std.proofs.lemmas.Bool.Decides.{nat_tests}
use Rattle.std.proofs.lemmas.Bool.{cases_eq}
use Rattle.hierarchy.specs.Hierarchy.{row_of, Under}
use Rattle.hierarchy.specs.Hierarchy.Under.{directly}
use Rattle.hierarchy.proofs.Under.{then}
use Rattle.hierarchy.specs.Steps.Marks.{AreDone, Leads, Grew, unseen}

same_at : (m : List ℕ) (c v : ℕ) → c < length m → slice_index (slice_set m c v) c ≡ v
same_at m c v h = get_or-set_same m c v 0 h

other_at : (m : List ℕ) (c v k : ℕ) → (k ≡ c → ⊥) → slice_index (slice_set m c v) k ≡ slice_index m k
other_at m c v k ne = rw get_or-set_other refl

-- after c was put on the way, what is on the way leads to all that stands in c's row
pub leads_on : (rows : List (List ℕ)) (old m : List ℕ) (c x : ℕ) → c < length old → Leads rows old c → Grew (slice_set old c 1) m → Contains (row_of rows c) x → (g : ℕ) → slice_index m g ≡ 1 → Under rows g x
leads_on rows old m c x inside ways grew h g e =
    elim (cases_eq g c) [
      | inl s ↦ subst (λ z. Under rows z x) (sym s) (directly h)
      | inr ne ↦ then rows g c x (ways.way g (sym (other_at old c 1 g ne) ∙ grew.back g e)) h
    ]

-- a mark that changes from 0 is one fewer unseen
pub seen_one : (m : List ℕ) (c v : ℕ) → c < length m → slice_index m c ≡ 0 → 0 < v → unseen (slice_set m c v) + 1 ≡ unseen m
seen_one m c v h e p = grind (arith, nat_tests, sum_by-set (λ x. cond (eqb x 0) 1 0) m c v 0 h)

pub seen_still : (m : List ℕ) (c v : ℕ) → c < length m → slice_index m c ≡ 1 → 0 < v → unseen (slice_set m c v) ≡ unseen m
seen_still m c v h e p = grind (arith, nat_tests, sum_by-set (λ x. cond (eqb x 0) 1 0) m c v 0 h)

-- the numbers of a row by their places
pub from_places : (m row : List ℕ) → ((i : ℕ) → i < length row → 2 ≤ slice_index m (slice_index row i)) → (k : ℕ) → Contains row k → 2 ≤ slice_index m k
from_places m row h k w =
    let e : slice_index row w.0 ≡ k = get_or_default row w.0 0 k w.1 ∙ w.2 in
    subst (λ z. 2 ≤ slice_index m z) e (h w.0 w.1)

-- c is done once all in its row are
pub done_one : (rows : List (List ℕ)) (m : List ℕ) (c next : ℕ) → c < length m → slice_index m c ≡ 1 → AreDone rows m next → ((k : ℕ) → Contains (row_of rows c) k → 2 ≤ slice_index m k) → AreDone rows (slice_set m c (next + 1)) (next + 1)
done_one rows m c next inside here done all = record {
  falls = λ d k h w.
      elim (cases_eq d c) [
        | inl s ↦
            let w2 : Contains (row_of rows c) k = subst (λ z. Contains (row_of rows z) k) s w in
            let two = all k w2 in
            let ne : k ≡ c → ⊥ = λ q. let q2 : slice_index m k ≡ 1 = ap (slice_index m) q ∙ here in omega arith in
            let e = other_at m c (next + 1) k ne in
            let f : slice_index (slice_set m c (next + 1)) d ≡ next + 1 = ap (slice_index (slice_set m c (next + 1))) s ∙ same_at m c (next + 1) inside in
            let most = done.most k in
            (omega arith, omega arith)
        | inr ne ↦
            let e = other_at m c (next + 1) d ne in
            let h2 : 2 ≤ slice_index m d = omega arith in
            let fall = done.falls d k h2 w in
            let ne2 : k ≡ c → ⊥ = λ q. let q2 : slice_index m k ≡ 1 = ap (slice_index m) q ∙ here in let f0 = fall.0 in omega arith in
            let e2 = other_at m c (next + 1) k ne2 in
            let f0 = fall.0 in let f1 = fall.1 in
            (omega arith, omega arith)
      ];
  most = λ d. elim (cases_eq d c) [
    | inl s ↦ let f : slice_index (slice_set m c (next + 1)) d ≡ next + 1 = ap (slice_index (slice_set m c (next + 1))) s ∙ same_at m c (next + 1) inside in omega arith
    | inr ne ↦ let e = other_at m c (next + 1) d ne in let most = done.most d in omega arith
  ];
  some = omega arith;
}

-- the marks grew over the whole visit of c
pub grew_over : (old m : List ℕ) (c v : ℕ) → c < length old → slice_index old c ≡ 0 → 2 ≤ v → Grew (slice_set old c 1) m → Grew old (slice_set m c v)
grew_over old m c v inside new two grew =
    let len : length m ≡ length old = grew.same ∙ length-set old c 1 in
    let at : slice_index (slice_set m c v) c ≡ v = same_at m c v (omega arith) in
    record {
      same = length-set m c v ∙ len;
      still = λ g e. elim (cases_eq g c) [
        | inl s ↦ let z : slice_index old g ≡ 0 = ap (slice_index old) s ∙ new in absurd (omega arith)
        | inr ne ↦ other_at m c v g ne ∙ grew.still g (other_at old c 1 g ne ∙ e)
      ];
      back = λ g e. elim (cases_eq g c) [
        | inl s ↦ let z : slice_index (slice_set m c v) g ≡ v = ap (slice_index (slice_set m c v)) s ∙ at in absurd (omega arith)
        | inr ne ↦ sym (other_at old c 1 g ne) ∙ grew.back g (sym (other_at m c v g ne) ∙ e)
      ];
      kept = λ d h. elim (cases_eq d c) [
        | inl s ↦ let z : slice_index old d ≡ 0 = ap (slice_index old) s ∙ new in absurd (omega arith)
        | inr ne ↦ let q = other_at old c 1 d ne in let h2 : 2 ≤ slice_index (slice_set old c 1) d = omega arith in other_at m c v d ne ∙ grew.kept d h2 ∙ q
      ];
    }
