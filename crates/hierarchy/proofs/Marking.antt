-- Marks of what a list has.
use Rattle.std.proofs.Common.{◌≡◌, ℕ, ◌+◌, ◌<◌, ◌≤◌, Bool, true, false, ◌||◌, ◌==◌, List, [], ◌∷◌, ◌++◌, length, drop, slice_index, slice_index_or, slice_set, inl, inr, refl, sym, ap, subst, ◌∙◌, arith, length-set, get_or-set_same, get_or-set_other}
use Rattle.std.specs.Prelude.{if◌then◌else◌}
use Rattle.std.specs.List.{All, flat_map}
use Rattle.std.proofs.lemmas.Bool.{cases_eq}
use Rattle.std.proofs.lemmas.Bool.Decides.{nat_tests}
use Rattle.std.proofs.lemmas.List.{at_drop_more, at_drop_all}
use Rattle.hierarchy.specs.Walks.{has, add_one, add_new}
use Rattle.hierarchy.specs.Steps.Filled.{is_seen, AreUnseen, AreMarked, Adds, AddsAll}
use Rattle.hierarchy.proofs.Tests.{or_right, or_false, has_append, equal_to}

unequal : (a b : ℕ) → (a ≡ b → ⊥) → (b == a) ≡ false
unequal a b h = grind (arith, nat_tests)

-- a number that is there isn't added
pub adds_old : (seen : List Bool) (all : List ℕ) (x : ℕ) → x < length seen → AreMarked seen all → is_seen seen x ≡ true → Adds seen seen all all x
adds_old seen all x h m e = record { added = ap (λ b. if b then all else all ++ x ∷ []) (sym (sym (m x h) ∙ e)); marked = m }

-- a number that isn't is
pub adds_new : (seen : List Bool) (all all2 : List ℕ) (x : ℕ) → x < length seen → AreMarked seen all → is_seen seen x ≡ false → all2 ≡ all ++ x ∷ [] → Adds seen (slice_set seen x true) all all2 x
adds_new seen all all2 x h m e pushed =
    let lacks : has all x ≡ false = sym (m x h) ∙ e in
    let grown : (d : ℕ) → d < length (slice_set seen x true) → is_seen (slice_set seen x true) d ≡ has (all ++ x ∷ []) d = λ d l. elim (cases_eq d x) [
      | inl s ↦
          let here : is_seen (slice_set seen x true) d ≡ true = ap (is_seen (slice_set seen x true)) s ∙ get_or-set_same seen x true false h in
          let last : has (all ++ x ∷ []) d ≡ true = has_append all (x ∷ []) d ∙ or_right (has all d) _ (ap (λ z. (x == z) || false) s ∙ sym (or_false (x == x)) ∙ equal_to x) in
          here ∙ sym last
      | inr ne ↦
          let old : is_seen (slice_set seen x true) d ≡ is_seen seen d = get_or-set_other seen x d true false ne in
          let n = length-set seen x true in
          let within : d < length seen = omega arith in
          let still : has (all ++ x ∷ []) d ≡ has all d = has_append all (x ∷ []) d ∙ ap (λ z. has all d || (z || false)) (unequal d x ne) ∙ sym (or_false (has all d)) in
          old ∙ m d within ∙ sym still
    ] in
    record {
      added = pushed ∙ ap (λ b. if b then all else all ++ x ∷ []) (sym lacks);
      marked = subst (AreMarked (slice_set seen x true)) (sym pushed) grown;
    }

-- the adding of several, of which the first were added
pub record Adding (seen : List Bool) (all0 all more : List ℕ) (index : ℕ) : Type 0 where
  pub left : add_new all0 more ≡ add_new all (drop index more)
  pub marked : AreMarked seen all

-- one more was added
pub adding_more : (seen seen2 : List Bool) (all0 all all2 more : List ℕ) (i : ℕ) → i < length more → Adds seen seen2 all all2 (slice_index more i) → Adding seen all0 all more i → Adding seen2 all0 all2 more (i + 1)
adding_more seen seen2 all0 all all2 more i h a s = record {
  left = s.left ∙ at_drop_more (add_new all) more i 0 h ∙ ap (λ z. add_new z (drop (i + 1) more)) (sym a.added);
  marked = a.marked;
}

-- all were
pub adding_done : (seen0 seen : List Bool) (all0 all more : List ℕ) (i : ℕ) → length more ≤ i → Adding seen all0 all more i → AddsAll seen0 seen all0 all more
adding_done seen0 seen all0 all more i h s = record { added = sym (s.left ∙ at_drop_all (add_new all) more i h); marked = s.marked }

-- what is left to clear
abbrev pub Clearing : List Bool → List ℕ → ℕ → Type 0
Clearing seen all index = (d : ℕ) → is_seen seen d ≡ true → has (drop index all) d ≡ true

-- one more is cleared
pub clearing_more : (seen : List Bool) (all : List ℕ) (i : ℕ) → i < length all → slice_index all i < length seen → Clearing seen all i → Clearing (slice_set seen (slice_index all i) false) all (i + 1)
clearing_more seen all i h inside s d e = elim (cases_eq d (slice_index all i)) [
  | inl q ↦
      let none : is_seen (slice_set seen (slice_index all i) false) d ≡ false = ap (is_seen (slice_set seen (slice_index all i) false)) q ∙ get_or-set_same seen (slice_index all i) false false inside in
      absurd (let no : true ≡ false = sym e ∙ none in cc)
  | inr ne ↦
      let old : is_seen seen d ≡ true = sym (get_or-set_other seen (slice_index all i) d false false ne) ∙ e in
      let there : has (slice_index all i ∷ drop (i + 1) all) d ≡ true = sym (at_drop_more (λ z. has z d) all i 0 h) ∙ s d old in
      sym (ap (λ b. b || has (drop (i + 1) all) d) (unequal d (slice_index all i) ne)) ∙ there
]

-- nothing is left to clear
pub clearing_done : (seen : List Bool) (all : List ℕ) (i : ℕ) → length all ≤ i → Clearing seen all i → AreUnseen seen
clearing_done seen all i h s d = by (is_seen seen d) refl
  where
    by : (b : Bool) → is_seen seen d ≡ b → is_seen seen d ≡ false
    by true e = absurd (let no : false ≡ true = sym (at_drop_all (λ z. has z d) all i h) ∙ s d e in cc)
    by false e = e
