-- The first request for a monitor is the one at its first place.
use Rattle.std.proofs.Common.{rules, ◌≡◌, ◌∙◌, sym, refl, ap, ℕ, suc, ◌+◌, arith, true, false, nat_lt, List, [], ◌∷◌, length, Some, None, inl, inr, ◌⊎◌}
use Rattle.std.specs.Prelude.{slice_get}
use Rattle.std.specs.List.{remove, position, position_or_len}
use Rattle.std.proofs.lemmas.Bool.{cases_Bool}
use Rattle.std.proofs.lemmas.Option.{slice_get_past}
use Rattle.jvm_base.specs.declared.name.Name.{Name}
use Rattle.cluster_monitor.specs.declared.monitors.Request.{Request}
use Rattle.cluster_monitor.specs.Monitors.{is_for, first_for, without_first, IsFirstAt}

-- one place further on in a longer list
get_more : {A : Type 0} (x : A) (xs : List A) (i : ℕ) → slice_get (x ∷ xs) (1 + i) ≡ slice_get xs i
get_more x xs i = let e : 1 + i ≡ suc i = omega arith in rw e refl

-- likewise without the item there
remove_more : {A : Type 0} (x : A) (xs : List A) (i : ℕ) → remove (x ∷ xs) (1 + i) ≡ x ∷ remove xs i
remove_more x xs i = let e : 1 + i ≡ suc i = omega arith in rw e refl

-- what is there, or nothing where no request is for the monitor
first_there : (n : Name) (qs : List Request) → first_for n qs ≡ slice_get qs (position_or_len (is_for n) qs)
first_there n [] = refl
first_there n (q ∷ qs) = elim (cases_Bool (is_for n q)) [ inl h ↦ rw h refl | inr h ↦ rw h (first_there n qs ∙ sym (get_more q qs _)) ]

-- what is left
rest_there : (n : Name) (qs : List Request) → without_first n qs ≡ remove qs (position_or_len (is_for n) qs)
rest_there n [] = refl
rest_there n (q ∷ qs) = elim (cases_Bool (is_for n q)) [ inl h ↦ rw h refl | inr h ↦ rw h (ap (λ rest. q ∷ rest) (rest_there n qs) ∙ sym (remove_more q qs _)) ]

-- nothing is past the end
past : {A : Type 0} (xs : List A) (i : ℕ) → nat_lt i (length xs) ≡ false → slice_get xs i ≡ None
past xs i e = slice_get_past xs i (search rules)

-- a first place
pub is_first_at : (n : Name) (qs : List Request) (i : ℕ) → position (is_for n) qs ≡ Some i → IsFirstAt n qs i
is_first_at n qs i e = go (cases_Bool (nat_lt (position_or_len (is_for n) qs) (length qs)))
  where
    go : ((nat_lt (position_or_len (is_for n) qs) (length qs) ≡ true) ⊎ (nat_lt (position_or_len (is_for n) qs) (length qs) ≡ false)) → IsFirstAt n qs i
    go (inl h) =
        let p : position_or_len (is_for n) qs ≡ i = search rules in
        record { within = search rules; first = first_there n qs ∙ ap (λ k. slice_get qs k) p; rest = rest_there n qs ∙ ap (λ k. remove qs k) p }
    go (inr h) = absurd cc

-- no place
pub has_none : (n : Name) (qs : List Request) → position (is_for n) qs ≡ None → first_for n qs ≡ None
has_none n qs e = go (cases_Bool (nat_lt (position_or_len (is_for n) qs) (length qs)))
  where
    go : ((nat_lt (position_or_len (is_for n) qs) (length qs) ≡ true) ⊎ (nat_lt (position_or_len (is_for n) qs) (length qs) ≡ false)) → first_for n qs ≡ None
    go (inl h) = absurd cc
    go (inr h) = first_there n qs ∙ past qs _ h
