-- The first thread that is queued for a class is the one at its first place.
use Rattle.std.proofs.Common.{rules, ◌≡◌, ◌∙◌, refl, ap, ℕ, zero, suc, ◌≤◌, arith, true, false, nat_lt, List, [], ◌∷◌, length, Some, None, inl, inr, ◌⊎◌}
use Rattle.std.specs.Prelude.{slice_get}
use Rattle.std.specs.List.{remove, position, position_or_len}
use Rattle.std.proofs.lemmas.Bool.{cases_Bool}
use Rattle.std.proofs.lemmas.List.Folds.{find_at}
use Rattle.std.proofs.lemmas.Option.{slice_get_past}
use Rattle.class_init.specs.declared.classes.ClassRequest.{ClassRequest}
use Rattle.class_init.specs.Classes.{is_for}
use Rattle.class_init.specs.Running.FirstPlaces.{IsFirstAt, HasNone}

-- nothing is taken from past the end
remove_past : {A : Type 0} (xs : List A) (i : ℕ) → length xs ≤ i → remove xs i ≡ xs
remove_past [] zero h = refl
remove_past [] (suc i) h = refl
remove_past (x ∷ xs) zero h = absurd (omega arith)
remove_past (x ∷ xs) (suc i) h = ap (λ rest. x ∷ rest) (remove_past xs i (omega arith))

-- a first place
pub is_first_at : (c : ℕ) (qs : List ClassRequest) (i : ℕ) → position (is_for c) qs ≡ Some i → IsFirstAt c qs i
is_first_at c qs i e = go (cases_Bool (nat_lt (position_or_len (is_for c) qs) (length qs)))
  where
    go : ((nat_lt (position_or_len (is_for c) qs) (length qs) ≡ true) ⊎ (nat_lt (position_or_len (is_for c) qs) (length qs) ≡ false)) → IsFirstAt c qs i
    go (inl h) =
        let p : position_or_len (is_for c) qs ≡ i = search rules in
        record { within = search rules; first = find_at (is_for c) qs ∙ ap (λ k. slice_get qs k) p; rest = ap (λ k. remove qs k) p }
    go (inr h) = absurd cc

-- no place
pub has_none : (c : ℕ) (qs : List ClassRequest) → position (is_for c) qs ≡ None → HasNone c qs
has_none c qs e = go (cases_Bool (nat_lt (position_or_len (is_for c) qs) (length qs)))
  where
    go : ((nat_lt (position_or_len (is_for c) qs) (length qs) ≡ true) ⊎ (nat_lt (position_or_len (is_for c) qs) (length qs) ≡ false)) → HasNone c qs
    go (inl h) = absurd cc
    go (inr h) = record { first = find_at (is_for c) qs ∙ slice_get_past qs _ (search rules); rest = remove_past qs _ (search rules) }
