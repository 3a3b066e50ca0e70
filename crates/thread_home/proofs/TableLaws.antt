-- What is found first, of threads and of those that wait, is what stands at the first place.
use Rattle.std.proofs.Common.{rules, ◌≡◌, ◌∙◌, refl, ap, ℕ, ◌<◌, Bool, true, false, nat_lt, List, [], ◌∷◌, length, Some, None, inl, inr, ◌⊎◌}
use Rattle.std.specs.Prelude.{slice_get, option_map}
use Rattle.std.specs.List.{find, remove, position, position_or_len}
use Rattle.std.proofs.lemmas.Bool.{cases_Bool}
use Rattle.std.proofs.lemmas.List.Folds.{find_at}
use Rattle.std.proofs.lemmas.Option.{slice_get_past}
use Rattle.jvm_base.specs.declared.name.Name.{Name}
use Rattle.thread_home.specs.declared.threads.Thread.{Thread}
use Rattle.thread_home.specs.declared.threads.Joining.{Joining}
use Rattle.thread_home.specs.ThreadTable.{is_of, IsThreadAt, end_of, is_for, first_for, IsFirstAt}

-- nothing is past the end
past : {A : Type 0} (xs : List A) (i : ℕ) → nat_lt i (length xs) ≡ false → slice_get xs i ≡ None
past xs i e = slice_get_past xs i (search rules)

-- a first place is within, and is where the search ends
first_place : {A : Type 0} (p : A → Bool) (xs : List A) (i : ℕ) → position p xs ≡ Some i → (i < length xs) × (position_or_len p xs ≡ i)
first_place p xs i e = go (cases_Bool (nat_lt (position_or_len p xs) (length xs)))
  where
    go : ((nat_lt (position_or_len p xs) (length xs) ≡ true) ⊎ (nat_lt (position_or_len p xs) (length xs) ≡ false)) → (i < length xs) × (position_or_len p xs ≡ i)
    go (inl h) = (search rules, search rules)
    go (inr h) = absurd cc

-- without a first place nothing is found
no_place : {A : Type 0} (p : A → Bool) (xs : List A) → position p xs ≡ None → find p xs ≡ None
no_place p xs e = go (cases_Bool (nat_lt (position_or_len p xs) (length xs)))
  where
    go : ((nat_lt (position_or_len p xs) (length xs) ≡ true) ⊎ (nat_lt (position_or_len p xs) (length xs) ≡ false)) → find p xs ≡ None
    go (inl h) = absurd cc
    go (inr h) = find_at p xs ∙ past xs _ h

-- the first that waits for an object's thread
pub is_first_at : (n : Name) (qs : List Joining) (i : ℕ) → position (is_for n) qs ≡ Some i → IsFirstAt n qs i
is_first_at n qs i e =
    let f = first_place (is_for n) qs i e in
    record { within = f.0; first = find_at (is_for n) qs ∙ ap (λ k. slice_get qs k) f.1; rest = ap (λ k. remove qs k) f.1 }

-- nobody does
pub has_none : (n : Name) (qs : List Joining) → position (is_for n) qs ≡ None → first_for n qs ≡ None
has_none n qs e = no_place (is_for n) qs e

-- whether an object's thread has ended is told by the first thread that is the object's
pub end_found : (n : Name) (hs : List Thread) → end_of n hs ≡ option_map (λ h. h.has_ended) (find (is_of n) hs)
end_found n [] = refl
end_found n (h ∷ hs) = elim (cases_Bool (is_of n h)) [ inl e ↦ rw e refl | inr e ↦ rw e (end_found n hs) ]

-- that one stands at its number
pub is_thread_at : (n : Name) (hs : List Thread) (i : ℕ) → position (is_of n) hs ≡ Some i → IsThreadAt n hs i
is_thread_at n hs i e =
    let f = first_place (is_of n) hs i e in
    record { within = f.0; first = find_at (is_of n) hs ∙ ap (λ k. slice_get hs k) f.1 }

-- where no thread is the object's
pub has_no_thread : (n : Name) (hs : List Thread) → position (is_of n) hs ≡ None → find (is_of n) hs ≡ None
has_no_thread n hs e = no_place (is_of n) hs e
