-- Laws on who waits for a monitor.
use Rattle.std.proofs.Common.{◌≡◌, ◌∙◌, refl, ap, sym, ℕ, zero, suc, ◌≤◌, ◌<◌, ◌+◌, arith, Bool, true, false, List, [], ◌∷◌, length, take, Some, None, inl, inr, ◌⊎◌}
use Rattle.std.specs.Prelude.{cond, filter, get_or}
use Rattle.std.proofs.lemmas.Bool.{cases_Bool}
use Rattle.std.proofs.lemmas.List.Filters.{length-filter_more}
use Rattle.jvm_base.specs.declared.name.Name.{Name}
use Rattle.cluster_monitor.specs.declared.monitors.Request.{Request}
use Rattle.cluster_monitor.specs.Monitors.{is_for, first_for, without_first}

-- one waiter more, by whether it waits for the monitor
none_gone_more : (n : Name) (w : Request) (ws : List Request) → (first_for n ws ≡ None → without_first n ws ≡ ws) → ((is_for n w ≡ true) ⊎ (is_for n w ≡ false)) → first_for n (w ∷ ws) ≡ None → without_first n (w ∷ ws) ≡ w ∷ ws
none_gone_more n w ws f (inl h) e = absurd cc
none_gone_more n w ws f (inr h) e =
    let r : first_for n ws ≡ None = sym (ap (λ t. cond t (Some w) (first_for n ws)) h) ∙ e in
    rw h (ap (λ rest. w ∷ rest) (f r))

-- where nobody waits for the monitor, nobody is taken away
pub none_is_gone : (n : Name) (ws : List Request) → first_for n ws ≡ None → without_first n ws ≡ ws
none_is_gone n [] e = refl
none_is_gone n (w ∷ ws) e = none_gone_more n w ws (none_is_gone n ws) (cases_Bool (is_for n w)) e

-- a front has no more that pass than the whole
front_has_few : {A : Type 0} (p : A → Bool) (xs : List A) (k : ℕ) → length (filter p (take k xs)) ≤ length (filter p xs)
front_has_few p [] zero = omega arith
front_has_few p [] (suc k) = omega arith
front_has_few p (x ∷ xs) zero = omega arith
front_has_few p (x ∷ xs) (suc k) =
    let h : length (filter p (take k xs)) ≤ length (filter p xs) = front_has_few p xs k in
    elim (cases_Bool (p x)) [ inl e ↦ rw e (omega arith) | inr e ↦ rw e h ]

-- where room for all who wait was left, there is some for the next one
pub room_is_left : {A : Type 0} (p : A → Bool) (xs : List A) (i : ℕ) (d : A) (old now : ℕ) → i < length xs → old ≤ now + length (filter p (take i xs)) → length (filter p xs) ≤ old → p (get_or xs i d) ≡ true → 0 < now
room_is_left p xs i d old now lt left few e =
    let m : length (filter p (take (i + 1) xs)) ≡ length (filter p (take i xs)) + 1 = length-filter_more p xs i d lt ∙ ap (λ t. length (filter p (take i xs)) + cond t 1 0) e in
    let f : length (filter p (take (i + 1) xs)) ≤ length (filter p xs) = front_has_few p xs (i + 1) in
    omega arith
