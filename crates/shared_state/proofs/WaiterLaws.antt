-- Who sleeps on a lock, and whose lock it is.
use Rattle.std.proofs.Common.{◌≡◌, sym, refl, ap, ℕ, Bool, true, false, List, [], ◌∷◌, None, arith}
use Rattle.std.proofs.lemmas.Bool.{cases_Bool}
use Rattle.std.proofs.Common.{inl, inr}
use Rattle.std.specs.List.{list_any}
use Rattle.std.specs.Map.{remove_entry}
use Rattle.std.specs.BTreeMap.{is_at}
use Rattle.hierarchy.specs.Walks.{has}
use Rattle.jvm_base.specs.Names.{name_cmp, name_eq}
use Rattle.jvm_base.specs.declared.name.Name.{Name}
use Rattle.machine_state.specs.declared.state.Waiter.{Waiter}
use Rattle.machine_state.specs.State.{Owners, owner_at, waiters_of}
use Rattle.machine_state.specs.Changes.{without_owner}
use Rattle.shared_state.specs.Looks.{is_waiter}

-- a waiter is among those of its lock
pub among_waiters : (n : Name) (t : ℕ) (ws : List Waiter) → list_any (is_waiter n t) ws ≡ has (waiters_of n ws) t
among_waiters n t [] = refl
among_waiters n t (w ∷ ws) = elim (cases_Bool (name_eq w.lock n)) [ inl h ↦ rw (h, among_waiters n t ws) refl | inr h ↦ rw (h, among_waiters n t ws) refl ]

-- nothing is taken out where nothing is
absent_stays : (n : Name) (os : Owners) → owner_at os n ≡ None → without_owner n os ≡ os
absent_stays n [] e = refl
absent_stays n (o ∷ os) e = by (name_eq n o.0) refl (absent_stays n os)
  where
    by : (b : Bool) → name_eq n o.0 ≡ b → (owner_at os n ≡ None → without_owner n os ≡ os) → without_owner n (o ∷ os) ≡ o ∷ os
    by true h later = absurd (grind (arith, h, e))
    by false h later = rw h (ap (λ r. o ∷ r) (later (rw h at e)))

-- the first owner of a lock is the only one
pub one_goes : (n : Name) (os : Owners) → owner_at (remove_entry (is_at (name_cmp n)) os) n ≡ None → remove_entry (is_at (name_cmp n)) os ≡ without_owner n os
one_goes n [] e = refl
one_goes n (o ∷ os) e = by (name_eq n o.0) refl (one_goes n os)
  where
    by : (b : Bool) → name_eq n o.0 ≡ b → (owner_at (remove_entry (is_at (name_cmp n)) os) n ≡ None → remove_entry (is_at (name_cmp n)) os ≡ without_owner n os) → remove_entry (is_at (name_cmp n)) (o ∷ os) ≡ without_owner n (o ∷ os)
    by true h later = rw h (sym (absent_stays n os (rw h at e)))
    by false h later = rw h (ap (λ r. o ∷ r) (later (rw (h, h) at e)))
