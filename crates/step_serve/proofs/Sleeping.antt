-- Who sleeps on a lock.
use Rattle.std.proofs.Common.{◌≡◌, ℕ, Bool, true, false, List, [], ◌∷◌, Option, Some, None, refl, sym, ap}
use Rattle.std.specs.Prelude.{if◌then◌else◌, slice_get, is_some}
use Rattle.jvm_base.specs.declared.name.Name.{Name}
use Rattle.hierarchy.specs.Walks.{has}
use Rattle.machine_state.specs.Changes.{Owned}
use Rattle.machine_state.specs.Deeds.{Deed, locking}
use Rattle.machine_state.specs.Events.{Notifies, Retakes}
use Rattle.machine_state.specs.Locks.{notifies, owned, retakes}
use Rattle.machine_state.specs.declared.state.MonitorState.{MonitorState}

-- nobody is woken where nobody sleeps
pub none_sleeps : (n : Name) (pick : ℕ) (ws : List ℕ) → slice_get ws 0 ≡ None → locking (Notifies n None) [] ≡ notifies n pick ws
none_sleeps n pick [] e = refl
none_sleeps n pick (w ∷ ws) e = absurd cc

-- a lock that nobody owns is retaken by a thread that sleeps no longer
pub retake_is : (t : ℕ) (n : Name) (k : ℕ) (o : Option MonitorState) (ws : List ℕ) → is_some o ≡ false → has ws t ≡ false → Some (locking (Retakes n) (Owned n (owned t k) ∷ [])) ≡ retakes t n k o ws
retake_is t n k None ws e h =
    ap (λ (b : Bool). if b then None else Some (locking (Retakes n) (Owned n (owned t k) ∷ []))) (sym h)
retake_is t n k (Some o) ws e h = absurd cc
