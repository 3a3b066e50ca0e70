-- How locks are served (JVMS2 8.5, 8.14).
use Rattle.std.specs.Prelude.{ℕ, ◌+◌, ◌-◌, ◌==◌, if◌then◌else◌, List, [], ◌∷◌, Option, Some, None}
use Rattle.jvm_base.specs.declared.name.Name.{Name}
use Rattle.hierarchy.specs.Walks.{has}
use Rattle.machine_state.specs.declared.state.MonitorState.{MonitorState}
use Rattle.machine_state.specs.Changes.{Change, Owned, Freed, Sleeps, Moved, MovedAll}
use Rattle.machine_state.specs.declared.request.Answer.TheVariants.{Slept}
use Rattle.machine_state.specs.Deeds.{Deed, locking}
use Rattle.machine_state.specs.Events.{Enters, Leaves, Waits, Notifies, NotifiesAll, Retakes}

-- a thread owns a lock so many times
abbrev pub owned : ℕ → ℕ → MonitorState
owned t k = record { owner = t; count = k }

-- a lock is entered where nobody or the thread itself owns it
abbrev pub enter : ℕ → Name → Option MonitorState → Option Deed
enter t n None = Some (locking (Enters n) (Owned n (owned t 1) ∷ []))
enter t n (Some o) =
    if o.owner == t then Some (locking (Enters n) (Owned n (owned t (o.count + 1)) ∷ [])) else None

-- what the owner does, or what comes of a thread that isn't
abbrev pub by_owner : ℕ → Option MonitorState → Deed → (MonitorState → Deed) → Deed
by_owner t None otherwise f = otherwise
by_owner t (Some o) otherwise f = if o.owner == t then f o else otherwise

-- owned once less, or free
abbrev pub released : Name → MonitorState → Change
released n o = if o.count == 1 then Freed n else Owned n (owned o.owner (o.count - 1))

-- a lock is left
abbrev pub leaves : Name → MonitorState → Deed
leaves n o = locking (Leaves n) (released n o ∷ [])

-- its owner leaves it wholly and sleeps
abbrev pub sleeps : ℕ → Name → MonitorState → Deed
sleeps t n o = record (locking (Waits n) (Freed n ∷ Sleeps n t ∷ [])) { answer = Slept o.count }

-- the waiter that is picked wakes, if there is one
abbrev pub notifies : Name → ℕ → List ℕ → Deed
notifies n pick [] = locking (Notifies n None) []
notifies n pick (w ∷ ws) =
    record (locking (Notifies n (Some pick)) (Moved n pick ∷ [])) { waiters = w ∷ ws }

-- all waiters wake
abbrev pub notifies_all : Name → Deed
notifies_all n = locking (NotifiesAll n) (MovedAll n ∷ [])

-- a thread that woke takes its lock again, as often as it held it, where nobody owns it
abbrev pub retakes : ℕ → Name → ℕ → Option MonitorState → List ℕ → Option Deed
retakes t n k None ws =
    if has ws t then None else Some (locking (Retakes n) (Owned n (owned t k) ∷ []))
retakes t n k (Some o) ws = None
