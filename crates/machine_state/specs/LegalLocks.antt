-- Locks are used as JVMS2 8 allows: said of the list of events alone, of which the last stands
-- first.
use Rattle.std.specs.Prelude.{◌≡◌, ◌≢◌, ◌<◌, ℕ, ◌+◌, ◌-◌, Bool, true, false, ◌==◌, if◌then◌else◌, List, [], ◌∷◌, Option, Some, None}
use Rattle.jvm_base.specs.Names.{name_eq}
use Rattle.jvm_base.specs.declared.name.Name.{Name}
use Rattle.program_image.specs.Program.{Program}
use Rattle.machine_state.specs.declared.state.Choice.{Choice}
use Rattle.machine_state.specs.Events.{Told, Event, Reads, Writes, Locks, LockEvent, Enters, Leaves, Waits, Notifies, NotifiesAll, Retakes}
use Rattle.machine_state.specs.Runs.{run_events}
use Rattle.machine_state.specs.Start.{start, start_events}

-- ---- how a thread stands to a lock

-- it doesn't wait there, sleeps there, or woke and has not yet taken the lock again
pub data Stage : Type 0 where
  Awake : Stage
  Asleep : Stage
  Woken : Stage

-- how often it holds the lock, how often it held it before it last waited, and its stage
pub record Standing : Type 0 where
  pub held : ℕ
  pub kept : ℕ
  pub stage : Stage

-- a sleeper wakes
abbrev pub wakened : Stage → Stage
wakened Asleep = Woken
wakened s = s

-- the event is the thread's own
abbrev pub is_by : Option ℕ → ℕ → Bool
is_by None t = false
is_by (Some u) t = u == t

-- the lock of an event
abbrev pub lock_of : LockEvent → Name
lock_of (Enters n) = n
lock_of (Leaves n) = n
lock_of (Waits n) = n
lock_of (Notifies n u) = n
lock_of (NotifiesAll n) = n
lock_of (Retakes n) = n

-- the standing of a thread after an event of the lock, which is its own or another's
abbrev pub at_lock : Bool → ℕ → LockEvent → Standing → Standing
at_lock own t (Notifies n None) s = s
at_lock own t (Notifies n (Some u)) s = if u == t then record s { stage = wakened s.stage } else s
at_lock own t (NotifiesAll n) s = record s { stage = wakened s.stage }
at_lock true t (Enters n) s = record s { held = s.held + 1 }
at_lock true t (Leaves n) s = record s { held = s.held - 1 }
at_lock true t (Waits n) s = record { held = 0; kept = s.held; stage = Asleep }
at_lock true t (Retakes n) s = record { held = s.kept; kept = s.kept; stage = Awake }
at_lock false t e s = s

-- after any event
abbrev pub on_event : ℕ → Name → Option ℕ → Event → Standing → Standing
on_event t l by (Locks k) s = if name_eq (lock_of k) l then at_lock (is_by by t) t k s else s
on_event t l by (Reads p h) s = s
on_event t l by (Writes p h) s = s

-- after all events
abbrev pub standing : List Told → ℕ → Name → Standing
standing [] t l = record { held = 0; kept = 0; stage = Awake }
standing (e ∷ es) t l = on_event t l e.thread e.event (standing es t l)

-- ---- what is legal, where threads stand so

-- no other thread holds the lock
abbrev pub OthersFree : (ℕ → Name → Standing) → ℕ → Name → Type 0
OthersFree st t n = (u : ℕ) → u ≢ t → (st u n).held ≡ 0

-- A lock is entered or taken again where no other thread holds it, and taken again by a thread that
-- woke. Who leaves it, waits or notifies holds it. A notify wakes a sleeper, or nobody where none
-- sleeps.
abbrev pub Allowed : (ℕ → Name → Standing) → ℕ → LockEvent → Type 0
Allowed st t (Enters n) = OthersFree st t n
Allowed st t (Leaves n) = 0 < (st t n).held
Allowed st t (Waits n) = 0 < (st t n).held
Allowed st t (Notifies n None) = (0 < (st t n).held) × ((u : ℕ) → (st u n).stage ≢ Asleep)
Allowed st t (Notifies n (Some u)) = (0 < (st t n).held) × ((st u n).stage ≡ Asleep)
Allowed st t (NotifiesAll n) = 0 < (st t n).held
Allowed st t (Retakes n) = OthersFree st t n × ((st t n).stage ≡ Woken)

-- of any event
abbrev pub IsLegal : (ℕ → Name → Standing) → Option ℕ → Event → Type 0
IsLegal st None e = Unit {0}
IsLegal st (Some t) (Locks k) = Allowed st t k
IsLegal st (Some t) e = Unit {0}

-- each event is legal after those before it
abbrev pub LegalLocks : List Told → Type 0
LegalLocks [] = Unit {0}
LegalLocks (e ∷ es) = IsLegal (standing es) e.thread e.event × LegalLocks es

-- in every run of every program
abbrev pub LegalLocksLaw : Type 0
LegalLocksLaw =
    (p : Program) (args : List (List ℕ)) (order : List Choice)
    → LegalLocks (run_events p (start p args) (start_events p args) order)
