-- The monitors of a node: who owns each, how often, and who is queued for one.
use Rattle.std.specs.Prelude.{◌≡◌, ◌<◌, ◌^◌, ℕ, ◌+◌, ◌-◌, ◌==◌, nat_le, Bool, true, false, not, if◌then◌else◌, List, [], ◌∷◌, ◌++◌, Option, Some, None, is_some, length, slice_get}
use Rattle.std.specs.List.{remove}
use Rattle.std.specs.Map.{lookup}
use Rattle.jvm_base.specs.Names.{name_eq}
use Rattle.jvm_base.specs.declared.name.Name.{Name}
use Rattle.cluster_monitor.specs.declared.monitors.Held.{Held}
use Rattle.cluster_monitor.specs.declared.monitors.Request.{Request}
use Rattle.cluster_monitor.specs.declared.monitors.Entered.{Entered as Answer}
use Rattle.cluster_monitor.specs.declared.monitors.Entered.TheVariants.{Entered, Queued}

-- which monitors are owned, by name; in no order
abbrev pub Owners : Type 0
Owners = List (Name × Held)

-- the owners, and the requests for monitors in the order in which they came
pub record Monitors : Type 0 where
  pub owners : Owners
  pub queue : List Request

-- what contracts see: the monitors, and for how many owners and requests more there is room
pub record Seen : Type 0 where
  pub items : Monitors
  pub room : ℕ

-- ---- the owner of a monitor

-- who owns it
abbrev pub owner_at : Owners → Name → Option Held
owner_at owners n = lookup (name_eq n) owners

-- a thread owns it so many times
abbrev pub owned : ℕ → ℕ → Held
owned t k = record { owner = t; count = k }

-- the thread does
abbrev pub is_owner : ℕ → Option Held → Bool
is_owner t None = false
is_owner t (Some h) = h.owner == t

-- another thread does
abbrev pub is_others : ℕ → Option Held → Bool
is_others t None = false
is_others t (Some h) = not (h.owner == t)

-- how often its owner owns it
abbrev pub count_of : Option Held → ℕ
count_of None = 0
count_of (Some h) = h.count

-- the owner once the thread entered: it owns the monitor once more
abbrev pub entered : ℕ → Option Held → Held
entered t o = owned t (count_of o + 1)

-- the owner once the thread left: it owns the monitor once less, or nobody does
abbrev pub left : ℕ → Option Held → Option Held
left t o = if nat_le (count_of o) 1 then None else Some (owned t (count_of o - 1))

-- this is the owner of the monitor now; each other monitor has the owner that it had
pub record IsOwnedBy (n : Name) (o : Option Held) (old new : Owners) : Type 0 where
  pub owner : owner_at new n ≡ o
  pub others : (k : Name) → name_eq n k ≡ false → owner_at new k ≡ owner_at old k

-- ---- requests

-- a thread is to own the monitor so many times
abbrev pub request : Name → ℕ → ℕ → Request
request n t k = record { name = n; thread = t; count = k }

-- the request is for this monitor
abbrev pub is_for : Name → Request → Bool
is_for n q = name_eq n q.name

-- the first request for it
abbrev pub first_for : Name → List Request → Option Request
first_for n [] = None
first_for n (q ∷ qs) = if is_for n q then Some q else first_for n qs

-- the requests but for that one
abbrev pub without_first : Name → List Request → List Request
without_first n [] = []
without_first n (q ∷ qs) = if is_for n q then qs else q ∷ without_first n qs

-- where that one stands
pub record IsFirstAt (n : Name) (qs : List Request) (i : ℕ) : Type 0 where
  pub within : i < length qs
  pub first : first_for n qs ≡ slice_get qs i
  pub rest : without_first n qs ≡ remove qs i

-- the request for it that can be performed: the first one, where nobody owns it
abbrev pub next_for : Name → Monitors → Option Request
next_for n m = if is_some (owner_at m.owners n) then None else first_for n m.queue

-- ---- what entering comes to

-- the thread owns the monitor once more
pub record HasEntered (t : ℕ) (n : Name) (old new : Monitors) : Type 0 where
  pub free : is_others t (owner_at old.owners n) ≡ false
  pub owners : IsOwnedBy n (Some (entered t (owner_at old.owners n))) old.owners new.owners
  pub queue : new.queue ≡ old.queue

-- another thread owns it, and the thread is queued
pub record HasQueued (t : ℕ) (n : Name) (old new : Monitors) : Type 0 where
  pub others : is_others t (owner_at old.owners n) ≡ true
  pub owners : new.owners ≡ old.owners
  pub queue : new.queue ≡ old.queue ++ request n t 1 ∷ []

-- as the answer says
abbrev pub Enters : ℕ → Name → Monitors → Monitors → Answer → Type 0
Enters t n old new Entered = HasEntered t n old new
Enters t n old new Queued = HasQueued t n old new

-- a thread that owns it already owns it less often than can be counted
abbrev pub CanCount : ℕ → Option Held → Type 0
CanCount t None = Unit {0}
CanCount t (Some h) = h.owner ≡ t → h.count + 1 < 2 ^ 64
