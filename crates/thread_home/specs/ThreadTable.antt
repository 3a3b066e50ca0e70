-- The table of threads: which were made, which have ended, and who waits for an end.
use Rattle.std.specs.Prelude.{◌≡◌, ℕ, nat_le, Bool, true, false, not, List, [], ◌∷◌, ◌++◌, Option, None, if◌then◌else◌, map, is_some, length, slice_get, slice_set, ◌<◌}
use Rattle.std.specs.List.{find, remove, position_or_len}
use Rattle.std.specs.Option.{IfSome}
use Rattle.jvm_base.specs.Names.{name_eq}
use Rattle.jvm_base.specs.Words.{from}
use Rattle.jvm_base.specs.declared.name.Name.{Name}
use Rattle.machine_state.specs.Serve.{thread_of}
use Rattle.thread_home.specs.declared.threads.Thread.{Thread}
use Rattle.thread_home.specs.declared.threads.Joining.{Joining}
use Rattle.thread_home.specs.declared.threads.Joined.{Joined as Answer}
use Rattle.thread_home.specs.declared.threads.Joined.TheVariants.{Joined, Queued}

-- the threads, each at its number, and those that wait for an end, in the order in which they came
pub record Table : Type 0 where
  pub threads : List Thread
  pub queue : List Joining

-- what contracts see: the table, and for how many threads and waiting ones more there is room
pub record Seen : Type 0 where
  pub items : Table
  pub room : ℕ

-- ---- threads

-- a thread goes on from its start
abbrev pub started : Name → Thread
started n = record { object = n; has_ended = false }

-- until it has ended
abbrev pub over : Thread → Thread
over h = record { object = h.object; has_ended = true }

-- the thread of this number was made and goes on
abbrev pub is_going : ℕ → List Thread → Bool
is_going t hs = from false (λ h. not h.has_ended) (slice_get hs t)

-- it is the object's
abbrev pub is_of : Name → Thread → Bool
is_of n h = name_eq h.object n

-- where its first one stands
pub record IsThreadAt (n : Name) (hs : List Thread) (i : ℕ) : Type 0 where
  pub within : i < length hs
  pub first : find (is_of n) hs ≡ slice_get hs i

-- whether the thread of an object has ended, where the object was started
abbrev pub end_of : Name → List Thread → Option Bool
end_of n hs = thread_of n (map (λ h. (h.object, h.has_ended)) hs)

-- the object was started
abbrev pub is_started : Name → List Thread → Bool
is_started n hs = is_some (end_of n hs)

-- it was, and its thread hasn't ended: whoever joins it waits
abbrev pub is_awaited : Name → List Thread → Bool
is_awaited n hs = from false not (end_of n hs)

-- no further thread is made
abbrev pub is_full : List Thread → Bool
is_full hs = nat_le 64 (length hs)

-- the thread of this number has ended; all else is as it was
abbrev pub HasEnded : ℕ → List Thread → List Thread → Type 0
HasEnded t old new = IfSome (slice_get old t) (λ h. new ≡ slice_set old t (over h))

-- ---- those that wait

-- a thread waits until the object's has ended
abbrev pub joining : Name → ℕ → Joining
joining n t = record { object = n; thread = t }

-- it waits for this object's
abbrev pub is_for : Name → Joining → Bool
is_for n q = name_eq n q.object

-- the first that does
abbrev pub first_for : Name → List Joining → Option Joining
first_for n qs = find (is_for n) qs

-- those that wait but for that one
abbrev pub without_first : Name → List Joining → List Joining
without_first n qs = remove qs (position_or_len (is_for n) qs)

-- where that one stands
pub record IsFirstAt (n : Name) (qs : List Joining) (i : ℕ) : Type 0 where
  pub within : i < length qs
  pub first : first_for n qs ≡ slice_get qs i
  pub rest : without_first n qs ≡ remove qs i

-- the first that can go on, since the object's thread isn't awaited any longer
abbrev pub next_for : Name → Table → Option Joining
next_for n m = if is_awaited n m.threads then None else first_for n m.queue

-- ---- what a join comes to: nothing is to wait for, or the thread waits as the last one

-- as the answer says
abbrev pub Joins : ℕ → Name → Table → Table → Answer → Type 0
Joins t n old new Joined = (is_awaited n old.threads ≡ false) × (new.queue ≡ old.queue)
Joins t n old new Queued =
    (is_awaited n old.threads ≡ true) × (new.queue ≡ old.queue ++ joining n t ∷ [])
