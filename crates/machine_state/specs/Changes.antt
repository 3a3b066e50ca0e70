-- The changes that a step makes to what threads share.
use Rattle.std.specs.Prelude.{ℕ, ◌==◌, ◌&&◌, not, List, [], ◌∷◌, ◌++◌, slice_get, slice_set, filter}
use Rattle.std.specs.FinMap.Entries.{where_key}
use Rattle.jvm_base.specs.Maps.{put, replace}
use Rattle.jvm_base.specs.Names.{name_cmp, name_eq}
use Rattle.jvm_base.specs.Words.{from}
use Rattle.jvm_base.specs.declared.name.Name.{Name}
use Rattle.jvm_base.specs.declared.value.Value.{Value}
use Rattle.jvm_base.specs.declared.value.ObjectBody.{ObjectBody}
use Rattle.jvm_base.specs.declared.value.ObjectBody.TheVariants.{Fields, Array, Text}
use Rattle.jvm_base.specs.declared.value.Uncaught.{Uncaught}
use Rattle.machine_state.specs.declared.state.ThreadState.{ThreadState}
use Rattle.machine_state.specs.declared.state.Mode.TheVariants.{Entry, Ended}
use Rattle.machine_state.specs.declared.state.MonitorState.{MonitorState}
use Rattle.machine_state.specs.declared.state.Waiter.{Waiter}
use Rattle.machine_state.specs.declared.state.ClassState.{ClassState}
use Rattle.machine_state.specs.State.{State, Heap, Owners, body_at}

-- ---- bodies

-- a field of an object, or a static of a class's holder
abbrev pub with_field : ℕ → Value → ObjectBody → ObjectBody
with_field i v (Fields vs) = Fields (slice_set vs i v)
with_field i v b = b

-- an element of an array
abbrev pub with_element : ℕ → Value → ObjectBody → ObjectBody
with_element i v (Array vs) = Array (slice_set vs i v)
with_element i v b = b

-- the content of a string or buffer
abbrev pub with_content : List ℕ → ObjectBody → ObjectBody
with_content us (Text ts) = Text us
with_content us b = b

-- the body of this name, if it is there, is another one
abbrev pub altered : Heap → Name → (ObjectBody → ObjectBody) → Heap
altered heap n f = from heap (λ b. replace name_cmp n (f b) heap) (body_at heap n)

-- ---- changes

-- An object is made; one of its places takes a value; a lock is owned, or free; a thread falls
-- asleep on a lock, one that slept there may retake it, or all may; a class is in a state; a thread
-- is started on an object, or has finished; an exception isn't caught; bytes are written.
pub data Change : Type 0 where
  Made : Name → ObjectBody → Change
  SetsField : Name → ℕ → Value → Change
  SetsElement : Name → ℕ → Value → Change
  SetsContent : Name → List ℕ → Change
  Owned : Name → MonitorState → Change
  Freed : Name → Change
  Sleeps : Name → ℕ → Change
  Moved : Name → ℕ → Change
  MovedAll : Name → Change
  Becomes : ℕ → ClassState → Change
  Started : Name → Change
  Finished : ℕ → Change
  Lost : Uncaught → Change
  Printed : List ℕ → Change

-- a thread before its first step
abbrev pub new_thread : Name → ThreadState
new_thread object = record { object = object; mode = Entry; levels = []; steps = 0 }

-- a thread after its last step
abbrev pub ended : ThreadState → ThreadState
ended th = record th { mode = Ended }

-- the thread of a number, if it is there, has ended
abbrev pub with_ended : ℕ → List ThreadState → List ThreadState
with_ended t ths = from ths (λ th. slice_set ths t (ended th)) (slice_get ths t)

-- a thread that sleeps on a lock
abbrev pub waiter : Name → ℕ → Waiter
waiter n t = record { lock = n; thread = t }

-- one thread sleeps on the lock no longer
abbrev pub without_waiter : Name → ℕ → List Waiter → List Waiter
without_waiter n t ws = filter (λ w. not (name_eq w.lock n && w.thread == t)) ws

-- nobody sleeps on the lock any longer
abbrev pub without_waiters : Name → List Waiter → List Waiter
without_waiters n ws = filter (λ w. not (name_eq w.lock n)) ws

-- nobody owns the lock
abbrev pub without_owner : Name → Owners → Owners
without_owner n os = where_key name_cmp (λ x. not (name_eq n x)) os

-- the state with one change
abbrev pub change : Change → State → State
change (Made n b) m = record m { heap = put name_cmp n b m.heap }
change (SetsField n i v) m = record m { heap = altered m.heap n (with_field i v) }
change (SetsElement n i v) m = record m { heap = altered m.heap n (with_element i v) }
change (SetsContent n us) m = record m { heap = altered m.heap n (with_content us) }
change (Owned n o) m = record m { monitors = put name_cmp n o m.monitors }
change (Freed n) m = record m { monitors = without_owner n m.monitors }
change (Sleeps n t) m = record m { waiting = m.waiting ++ waiter n t ∷ [] }
change (Moved n t) m = record m { waiting = without_waiter n t m.waiting }
change (MovedAll n) m = record m { waiting = without_waiters n m.waiting }
change (Becomes c s) m = record m { classes = slice_set m.classes c s }
change (Started object) m = record m { threads = m.threads ++ new_thread object ∷ [] }
change (Finished t) m = record m { threads = with_ended t m.threads }
change (Lost u) m = record m { uncaught = m.uncaught ++ u ∷ [] }
change (Printed bytes) m = record m { output = m.output ++ bytes }

-- the state with changes, one after the other
abbrev pub changed : List Change → State → State
changed [] m = m
changed (c ∷ cs) m = changed cs (change c m)
