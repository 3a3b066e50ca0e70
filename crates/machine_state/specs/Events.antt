-- What a step tells: reads and writes of places, and what it does with locks.
use Rattle.std.specs.Prelude.{ℕ, ◌+◌, List, [], ◌∷◌, ◌++◌, map, if◌then◌else◌, Option, Some, None, slice_get}
use Rattle.jvm_base.specs.Words.{from}
use Rattle.jvm_base.specs.declared.name.Name.{Name}
use Rattle.jvm_base.specs.declared.value.Value.{Value}
use Rattle.jvm_base.specs.declared.value.ObjectBody.{ObjectBody}
use Rattle.jvm_base.specs.declared.value.ObjectBody.TheVariants.{Fields, Array, Text}
use Rattle.program_image.specs.Buffers.{is_buffer}
use Rattle.machine_state.specs.State.{Heap, body_at}
use Rattle.machine_state.specs.Changes.{Change, Made, SetsField, SetsElement, SetsContent}

-- ---- places

-- what a read or write is of: a field, an element, or the content of a StringBuffer
pub data Place : Type 0 where
  FieldOf : Name → ℕ → Place
  ElementOf : Name → ℕ → Place
  ContentOf : Name → Place

-- what a place holds
pub data Held : Type 0 where
  One : Value → Held
  Content : List ℕ → Held

-- a value, where there is one
abbrev pub one_held : Option Value → Option Held
one_held o = from None (λ v. Some (One v)) o

-- whose place it is
abbrev pub place_name : Place → Name
place_name (FieldOf n i) = n
place_name (ElementOf n i) = n
place_name (ContentOf n) = n

-- what lies at a place of a body; the text of a String is no place
abbrev pub part_in : Place → ObjectBody → Option Held
part_in (FieldOf n i) (Fields vs) = one_held (slice_get vs i)
part_in (ElementOf n i) (Array vs) = one_held (slice_get vs i)
part_in (ContentOf n) (Text us) = if is_buffer n.class then Some (Content us) else None
part_in _ _ = None

-- what lies at a place of a heap
abbrev pub held_at : Heap → Place → Option Held
held_at heap p = from None (part_in p) (body_at heap (place_name p))

-- ---- events

-- what happens to a lock; a notify names whom it wakes, if anybody sleeps there
pub data LockEvent : Type 0 where
  Enters : Name → LockEvent
  Leaves : Name → LockEvent
  Waits : Name → LockEvent
  Notifies : Name → Option ℕ → LockEvent
  NotifiesAll : Name → LockEvent
  Retakes : Name → LockEvent

-- a place is read, or written, or something is done with a lock
pub data Event : Type 0 where
  Reads : Place → Held → Event
  Writes : Place → Held → Event
  Locks : LockEvent → Event

-- an event and its thread; the first contents of pre-made objects have none
pub record Told : Type 0 where
  pub thread : Option ℕ
  pub event : Event

-- the events of a thread
abbrev pub told_by : Option ℕ → List Event → List Told
told_by t es = map (λ e. record { thread = t; event = e }) es

-- events put before others; of all, the last stands first
abbrev pub onto : List Told → List Told → List Told
onto [] told = told
onto (e ∷ es) told = onto es (e ∷ told)

-- ---- the writes that a change is

-- of places that follow one another
abbrev pub item_writes : (ℕ → Place) → ℕ → List Value → List Event
item_writes at i [] = []
item_writes at i (v ∷ vs) = Writes (at i) (One v) ∷ item_writes at (i + 1) vs

-- of each place of a body
abbrev pub body_writes : Name → ObjectBody → List Event
body_writes n (Fields vs) = item_writes (FieldOf n) 0 vs
body_writes n (Array vs) = item_writes (ElementOf n) 0 vs
body_writes n (Text us) = if is_buffer n.class then Writes (ContentOf n) (Content us) ∷ [] else []

-- of a change
abbrev pub writes_of : Change → List Event
writes_of (Made n b) = body_writes n b
writes_of (SetsField n i v) = Writes (FieldOf n i) (One v) ∷ []
writes_of (SetsElement n i v) = Writes (ElementOf n i) (One v) ∷ []
writes_of (SetsContent n us) = Writes (ContentOf n) (Content us) ∷ []
writes_of _ = []

-- of changes, one after the other
abbrev pub writes : List Change → List Event
writes [] = []
writes (c ∷ cs) = writes_of c ++ writes cs
