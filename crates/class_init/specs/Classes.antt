-- The classes of a node, by number: how far each is initialised, and who is queued for one that
-- another thread initialises (JVMS2 2.17.5).
use Rattle.std.specs.Prelude.{ℕ, ◌-◌, ◌==◌, min, Bool, true, false, if◌then◌else◌, List, [], ◌∷◌, ◌++◌, replicate, Option, Some, None, option_map, slice_get, slice_set}
use Rattle.std.specs.List.{find, remove, position_or_len}
use Rattle.machine_state.specs.declared.state.ClassState.{ClassState}
use Rattle.machine_state.specs.declared.state.ClassState.TheVariants as state
use Rattle.class_init.specs.declared.classes.ClassRequest.{ClassRequest}
use Rattle.class_init.specs.declared.classes.Asked.{Asked}
use Rattle.class_init.specs.declared.classes.Asked.TheVariants as answer

-- the state of each class, and the queued threads in the order in which they came
pub record Classes : Type 0 where
  pub states : List ClassState
  pub queue : List ClassRequest

-- what contracts see: the classes, and for how many queued threads more there is room
pub record Seen : Type 0 where
  pub items : Classes
  pub room : ℕ

-- ---- the state of a class

-- how far it is initialised, where there is such a class
abbrev pub state_of : ℕ → Classes → Option ClassState
state_of c m = slice_get m.states c

-- it is so far now; the other classes and the queue stay
abbrev pub becomes : ℕ → ClassState → Classes → Classes
becomes c s m = record m { states = slice_set m.states c s }

-- a thread initialises it
abbrev pub is_running : Option ClassState → Bool
is_running (Some (state.Running u)) = true
is_running _ = false

-- this one does
abbrev pub is_run_by : ℕ → Option ClassState → Bool
is_run_by t (Some (state.Running u)) = u == t
is_run_by t _ = false

-- so many classes, of which those below a number are done and the others untouched
abbrev pub first_states : ℕ → ℕ → List ClassState
first_states classes done =
    replicate (min classes done) state.Done ++ replicate (classes - done) state.Untouched

-- ---- queued threads

-- a thread is queued for a class
abbrev pub request : ℕ → ℕ → ClassRequest
request c t = record { class = c; thread = t }

-- it is queued for this one
abbrev pub is_for : ℕ → ClassRequest → Bool
is_for c q = q.class == c

-- the first that is
abbrev pub first_for : ℕ → List ClassRequest → Option ClassRequest
first_for c qs = find (is_for c) qs

-- the queue but for that one
abbrev pub without_first : ℕ → List ClassRequest → List ClassRequest
without_first c qs = remove qs (position_or_len (is_for c) qs)

-- the thread that may ask again: the first one, unless a thread initialises the class
abbrev pub next_for : ℕ → Classes → Option ClassRequest
next_for c m = if is_running (state_of c m) then None else first_for c m.queue

-- the classes once that one left the queue
abbrev pub woken : ℕ → Classes → Classes
woken c m =
    if is_running (state_of c m) then m else record m { queue = without_first c m.queue }

-- ---- asking for a class

-- what a thread is told that asks for a class in this state
abbrev pub answer_to : ℕ → ClassState → Asked
answer_to t state.Untouched = answer.Run
answer_to t (state.Running u) = if u == t then answer.Proceed else answer.Queued
answer_to t state.Done = answer.Proceed
answer_to t state.Failed = answer.Failed

-- what it is told of the class, where there is such a class
abbrev pub told : ℕ → ℕ → Classes → Option Asked
told t c m = option_map (answer_to t) (state_of c m)

-- the classes once it was told so: it initialises the class, or is queued, or all is as it was
abbrev pub asked : ℕ → ℕ → Classes → Asked → Classes
asked t c m answer.Proceed = m
asked t c m answer.Run = becomes c (state.Running t) m
asked t c m answer.Failed = m
asked t c m answer.Queued = record m { queue = m.queue ++ request c t ∷ [] }

-- how many places of the queue that takes
abbrev pub places : Asked → ℕ
places answer.Queued = 1
places _ = 0
