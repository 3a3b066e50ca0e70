-- The segments that a node has, the newest last, and how they change.
use Rattle.std.specs.Prelude.{◌≡◌, ◌<◌, ◌^◌, ℕ, ◌+◌, ◌==◌, Bool, false, ◌&&◌, if◌then◌else◌, List, [], ◌∷◌, Option, Some, None, option_and_then}
use Rattle.std.specs.List.{list_any}
use Rattle.jvm_base.specs.Words.{from}
use Rattle.jvm_base.specs.declared.frame.Level.{Level}
use Rattle.thread_stacks.specs.Segments.{is_init_of, is_too_deep, top_of}
use Rattle.thread_stacks.specs.declared.segment.Segment.{Segment}

-- what contracts see: the segments, and for how many more there is room
pub record Seen : Type 0 where
  pub items : List Segment
  pub room : ℕ

-- a segment is the thread's
abbrev pub is_of : ℕ → Segment → Bool
is_of thread s = s.thread == thread

-- some segment is
abbrev pub has_one : ℕ → List Segment → Bool
has_one thread ss = list_any (is_of thread) ss

-- the thread's last segment
abbrev pub last_of : ℕ → List Segment → Option Segment
last_of thread [] = None
last_of thread (s ∷ ss) =
    if has_one thread ss then last_of thread ss
    else (if is_of thread s then Some s else None)

-- the segments, the thread's last one changed
abbrev pub last_changed : (Segment → Segment) → ℕ → List Segment → List Segment
last_changed f thread [] = []
last_changed f thread (s ∷ ss) =
    if has_one thread ss then s ∷ last_changed f thread ss
    else (if is_of thread s then f s ∷ ss else s ∷ ss)

-- the segments, the thread's last one taken away
abbrev pub last_gone : ℕ → List Segment → List Segment
last_gone thread [] = []
last_gone thread (s ∷ ss) =
    if has_one thread ss then s ∷ last_gone thread ss
    else (if is_of thread s then ss else s ∷ ss)

-- the thread's top level here
abbrev pub top_level : ℕ → List Segment → Option Level
top_level thread ss = option_and_then (λ s. top_of s.levels) (last_of thread ss)

-- a level pushed on its last segment would be a frame too many
abbrev pub pushes_too_deep : ℕ → Level → List Segment → Bool
pushes_too_deep thread l ss = from false (is_too_deep l) (last_of thread ss)

-- the thread initialises the class in a segment here
abbrev pub initialises : ℕ → ℕ → List Segment → Bool
initialises thread class ss =
    list_any (λ s. is_of thread s && list_any (is_init_of class) s.levels) ss

-- the thread has a last segment, whose steps can be counted on
pub record CanCount (thread : ℕ) (ss : List Segment) : Type 0 where
  pub segment : Segment
  pub last : last_of thread ss ≡ Some segment
  pub few : segment.count + 1 < 2 ^ 64
