-- Where a thread's last segment stands.
use Rattle.std.specs.Prelude.{◌≡◌, ◌<◌, ℕ, suc, Bool, true, false, List, drop, length, slice_get, slice_index_or, slice_set, None}
use Rattle.std.specs.List.{remove}
use Rattle.jvm_base.specs.Words.{from}
use Rattle.thread_stacks.specs.Stacks.{is_of, has_one, last_of, last_changed, last_gone}
use Rattle.thread_stacks.specs.declared.segment.Segment.{Segment}

-- a segment of the thread stands there
abbrev pub is_at : ℕ → List Segment → ℕ → Bool
is_at thread ss i = from false (is_of thread) (slice_get ss i)

-- and none behind it
pub record IsLastPlace (thread : ℕ) (ss : List Segment) (i : ℕ) : Type 0 where
  pub own : is_at thread ss i ≡ true
  pub last : has_one thread (drop (suc i) ss) ≡ false

-- what that says of the segments
pub record IsLastAt (thread : ℕ) (ss : List Segment) (i : ℕ) : Type 0 where
  pub within : i < length ss
  pub some : has_one thread ss ≡ true
  pub last : last_of thread ss ≡ slice_get ss i
  pub changed : (f : Segment → Segment) (s : Segment) →
      last_changed f thread ss ≡ slice_set ss i (f (slice_index_or ss i s))
  pub gone : last_gone thread ss ≡ remove ss i

-- and where there is none
pub record HasNone (thread : ℕ) (ss : List Segment) : Type 0 where
  pub none : has_one thread ss ≡ false
  pub last : last_of thread ss ≡ None
  pub changed : (f : Segment → Segment) → last_changed f thread ss ≡ ss
  pub gone : last_gone thread ss ≡ ss
