-- What a segment and a node's segments end as, where a `&mut` to a level is returned.
use Rattle.std.specs.Prelude.{◌≡◌, ℕ, Option, OnSome}
use Rattle.std.specs.Borrow.{LendsIf, LendsSo, Fml, MutBor}
use Rattle.jvm_base.specs.declared.frame.Level.{Level}
use Rattle.jvm_base.specs.contracts.frame.Level.{the_row as level_row}
use Rattle.thread_stacks.specs.Segments.{with_top}
use Rattle.thread_stacks.specs.declared.segment.Segment.{Segment}
use Rattle.thread_stacks.specs.contracts.segment.Segment.{the_row as segment_row}
use Rattle.thread_stacks.specs.contracts.stacks.Stacks.{the_row as stacks_row}
use Rattle.thread_stacks.specs.Stacks.{Seen, last_changed}

-- once the borrow ends, the top level is the last value written through it; at None the segment stays
abbrev pub lends_top : MutBor Segment → Option (MutBor Level) → Fml
lends_top s r = LendsIf segment_row level_row s r (λ l. with_top l s.now) s.now

-- the segments are as before, but for the thread's top level
pub record HasTopLevel (thread : ℕ) (old new : Seen) (l : Level) : Type 0 where
  pub items : new.items ≡ last_changed (with_top l) thread old.items
  pub room : new.room ≡ old.room

-- likewise the thread's top level here
abbrev pub lends_top_level : MutBor Seen → ℕ → Option (MutBor Level) → Fml
lends_top_level s thread r =
    LendsSo stacks_row level_row s r (λ n l. OnSome r (HasTopLevel thread s.now n l))
    (λ n. n.items ≡ s.now.items)
