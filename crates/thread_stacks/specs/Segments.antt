-- A segment: the part of a thread's stack that one node holds. Its top level stands last.
use Rattle.std.specs.Prelude.{ℕ, ◌+◌, ◌-◌, ◌==◌, Bool, true, false, ◌&&◌, nat_le, List, [], ◌∷◌, ◌++◌, length, take, Option, None, slice_get, slice_set}
use Rattle.std.specs.List.{count_by}
use Rattle.jvm_base.specs.declared.name.Name.{Name}
use Rattle.jvm_base.specs.declared.frame.Level.{Level}
use Rattle.jvm_base.specs.declared.frame.Level.TheVariants.{Code, Init}
use Rattle.thread_stacks.specs.declared.segment.Segment.{Segment}

-- one that a thread begins with here
abbrev pub begun : ℕ → Name → Segment
begun thread object = record {
  thread = thread;
  object = object;
  base = 0;
  from = None;
  levels = [];
  count = 0;
}

-- a step more
abbrev pub counted : Segment → Segment
counted s = record s { count = s.count + 1 }

-- ---- levels

-- the place of the top one
abbrev pub top_place : List Level → ℕ
top_place ls = length ls - 1

-- the top one
abbrev pub top_of : List Level → Option Level
top_of ls = slice_get ls (top_place ls)

-- a level more
abbrev pub with_level : Level → Segment → Segment
with_level l s = record s { levels = s.levels ++ l ∷ [] }

-- the top one taken off
abbrev pub without_top : Segment → Segment
without_top s = record s { levels = take (top_place s.levels) s.levels }

-- another one in place of the top one
abbrev pub with_top : Level → Segment → Segment
with_top l s = record s { levels = slice_set s.levels (top_place s.levels) l }

-- the level is a frame
abbrev pub is_code : Level → Bool
is_code (Code f) = true
is_code (Init c b) = false

-- it initialises the class
abbrev pub is_init_of : ℕ → Level → Bool
is_init_of class (Code f) = false
is_init_of class (Init c b) = c == class

-- ---- depth

-- a thread has at most so many frames
abbrev pub depth_limit : ℕ
depth_limit = 1024

-- how many frames the thread has up to the segment's end
abbrev pub depth : Segment → ℕ
depth s = s.base + count_by is_code s.levels

-- the level would be a frame too many
abbrev pub is_too_deep : Level → Segment → Bool
is_too_deep l s = is_code l && nat_le depth_limit (depth s)
