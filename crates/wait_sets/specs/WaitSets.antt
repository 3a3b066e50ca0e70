-- The threads of a node that wait, each for a monitor, with the count that it owned it by: in the
-- order in which they came.
use Rattle.std.specs.Prelude.{ℕ, Bool, not, List, [], ◌∷◌, Option, Some, None, filter}
use Rattle.jvm_base.specs.declared.name.Name.{Name}
use Rattle.cluster_monitor.specs.declared.monitors.Request.{Request}
use Rattle.cluster_monitor.specs.Monitors.{Monitors, owner_at, is_owner, is_for}

-- what contracts see: who waits, and for how many more there is room
pub record Seen : Type 0 where
  pub items : List Request
  pub room : ℕ

-- the thread owns the monitor
abbrev pub owns : ℕ → Name → Monitors → Bool
owns t n m = is_owner t (owner_at m.owners n)

-- those who wait for the monitor
abbrev pub all_for : Name → List Request → List Request
all_for n ws = filter (is_for n) ws

-- those who wait for another one
abbrev pub without_all : Name → List Request → List Request
without_all n ws = filter (λ w. not (is_for n w)) ws

-- one or none, as a list
abbrev pub as_list : Option Request → List Request
as_list None = []
as_list (Some w) = w ∷ []
