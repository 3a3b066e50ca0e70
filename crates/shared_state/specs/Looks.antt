-- Whom the code looks for.
use Rattle.std.specs.Prelude.{ℕ, Bool, ◌==◌, ◌&&◌}
use Rattle.jvm_base.specs.Names.{name_eq}
use Rattle.jvm_base.specs.declared.name.Name.{Name}
use Rattle.machine_state.specs.declared.state.Waiter.{Waiter}
use Rattle.shared_state.specs.declared.thread.Thread.{Thread}

-- the thread sleeps on the lock
abbrev pub is_waiter : Name → ℕ → Waiter → Bool
is_waiter n t w = name_eq w.lock n && w.thread == t

-- the thread is that of the Thread object
abbrev pub is_of : Name → Thread → Bool
is_of n t = name_eq t.object n
