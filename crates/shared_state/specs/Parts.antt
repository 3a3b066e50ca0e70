-- What threads share, and their table, as the code keeps them apart.
use Rattle.std.specs.Prelude.{◌≡◌, ℕ, List, ◌++◌, map, reverse}
use Rattle.jvm_base.specs.declared.value.Uncaught.{Uncaught}
use Rattle.machine_state.specs.declared.state.ThreadState.{ThreadState}
use Rattle.machine_state.specs.declared.state.Waiter.{Waiter}
use Rattle.machine_state.specs.declared.state.ClassState.{ClassState}
use Rattle.machine_state.specs.State.{State, Heap, Owners}
use Rattle.shared_state.specs.declared.thread.Thread.{Thread}

-- the state of the one machine but for its threads
pub record Parts : Type 0 where
  pub heap : Heap
  pub monitors : Owners
  pub waiting : List Waiter
  pub classes : List ClassState
  pub output : List ℕ
  pub uncaught : List Uncaught

-- a thread, whose levels the code keeps with the top one last
abbrev pub thread_state : Thread → ThreadState
thread_state t = record { object = t.object; mode = t.mode; levels = reverse t.levels.items; steps = t.steps }

-- the state that these parts and threads are
abbrev pub state_of : Parts → List Thread → State
state_of p ts = record {
  heap = p.heap;
  threads = map thread_state ts;
  monitors = p.monitors;
  waiting = p.waiting;
  classes = p.classes;
  output = p.output;
  uncaught = p.uncaught;
}

-- the threads stay as they are, and further ones may stand behind them
abbrev pub HasFirst : List Thread → List Thread → Type 0
HasFirst ts us = (more : List Thread) × (us ≡ ts ++ more)
