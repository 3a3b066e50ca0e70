-- A sound machine.
use Rattle.std.specs.Prelude.{◌≡◌, ◌<◌, ℕ, ◌+◌, Bool, true, List, [], ◌∷◌, length, Some, slice_get}
use Rattle.jvm_base.specs.declared.name.Name.{Name}
use Rattle.jvm_base.specs.declared.value.ObjectBody.{ObjectBody}
use Rattle.program_image.specs.Program.{Program}
use Rattle.machine_state.specs.declared.state.MonitorState.{MonitorState}
use Rattle.machine_state.specs.declared.state.ThreadState.{ThreadState}
use Rattle.machine_state.specs.declared.state.Waiter.{Waiter}
use Rattle.machine_state.specs.PreMade.{holder, text_name, arguments}
use Rattle.machine_state.specs.State.{State, body_at, owner_at}
use Rattle.frame_soundness.specs.AcceptedProgram.{Types}
use Rattle.machine_soundness.specs.Bodies.{there_in, body_fits}
use Rattle.machine_soundness.specs.Levels.{ThreadFits}

-- the objects that a program names without making them: its classes' holders, the Strings of its
-- literals, and the arguments of `main`
pub data Premade (p : Program) : Name → Type 0 where
  a_holder : (c : ℕ) → c < length p.classes → Premade p (holder c)
  a_literal : (i : ℕ) → i < length p.literals → Premade p (text_name (length p.classes + i))
  the_arguments : Premade p (arguments p)

-- the locks of all waiters are there
abbrev pub AreThere : (Name → Bool) → List Waiter → Type 0
AreThere there [] = Unit {0}
AreThere there (w ∷ ws) = (there w.lock ≡ true) × AreThere there ws

-- each object holds what its class says, each thread's levels fit the typing, locks are objects that
-- are there, each class has a state, and the pre-made objects are there
pub record Sound (p : Program) (types : Types) (m : State) : Type 0 where
  pub bodies : (n : Name) (b : ObjectBody) → body_at m.heap n ≡ Some b →
      body_fits p (there_in m.heap) n b ≡ true
  pub threads : (t : ℕ) (th : ThreadState) → slice_get m.threads t ≡ Some th →
      ThreadFits p types (there_in m.heap) th
  pub owners : (n : Name) (o : MonitorState) → owner_at m.monitors n ≡ Some o →
      there_in m.heap n ≡ true
  pub waiting : AreThere (there_in m.heap) m.waiting
  pub classes : length m.classes ≡ length p.classes
  pub premade : (n : Name) → Premade p n → there_in m.heap n ≡ true
