-- What a step leaves as it is.
use Rattle.std.specs.Prelude.{◌≡◌, ◌≢◌, ℕ, Some, slice_get}
use Rattle.jvm_base.specs.declared.name.Name.{Name}
use Rattle.program_image.specs.Program.{Program}
use Rattle.machine_state.specs.declared.state.Choice.{Choice}
use Rattle.machine_state.specs.declared.state.ThreadState.{ThreadState}
use Rattle.machine_state.specs.State.{State}
use Rattle.machine_state.specs.Requests.{Key, OfBody, OfThreads, cell}
use Rattle.machine_state.specs.Step.{step}

-- a key that is neither this one, nor a body on the node, nor the table of threads
pub record Elsewhere (key : Key) (node : ℕ) (k : Key) : Type 0 where
  pub other : k ≢ key
  pub away : (n : Name) → k ≡ OfBody n → n.node ≢ node
  pub threads : k ≢ OfThreads

-- there is a key such that what lies elsewhere is as before
pub record OneHome (m l : State) (c : Choice) : Type 0 where
  pub key : Key
  pub rest : (k : Key) → Elsewhere key c.name.node k → cell l k ≡ cell m k

-- a step changes what one key addresses, and bodies on the node of the choice's name
abbrev pub OneHomeLaw : Type 0
OneHomeLaw = (p : Program) (m l : State) (c : Choice) → step p m c ≡ Some l → OneHome m l c

-- threads but the choice's stay as they are
abbrev pub OtherThreadsLaw : Type 0
OtherThreadsLaw =
    (p : Program) (m l : State) (c : Choice) (u : ℕ) (th : ThreadState) → step p m c ≡ Some l
    → u ≢ c.thread → slice_get m.threads u ≡ Some th → slice_get l.threads u ≡ Some th
