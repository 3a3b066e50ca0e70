-- Bodies that a step doesn't address stay.
use Rattle.std.specs.Prelude.{◌≡◌, ◌≢◌, Some}
use Rattle.jvm_base.specs.declared.name.Name.{Name}
use Rattle.jvm_base.specs.declared.value.ObjectBody.{ObjectBody}
use Rattle.program_image.specs.Program.{Program}
use Rattle.machine_state.specs.declared.state.Choice.{Choice}
use Rattle.machine_state.specs.State.{State, body_at}
use Rattle.machine_state.specs.Requests.{Key, OfBody}
use Rattle.machine_state.specs.Step.{step}

-- there is a key such that each body that it doesn't address, and that is there, stays
pub record KeepsBodies (m l : State) : Type 0 where
  pub key : Key
  pub kept :
      (n : Name) (b : ObjectBody) → OfBody n ≢ key
      → body_at m.heap n ≡ Some b → body_at l.heap n ≡ Some b

-- so what a step makes is new
abbrev pub KeptLaw : Type 0
KeptLaw = (p : Program) (m l : State) (c : Choice) → step p m c ≡ Some l → KeepsBodies m l
