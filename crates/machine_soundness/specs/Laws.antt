-- Where a sound machine begins, and what it must wait for.
use Rattle.std.specs.Prelude.{◌≡◌, ℕ, List, None}
use Rattle.flow_types.specs.declared.flow_type.FlowType.{FlowType}
use Rattle.program_image.specs.Program.{Program}
use Rattle.machine_state.specs.declared.state.Choice.{Choice}
use Rattle.machine_state.specs.declared.request.Request.{Request}
use Rattle.machine_state.specs.declared.request.Request.TheVariants.{Enter, Join, Begin, InitDone, InitFail}
use Rattle.machine_state.specs.Requests.{key_of, cell}
use Rattle.machine_state.specs.Serve.{serve}
use Rattle.machine_state.specs.Start.{start}
use Rattle.machine_state.specs.State.{State}
use Rattle.frame_soundness.specs.AcceptedProgram.{Types, Accepted}
use Rattle.machine_soundness.specs.Asks.{Asks}
use Rattle.machine_soundness.specs.Bodies.{there_in}
use Rattle.machine_soundness.specs.Sound.{Sound}

-- the start state is sound
abbrev pub SoundStartLaw : Type 0
SoundStartLaw =
    (p : Program) (types : Types) → Accepted p types
    → (args : List (List ℕ)) → Sound p types (start p args)

-- requests that may have to wait: for a lock, for a thread, or for a class in another's hands
abbrev pub MayWait : Request → Type 0
MayWait (Enter n) = Unit {0}
MayWait (Join n) = Unit {0}
MayWait (Begin c) = Unit {0}
MayWait (InitDone c) = Unit {0}
MayWait (InitFail c made) = Unit {0}
MayWait _ = ⊥

-- what is right of a sound machine and isn't served is one of these
abbrev pub RefusedLaw : Type 0
RefusedLaw =
    (p : Program) (types : Types) → Accepted p types → (m : State) (c : Choice)
    → (r : Request) (ts : List FlowType)
    → Sound p types m → Asks p (there_in m.heap) r ts
    → serve p c.thread c r (cell m (key_of r)) ≡ None → MayWait r
