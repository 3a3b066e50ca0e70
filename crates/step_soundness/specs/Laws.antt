-- A sound machine stays sound, and none of its threads is stuck.
use Rattle.std.specs.Prelude.{◌≡◌, ℕ, Some, slice_get}
use Rattle.program_image.specs.Program.{Program}
use Rattle.machine_state.specs.declared.state.Choice.{Choice}
use Rattle.machine_state.specs.declared.state.Mode.{Mode}
use Rattle.machine_state.specs.declared.state.Mode.TheVariants.{Waiting, Ended}
use Rattle.machine_state.specs.declared.state.ThreadState.{ThreadState}
use Rattle.machine_state.specs.Next.{Next, Wants, Stuck}
use Rattle.machine_state.specs.Plan.{plan}
use Rattle.machine_state.specs.State.{State}
use Rattle.machine_state.specs.Step.{who, step}
use Rattle.frame_soundness.specs.AcceptedProgram.{Types, Accepted}
use Rattle.machine_soundness.specs.Sound.{Sound}

-- a step of a sound machine leaves it sound
abbrev pub SoundStepLaw : Type 0
SoundStepLaw =
    (p : Program) (types : Types) → Accepted p types → (m l : State) (c : Choice)
    → Sound p types m → step p m c ≡ Some l → Sound p types l

-- neither stuck nor in want of a text
abbrev pub MovesOn : Next → Type 0
MovesOn (Wants n) = ⊥
MovesOn Stuck = ⊥
MovesOn _ = Unit {0}

-- the thread neither waits nor has ended
abbrev pub IsAwake : Mode → Type 0
IsAwake (Waiting n k) = ⊥
IsAwake Ended = ⊥
IsAwake mode = Unit {0}

-- a thread of a sound machine that neither waits nor has ended has something to do
abbrev pub NeverStuckLaw : Type 0
NeverStuckLaw =
    (p : Program) (types : Types) → Accepted p types → (m : State) (t : ℕ) (th : ThreadState)
    → Sound p types m → slice_get m.threads t ≡ Some th → IsAwake th.mode
    → MovesOn (plan p (who m.heap t th) th.mode th.levels).next
