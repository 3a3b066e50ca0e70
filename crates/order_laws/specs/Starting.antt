-- The Thread objects of the threads of a run.
use Rattle.std.specs.Prelude.{ℕ, List}
use Rattle.program_image.specs.Condition.{Differ}
use Rattle.program_image.specs.Program.{Program}
use Rattle.machine_state.specs.declared.state.Choice.{Choice}
use Rattle.machine_state.specs.declared.state.ThreadState.{ThreadState}
use Rattle.machine_state.specs.State.{State}
use Rattle.machine_state.specs.Runs.{LeadsTo}

-- each thread has one of its own
abbrev pub OneThreadLaw : Type 0
OneThreadLaw =
    (p : Program) (args : List (List ℕ)) (order : List Choice) (last : State)
    → LeadsTo p args order last → Differ (λ (th : ThreadState). th.object) last.threads
