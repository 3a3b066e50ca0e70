-- A step that is done.
use Rattle.std.specs.Prelude.{◌≡◌, ◌+◌, ◌<◌, ℕ, Bool, true, false, List, Some, slice_get, vec_len, vec_capacity}
use Rattle.program_image.specs.Program.{Program}
use Rattle.machine_state.specs.declared.served.Effect.{Effect}
use Rattle.machine_state.specs.declared.served.Effect.TheVariants.{Made}
use Rattle.machine_state.specs.declared.state.ThreadState.{ThreadState}
use Rattle.machine_state.specs.Serving.{changes_of}
use Rattle.machine_state.specs.State.{State}
use Rattle.machine_state.specs.Step.{Taken, moved_on}
use Rattle.shared_state.specs.Parts.{thread_state}
use Rattle.shared_state.specs.declared.thread.Thread.{Thread}
use Rattle.step_after.specs.Going.{stand_of}
use Rattle.step_attempt.specs.declared.going.Going.{Going}

-- the effect makes an object
abbrev pub is_made : Effect → Bool
is_made (Made n b) = true
is_made _ = false

-- the state after a step that was told so, of the thread at a place
abbrev pub IsNextState : Program → State → ℕ → Going → State → Type 0
IsNextState p m at g next =
    (th : ThreadState) (k : Taken) → slice_get m.threads at ≡ Some th
    → changes_of m.heap g.served.effects ≡ k.deed.changes
    → k.stand ≡ stand_of p g.after g.served.answer th.mode th.levels
    → next ≡ moved_on m at th k

-- the thread at a place is the old one, with room for a level; so many steps it has with the next one
pub record IsPrepared (at steps : ℕ) (olds news : List Thread) : Type 0 where
  pub old : Thread
  pub new : Thread
  pub is_old : slice_get olds at ≡ Some old
  pub is_new : slice_get news at ≡ Some new
  pub same : thread_state new ≡ thread_state old
  pub room : vec_len new.levels < vec_capacity new.levels
  pub counted : steps ≡ old.steps + 1
