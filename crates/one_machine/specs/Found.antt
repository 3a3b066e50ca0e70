-- A step that can be taken and may be.
use Rattle.std.specs.Prelude.{◌≡◌, ◌&&◌, ℕ, true, false, length, Option, Some, Result, Ok, Err, slice_get}
use Rattle.program_image.specs.Program.{Program}
use Rattle.machine_state.specs.declared.served.Wish.{Wish}
use Rattle.machine_state.specs.declared.state.ThreadState.{ThreadState}
use Rattle.machine_state.specs.State.{State, is_ended}
use Rattle.machine_state.specs.Step.{Taken, attempt}
use Rattle.step_attempt.specs.Going.{IsGoing}
use Rattle.step_attempt.specs.declared.going.Going.{Going}
use Rattle.step_serve.specs.Cells.{wish_thread}
use Rattle.one_machine.specs.Going.{IsWent, is_full, starts_one}
use Rattle.one_machine.specs.declared.taking.Went.{Went}

-- the thread of the wish takes it, with the pick and the name of the choice that is told, and starts no
-- thread too many
pub record FoundStep (p : Program) (m : State) (w : Wish) (most : Option ℕ) (g : Going) : Type 0 where
  pub thread : ThreadState
  pub taken : Taken
  pub is_thread : slice_get m.threads (wish_thread w) ≡ Some thread
  pub goes : is_ended thread.mode ≡ false
  pub is_taken : attempt p m g.served.choice thread ≡ Some taken
  pub told : IsGoing p m w thread taken g
  pub pick : g.served.pick_fits ≡ true
  pub name : g.served.name_fits ≡ true
  pub few : (is_full (length m.threads) most && starts_one g.served.effects) ≡ false

-- there is such a step; or this came of the wish, and nothing is changed
abbrev pub IsFound : Program → State → Wish → Option ℕ → Result Going Went → Type 0
IsFound p m w most (Ok g) = FoundStep p m w most g
IsFound p m w most (Err went) = IsWent p m w most went m
