-- Orders of steps, and how a state stands.
use Rattle.std.specs.Prelude.{◌≡◌, ℕ, ◌+◌, Bool, false, ◌==◌, ◌||◌, not, if◌then◌else◌, List, [], ◌∷◌, filter, Option, Some, None, is_none}
use Rattle.std.specs.List.{list_all}
use Rattle.jvm_base.specs.Names.{no_name}
use Rattle.jvm_base.specs.Words.{from}
use Rattle.program_image.specs.Program.{Program}
use Rattle.machine_state.specs.declared.state.Choice.{Choice}
use Rattle.machine_state.specs.declared.state.ThreadState.{ThreadState}
use Rattle.machine_state.specs.declared.state.End.{End}
use Rattle.machine_state.specs.declared.state.End.TheVariants.{AllEnded, Dead, Going}
use Rattle.machine_state.specs.State.{State, is_ended}
use Rattle.machine_state.specs.Events.{Told, onto}
use Rattle.machine_state.specs.Step.{attempt, step, step_events}
use Rattle.machine_state.specs.Start.{start}

-- the state after the choices, or none where one isn't enabled
unfoldable pub run : Program → State → List Choice → Option State
run p m [] = Some m
run p m (c ∷ cs) = from None (λ next. run p next cs) (step p m c)

-- the order leads from the start to this state: it is legal, and this is its last state
abbrev pub LeadsTo : Program → List (List ℕ) → List Choice → State → Type 0
LeadsTo p args order last = run p (start p args) order ≡ Some last

-- what a thread does, in its own order
abbrev pub program_order : ℕ → List Choice → List Choice
program_order t order = filter (λ c. c.thread == t) order

-- the events of the choices before those that were told, the last first; they end where a choice
-- isn't enabled
unfoldable pub run_events : Program → State → List Told → List Choice → List Told
run_events p m told [] = told
run_events p m told (c ∷ cs) =
    from told (λ next. run_events p next (onto (step_events p m c) told) cs) (step p m c)

-- ---- the end

-- a step of a thread that picks nobody and makes nothing
abbrev pub any_choice : ℕ → Choice
any_choice t = record { thread = t; pick = 0; name = no_name }

-- a thread can take a step, whatever names are left for what it makes
abbrev pub can_step : Program → State → ℕ → ThreadState → Bool
can_step p m t th = not (is_none (attempt p m (any_choice t) th))

-- one of these threads, the first of which has this number, can step
abbrev pub some_can : Program → State → ℕ → List ThreadState → Bool
some_can p m t [] = false
some_can p m t (th ∷ ths) = can_step p m t th || some_can p m (t + 1) ths

-- all threads have ended; or one can step; or none can
unfoldable pub end_of : Program → State → End
end_of p m =
    if list_all (λ th. is_ended th.mode) m.threads then AllEnded
    else (if some_can p m 0 m.threads then Going else Dead)
