-- Orders by a simple scheduler, and what a run by one comes to.
use Rattle.std.specs.Prelude.{◌≡◌, ℕ, zero, suc, ◌+◌, ◌==◌, if◌then◌else◌, List, [], ◌∷◌, ◌++◌, drop, length, map, take, Option, Some, None}
use Rattle.std.specs.Fmt.{digits}
use Rattle.jvm_base.specs.Names.{named, no_name}
use Rattle.jvm_base.specs.Words.{from}
use Rattle.jvm_base.specs.declared.name.Name.{Name}
use Rattle.hierarchy.specs.Walks.{or_else, all_from, walk}
use Rattle.program_image.specs.Program.{Program}
use Rattle.program_image.specs.Subclass.{is_sub_of, sub_by}
use Rattle.machine_state.specs.declared.state.Choice.{Choice}
use Rattle.machine_state.specs.declared.state.End.{End}
use Rattle.machine_state.specs.declared.state.End.TheVariants.{AllEnded}
use Rattle.machine_state.specs.declared.state.ThreadState.{ThreadState}
use Rattle.machine_state.specs.Complete.{complete}
use Rattle.machine_state.specs.Plan.{plan}
use Rattle.machine_state.specs.Runs.{run, end_of, any_choice}
use Rattle.machine_state.specs.Serve.{serve}
use Rattle.machine_state.specs.Start.{start}
use Rattle.machine_state.specs.State.{State}
use Rattle.machine_state.specs.Step.{Taken, served, attempt, moved_on, taken_by, step}

-- ---- the scheduler: threads in turn, a step each, but those that can't step

-- a thread that can step, and what its step does
abbrev pub Ready : Type 0
Ready = ℕ × Taken

-- the first of these threads that can step, where the first one has this number
abbrev pub ready_from : Program → State → ℕ → List ThreadState → Option Ready
ready_from p m t [] = None
ready_from p m t (th ∷ ths) =
    or_else (from None (λ k. Some (t, k)) (attempt p m (any_choice t) th))
    (ready_from p m (t + 1) ths)

-- the first from a number on, and round
abbrev pub ready : Program → State → ℕ → Option Ready
ready p m turn =
    or_else (ready_from p m turn (drop turn m.threads)) (ready_from p m 0 (take turn m.threads))

-- the first of those to pick from
abbrev pub first_pick : List ℕ → ℕ
first_pick [] = 0
first_pick (t ∷ ts) = t

-- the name of the first made object, of node 0 and a fresh index
abbrev pub first_name : ℕ → List ℕ → Name
first_name fresh [] = no_name
first_name fresh (c ∷ cs) = named 0 c fresh

-- the choice of a step
abbrev pub choice_of : ℕ → Ready → Choice
choice_of fresh r =
    record
    { thread = r.0; pick = first_pick r.1.deed.waiters; name = first_name fresh r.1.deed.makes }

-- at most so many choices, until no thread can step
unfoldable pub order_from : ℕ → Program → ℕ → ℕ → State → List Choice
order_from zero p turn fresh m = []
order_from (suc n) p turn fresh m =
    from []
    (λ r. from [] (λ next. choice_of fresh r ∷ order_from n p (r.0 + 1) (fresh + length r.1.deed.makes) next) (step p m (choice_of fresh r)))
    (ready p m turn)

-- ---- what a run comes to

-- the output, the end, and the threads that ended with an exception, with its class
pub record Outcome : Type 0 where
  pub output : List ℕ
  pub end : End
  pub uncaught : List (ℕ × ℕ)

-- of a state
abbrev pub outcome_of : Program → State → Outcome
outcome_of p m =
    record
    { output = m.output; end = end_of p m; uncaught = map (λ u. (u.thread, u.class)) m.uncaught }

-- of the run along the scheduler's order, where all its choices are steps
unfoldable pub outcome : Program → Option Outcome
unfolding is_sub_of sub_by all_from walk digits plan serve complete served attempt moved_on taken_by step run end_of start order_from
outcome p =
    from None (λ m. Some (outcome_of p m)) (run p (start p []) (order_from 1000 p 0 0 (start p [])))

-- a space as the end of a line
abbrev pub line_unit : ℕ → ℕ
line_unit u = if u == 32 then 10 else u

-- the words of a text, each on a line of its own
abbrev pub lines : List ℕ → List ℕ
lines [] = []
lines (u ∷ us) = map line_unit (u ∷ us) ++ 10 ∷ []

-- the run prints these words, a line each, and stands so in the end, with these threads ended by
-- exceptions
abbrev pub ComesTo : Program → List ℕ → End → List (ℕ × ℕ) → Type 0
ComesTo p text end uncaught =
    outcome p ≡ Some (record { output = lines text; end = end; uncaught = uncaught })

-- all threads end, and none by an exception
abbrev pub Prints : Program → List ℕ → Type 0
Prints p text = ComesTo p text AllEnded []
