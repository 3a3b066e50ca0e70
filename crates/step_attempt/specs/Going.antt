-- What is told of a step is right.
use Rattle.std.specs.Prelude.{◌≡◌, true, reverse, Option, Some, None}
use Rattle.jvm_base.specs.declared.frame.Frame.{Frame}
use Rattle.program_image.specs.Program.{Program}
use Rattle.machine_state.specs.declared.served.Wish.{Wish}
use Rattle.machine_state.specs.declared.state.Choice.{Choice}
use Rattle.machine_state.specs.declared.state.ThreadState.{ThreadState}
use Rattle.machine_state.specs.Serving.{IsServed, changes_of}
use Rattle.machine_state.specs.State.{State}
use Rattle.machine_state.specs.Next.{Next, Needs}
use Rattle.machine_state.specs.Step.{Taken, attempt, performed, served}
use Rattle.machine_state.specs.declared.request.Request.{Request}
use Rattle.shared_state.specs.Orderly.{IsOrderly}
use Rattle.shared_state.specs.Parts.{state_of, thread_state}
use Rattle.shared_state.specs.declared.thread.Thread.{Thread}
use Rattle.step_after.specs.Conditions.{LevelsAsk}
use Rattle.step_plan.specs.Shown.{shown_next, top_frame}
use Rattle.step_plan.specs.declared.plan.Next.{Next as Told}
use Rattle.step_after.specs.Going.{stand_of}
use Rattle.step_after.specs.Laws.{GoesSo}
use Rattle.step_serve.specs.Cells.{wish_thread}
use Rattle.step_attempt.specs.declared.going.Going.{Going}
use Rattle.step_attempt.specs.declared.site.Site.{Site}

-- the state at a site
abbrev pub state_at : Site → State
state_at s = state_of s.shared.now s.threads.now

-- what is told of a thread's step is right: the choice, the deed, the thread after it; and the
-- deed's changes can be done together or not at all
pub record IsGoing (p : Program) (m : State) (w : Wish) (th : ThreadState) (k : Taken) (g : Going)
    : Type 0 where
  pub thread : g.served.choice.thread ≡ wish_thread w
  pub served : IsServed m w k.deed g.served
  pub stand : k.stand ≡ stand_of p g.after k.deed.answer th.mode th.levels
  pub goes : GoesSo p g.after k.deed.answer th.levels
  pub orderly : g.served.name_fits ≡ true → IsOrderly m.heap (changes_of m.heap g.served.effects)

-- of what a thread does by choice: nothing is told where it can do nothing, whatever the choice
abbrev pub IsTold :
    Program → State → Wish → ThreadState → (Choice → Option Taken) → Option Going → Type 0
IsTold p m w th f None = (c : Choice) → c.thread ≡ wish_thread w → f c ≡ None
IsTold p m w th f (Some g) = (k : Taken) × (f g.served.choice ≡ Some k) × IsGoing p m w th k g

-- of its next step
abbrev pub IsAttempt : Program → State → Wish → ThreadState → Option Going → Type 0
IsAttempt p m w th o = IsTold p m w th (λ c. attempt p m c th) o

-- ---- at a site, of a thread

-- what is told there is right
abbrev pub IsToldAt : Site → Thread → (Choice → Option Taken) → Option Going → Type 0
IsToldAt s th f o = IsTold s.image.now (state_at s) s.wish (thread_state th) f o

-- a request is served, by choice
abbrev pub serves_at : Site → Thread → Request → Choice → Option Taken
serves_at s th r c = served s.image.now (state_at s) c th.mode (reverse th.levels.items) r

-- what comes next is done
abbrev pub performs_at : Site → Thread → Next → Choice → Option Taken
performs_at s th next c = performed s.image.now (state_at s) c th.mode (reverse th.levels.items) next

-- the top frame of the thread
abbrev pub top_of : Thread → Option Frame
top_of th = top_frame (reverse th.levels.items)

-- what the code tells of what comes next
abbrev pub next_at : Site → Thread → Told → Next
next_at s th t = shown_next s.image.now (top_of th) t

-- what is asked next can be answered where it is asked
abbrev pub CanAskAt : Site → Thread → Told → Type 0
CanAskAt s th t =
    (r : Request) → next_at s th t ≡ Needs r → LevelsAsk s.image.now r (reverse th.levels.items)
