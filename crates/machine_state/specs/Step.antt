-- The step of the one machine: what a thread plans, served and completed.
use Rattle.std.specs.Prelude.{ℕ, ◌+◌, Bool, ◌==◌, ◌&&◌, if◌then◌else◌, List, [], Option, Some, None, slice_get, slice_set}
use Rattle.jvm_base.specs.Words.{from}
use Rattle.jvm_base.specs.Tops.{below, with_top}
use Rattle.jvm_base.specs.declared.name.Name.{Name}
use Rattle.jvm_base.specs.declared.value.ObjectBody.{ObjectBody}
use Rattle.jvm_base.specs.declared.value.ObjectBody.TheVariants.{Text}
use Rattle.jvm_base.specs.declared.frame.Level.{Level}
use Rattle.program_image.specs.Program.{Program}
use Rattle.machine_state.specs.declared.state.Choice.{Choice}
use Rattle.machine_state.specs.declared.state.ThreadState.{ThreadState}
use Rattle.machine_state.specs.declared.state.ClassState.{ClassState}
use Rattle.machine_state.specs.declared.state.ClassState.TheVariants as class_state
use Rattle.machine_state.specs.declared.state.Mode.{Mode}
use Rattle.machine_state.specs.declared.state.Mode.TheVariants.{Running, Raising, Waiting, Ended}
use Rattle.machine_state.specs.BootClasses.{no_class_found}
use Rattle.machine_state.specs.State.{State, Heap, body_at, owner_at, waiters_of}
use Rattle.machine_state.specs.declared.request.Request.{Request}
use Rattle.machine_state.specs.declared.request.Request.TheVariants.{Begin, Fault}
use Rattle.machine_state.specs.Requests.{key_of, cell}
use Rattle.machine_state.specs.Changes.{changed}
use Rattle.machine_state.specs.Events.{Told, told_by}
use Rattle.machine_state.specs.Deeds.{Deed, events_of, quiet}
use Rattle.machine_state.specs.Next.{Next, Alone, Throws, Calls, Leaves, Drops, Needs, Wants, Stuck, Plan, Who}
use Rattle.machine_state.specs.Plan.{plan}
use Rattle.machine_state.specs.Locks.{retakes}
use Rattle.machine_state.specs.Serve.{serve, pick_fits, name_fits}
use Rattle.machine_state.specs.Complete.{Stand, answer_top, complete}
use Rattle.machine_state.specs.Frames.{frames, called}

-- ---- who steps

-- the content of a String or buffer
abbrev pub text_in : Option ObjectBody → Option (List ℕ)
text_in (Some (Text us)) = Some us
text_in _ = None

-- what a step may know of its thread and of texts
abbrev pub who : Heap → ℕ → ThreadState → Who
who heap t th = record {
  first = t == 0;
  object = th.object;
  depth = frames th.levels;
  known = λ n. text_in (body_at heap n);
}

-- ---- the deed of a step and the thread after it

-- a deed, and the thread's mode and levels after it
pub record Taken : Type 0 where
  pub deed : Deed
  pub stand : Stand

-- a deed that was served, and the thread with its answer
abbrev pub taken : Program → Request → Mode → List Level → Deed → Taken
taken p r mode ls d = record { deed = d; stand = complete p r d.answer mode ls }

-- the thread goes on, and touches nothing that others share
abbrev pub taken_alone : Stand → Taken
taken_alone s = record { deed = quiet None; stand = s }

-- where it can
abbrev pub alone : Option Stand → Option Taken
alone o = from None (λ s. Some (taken_alone s)) o

-- a request is served at its cell, or isn't enabled
unfoldable pub served : Program → State → Choice → Mode → List Level → Request → Option Taken
served p m c mode ls r =
    from None (λ d. Some (taken p r mode ls d)) (serve p c.thread c r (cell m (key_of r)))

-- what comes next is done
abbrev pub performed : Program → State → Choice → Mode → List Level → Next → Option Taken
performed p m c mode ls (Alone f) = alone (Some (Running, with_top f ls))
performed p m c mode ls (Throws e) = alone (Some (Raising e, ls))
performed p m c mode ls (Calls k vs) = alone (called p k vs ls)
performed p m c mode ls (Leaves v) = alone (Some (mode, answer_top p v (below ls)))
performed p m c mode ls Drops = alone (Some (mode, below ls))
performed p m c mode ls (Needs r) = served p m c mode ls r
performed p m c mode ls (Wants n) = None
performed p m c mode ls Stuck = None

-- a class that was asked for: done or begun by this thread, the step goes on; untouched, its
-- initialisation begins; failed, NoClassDefFoundError is raised; begun by another, it waits
abbrev pub asked :
    Program → State → Choice → Mode → List Level → Next → ℕ → Option ClassState → Option Taken
asked p m c mode ls next k None = None
asked p m c mode ls next k (Some class_state.Done) = performed p m c mode ls next
asked p m c mode ls next k (Some (class_state.Running u)) =
    if u == c.thread then performed p m c mode ls next else None
asked p m c mode ls next k (Some class_state.Untouched) = served p m c mode ls (Begin k)
asked p m c mode ls next k (Some class_state.Failed) = served p m c mode ls (Fault no_class_found)

-- first the class that is asked for, then what comes next
abbrev pub planned : Program → State → Choice → Mode → List Level → Plan → Option Taken
planned p m c mode ls plan =
    from (performed p m c mode ls plan.next)
    (λ k. asked p m c mode ls plan.next k (slice_get m.classes k))
    plan.asks

-- a thread that woke takes its lock again
abbrev pub retaken : State → Choice → List Level → Name → ℕ → Option Taken
retaken m c ls n k =
    from None (λ d. Some (record { deed = d; stand = (Running, ls) }))
    (retakes c.thread n k (owner_at m.monitors n) (waiters_of n m.waiting))

-- a thread that neither waits nor has ended does what it plans
abbrev pub awake : Program → State → Choice → ThreadState → Option Taken
awake p m c th = planned p m c th.mode th.levels (plan p (who m.heap c.thread th) th.mode th.levels)

-- by mode
abbrev pub by_mode : Program → State → Choice → ThreadState → Mode → Option Taken
by_mode p m c th (Waiting n k) = retaken m c th.levels n k
by_mode p m c th Ended = None
by_mode p m c th mode = awake p m c th

-- what a thread's next step does, whatever the choice's pick and name are worth
unfoldable pub attempt : Program → State → Choice → ThreadState → Option Taken
attempt p m c th = by_mode p m c th th.mode

-- ---- the step

-- the thread after a step
abbrev pub after : ThreadState → Stand → ThreadState
after th s = record { object = th.object; mode = s.0; levels = s.1; steps = th.steps + 1 }

-- the state after a step
unfoldable pub moved_on : State → ℕ → ThreadState → Taken → State
moved_on m t th k =
    changed k.deed.changes (record m { threads = slice_set m.threads t (after th k.stand) })

-- the choice's pick and name are what the deed demands
abbrev pub allowed : State → Choice → Taken → Bool
allowed m c k = pick_fits c.pick k.deed.waiters && name_fits m.heap c.name k.deed.makes

-- a step that the choice may take
abbrev pub granted : State → Choice → Option Taken → Option Taken
granted m c None = None
granted m c (Some k) = if allowed m c k then Some k else None

-- what a choice does, where it is a step
unfoldable pub taken_by : Program → State → Choice → ThreadState → Option Taken
taken_by p m c th = granted m c (attempt p m c th)

-- the state after a step of a thread, if there is such a thread
abbrev pub step_of : Program → State → Choice → Option ThreadState → Option State
step_of p m c None = None
step_of p m c (Some th) = from None (λ k. Some (moved_on m c.thread th k)) (taken_by p m c th)

-- the next state, or none where the choice isn't enabled
unfoldable pub step : Program → State → Choice → Option State
step p m c = step_of p m c (slice_get m.threads c.thread)

-- the events of a step
unfoldable pub step_events : Program → State → Choice → List Told
step_events p m c =
    from [] (λ th. from [] (λ k. told_by (Some c.thread) (events_of k.deed)) (taken_by p m c th))
    (slice_get m.threads c.thread)
