-- What comes of a wish for a step.
use Rattle.std.specs.Prelude.{◌≡◌, ◌≤◌, ℕ, Bool, true, false, ◌&&◌, not, nat_le, if◌then◌else◌, length, filter, List, Option, Some, None, Result, Ok, Err, slice_get}
use Rattle.std.specs.List.{list_any}
use Rattle.program_image.specs.Program.{Program}
use Rattle.machine_state.specs.declared.served.Effect.{Effect}
use Rattle.machine_state.specs.declared.served.Effect.TheVariants as effect
use Rattle.machine_state.specs.declared.served.Effects.{Effects}
use Rattle.machine_state.specs.declared.served.Wish.{Wish}
use Rattle.machine_state.specs.declared.served.Wish.TheVariants as wish
use Rattle.machine_state.specs.declared.state.Choice.{Choice}
use Rattle.machine_state.specs.declared.state.Reason.{Reason}
use Rattle.machine_state.specs.declared.state.Reason.TheVariants.{NoThread, Over, Blocked, BadPick, BadName}
use Rattle.machine_state.specs.declared.state.ThreadState.{ThreadState}
use Rattle.machine_state.specs.Changes.{Change, Made, Started}
use Rattle.machine_state.specs.Reasons.{reason}
use Rattle.machine_state.specs.Serving.{Meets, effect_list}
use Rattle.machine_state.specs.State.{State}
use Rattle.machine_state.specs.Step.{Taken, attempt, step}
use Rattle.step_serve.specs.Cells.{wish_thread}
use Rattle.step_attempt.specs.declared.going.Going.{Going}
use Rattle.one_machine.specs.declared.machine.StepErr.{StepErr}
use Rattle.one_machine.specs.declared.machine.StepErr.TheVariants.{NotEnabled, NoMemory}
use Rattle.one_machine.specs.declared.taking.Took.{Took}
use Rattle.one_machine.specs.declared.taking.Went.{Went}
use Rattle.one_machine.specs.declared.taking.Went.TheVariants as went

-- ---- no step

-- a choice of the thread that is meant for what its next step does, and is no step for this reason
pub record SomeRefused (p : Program) (m : State) (w : Wish) (r : Reason) : Type 0 where
  pub thread : ThreadState
  pub choice : Choice
  pub taken : Taken
  pub of_thread : choice.thread ≡ wish_thread w
  pub is_thread : slice_get m.threads choice.thread ≡ Some thread
  pub is_taken : attempt p m choice thread ≡ Some taken
  pub meets : Meets w taken.deed choice
  pub refused : reason p m choice ≡ Some r

-- no choice of the thread is a step, for this reason
abbrev pub AllRefused : Program → State → Wish → Reason → Type 0
AllRefused p m w r = (c : Choice) → c.thread ≡ wish_thread w → reason p m c ≡ Some r

-- why no step was taken: the thread can take none, or not with that pick or name
abbrev pub IsRefused : Program → State → Wish → Reason → Type 0
IsRefused p m w BadPick = SomeRefused p m w BadPick
IsRefused p m w BadName = SomeRefused p m w BadName
IsRefused p m w r = AllRefused p m w r

-- ---- so many threads

-- the change starts a thread
abbrev pub is_start : Change → Bool
is_start (Started n) = true
is_start _ = false

-- so does an effect
abbrev pub is_started : Effect → Bool
is_started (effect.Started n) = true
is_started _ = false

-- one of them does
abbrev pub starts_one : Effects → Bool
starts_one es = list_any is_started (effect_list es)

-- so many threads there may be, and there are as many
abbrev pub is_full : ℕ → Option ℕ → Bool
is_full count None = false
is_full count (Some most) = nat_le most count

-- the thread's next step starts a thread, and there are as many as may be
pub record IsFull (p : Program) (m : State) (w : Wish) (most : Option ℕ) : Type 0 where
  pub many : is_full (length m.threads) most ≡ true
  pub thread : ThreadState
  pub choice : Choice
  pub taken : Taken
  pub of_thread : choice.thread ≡ wish_thread w
  pub is_thread : slice_get m.threads choice.thread ≡ Some thread
  pub is_taken : attempt p m choice thread ≡ Some taken
  pub starts : list_any is_start taken.deed.changes ≡ true

-- ---- a step

-- the change makes an object
abbrev pub is_making : Change → Bool
is_making (Made n b) = true
is_making _ = false

-- a step of the thread with the choice that is wished for it; so many objects are made
pub record IsStep (p : Program) (m : State) (w : Wish) (t : Took) (next : State) : Type 0 where
  pub thread : ThreadState
  pub taken : Taken
  pub of_thread : t.choice.thread ≡ wish_thread w
  pub is_thread : slice_get m.threads t.choice.thread ≡ Some thread
  pub is_taken : attempt p m t.choice thread ≡ Some taken
  pub meets : Meets w taken.deed t.choice
  pub made : t.made ≡ length (filter is_making taken.deed.changes)
  pub steps : step p m t.choice ≡ Some next

-- where there may be so many threads and there are no more, there are no more afterwards
abbrev pub StayFew : Option ℕ → State → State → Type 0
StayFew None m next = Unit {0}
StayFew (Some most) m next = length m.threads ≤ most → length next.threads ≤ most

-- what came of it: a step, after which the state is this; or nothing, and the state is the old one
abbrev pub IsWent : Program → State → Wish → Option ℕ → Went → State → Type 0
IsWent p m w most (went.Steps t) next = IsStep p m w t next × StayFew most m next
IsWent p m w most (went.Refused r) next = IsRefused p m w r × (next ≡ m)
IsWent p m w most went.Full next = IsFull p m w most × (next ≡ m)

-- ---- what is judged of a step that could be taken

-- it isn't taken for its pick, its name, or the number of threads; or it is
abbrev pub judged : Going → ℕ → Option ℕ → Result Going Went
judged g count most =
    if not g.served.pick_fits then Err (went.Refused BadPick)
    else (if not g.served.name_fits then Err (went.Refused BadName)
    else (if is_full count most && starts_one g.served.effects then Err went.Full else Ok g))

-- why a choice wasn't taken: the reason, or want of memory
abbrev pub IsReason : Option Reason → StepErr → Type 0
IsReason r (NotEnabled why) = r ≡ Some why
IsReason r NoMemory = Unit {0}
