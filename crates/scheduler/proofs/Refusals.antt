-- A thread of which no step came can take none.
use Rattle.std.proofs.Common.{◌≡◌, ◌≢◌, ℕ, ◌||◌, Bool, true, false, not, if◌then◌else◌, List, [], ◌∷◌, Option, Some, None, is_none, refl, sym, ap, ◌∙◌}
use Rattle.std.specs.Prelude.{slice_get}
use Rattle.hierarchy.specs.Walks.{has}
use Rattle.program_image.specs.Program.{Program}
use Rattle.machine_state.specs.declared.served.Wish.TheVariants.{Fresh}
use Rattle.machine_state.specs.declared.state.Choice.{Choice}
use Rattle.machine_state.specs.declared.state.Reason.{Reason}
use Rattle.machine_state.specs.declared.state.Reason.TheVariants.{NoThread, Over, Blocked, BadPick, BadName}
use Rattle.machine_state.specs.declared.state.ThreadState.{ThreadState}
use Rattle.machine_state.specs.Reasons.{reason, reason_taken, reason_thread}
use Rattle.machine_state.specs.Runs.{any_choice, can_step}
use Rattle.machine_state.specs.Serve.{pick_fits, name_fits}
use Rattle.machine_state.specs.Serving.{first_pick}
use Rattle.machine_state.specs.State.{State, is_ended}
use Rattle.machine_state.specs.Step.{Taken, attempt}
use Rattle.machine_state.proofs.NameTests.{test_true}
use Rattle.one_machine.specs.Going as going
use Rattle.scheduler.specs.Progress.{IsPassed}
use Rattle.scheduler.proofs.Within.{goes_unended}

-- a reason that isn't about the choice's pick or name
abbrev IsOfThread : Reason → Type 0
IsOfThread BadPick = ⊥
IsOfThread BadName = ⊥
IsOfThread r = Unit {0}

-- what is said against a choice that the thread's next step could take
reason_is : (p : Program) (m : State) (c : Choice) (th : ThreadState) (k : Taken)
    → slice_get m.threads c.thread ≡ Some th → attempt p m c th ≡ Some k
    → reason p m c ≡ reason_taken m c (Some k)
unfolding reason
reason_is p m c th k e a = ap (reason_thread p m c) e
    ∙ (ap (λ o. if is_ended th.mode then Some Over else reason_taken m c o) a
    ∙ ap (λ b. if b then Some Over else reason_taken m c (Some k)) (goes_unended p m c th k a))

-- a choice that is no step for a reason of its thread: the thread can take none
refused_none : (p : Program) (m : State) (c : Choice) (th : ThreadState) (r : Reason)
    → slice_get m.threads c.thread ≡ Some th → IsOfThread r → reason p m c ≡ Some r
    → is_none (attempt p m c th) ≡ true
refused_none p m c th r e s h = by_taken (attempt p m c th) refl
  where
    by_fits : (a b : Bool) (r : Reason) → IsOfThread r
        → (if not a then Some BadPick else (if not b then Some BadName else None)) ≡ Some r → ⊥
    by_fits false b BadPick s h = s
    by_fits false b BadName s h = s
    by_fits false b NoThread s h = cc
    by_fits false b Over s h = cc
    by_fits false b Blocked s h = cc
    by_fits true false BadPick s h = s
    by_fits true false BadName s h = s
    by_fits true false NoThread s h = cc
    by_fits true false Over s h = cc
    by_fits true false Blocked s h = cc
    by_fits true true r s h = cc

    by_taken : (o : Option Taken) → attempt p m c th ≡ o → is_none o ≡ true
    by_taken None a = refl
    by_taken (Some k) a = absurd
        (by_fits (pick_fits c.pick k.deed.waiters) (name_fits m.heap c.name k.deed.makes) r s
        (sym (reason_is p m c th k e a) ∙ h))

-- so can a thread none of whose choices is a step
all_refused : (p : Program) (m : State) (t node index : ℕ) (r : Reason) → IsOfThread r
    → going.AllRefused p m (Fresh t node index) r → IsPassed p m t
all_refused p m t node index r s a =
    λ th e. ap not (refused_none p m (any_choice t) th r e s (a (any_choice t) refl))

-- the first waiter may be picked
first_fits : (ws : List ℕ) → pick_fits (first_pick ws) ws ≡ true
first_fits [] = test_true 0 0 refl
first_fits (w ∷ ws) = ap (λ b. b || has ws w) (test_true w w refl)

-- so that pick is no reason
picks_first : (p : Program) (m : State) (t node index : ℕ)
    → going.SomeRefused p m (Fresh t node index) BadPick → ⊥
picks_first p m t node index s =
    by_fits (pick_fits s.choice.pick s.taken.deed.waiters)
    (name_fits m.heap s.choice.name s.taken.deed.makes) fits
    (sym (reason_is p m s.choice s.thread s.taken s.is_thread s.is_taken) ∙ s.refused)
  where
    fits : pick_fits s.choice.pick s.taken.deed.waiters ≡ true
    fits = ap (λ (c : Choice). pick_fits c.pick s.taken.deed.waiters) s.meets
        ∙ first_fits s.taken.deed.waiters

    by_fits : (a b : Bool) → a ≡ true
        → (if not a then Some BadPick else (if not b then Some BadName else None)) ≡ Some BadPick
        → ⊥
    by_fits false b f h = cc
    by_fits true false f h = cc
    by_fits true true f h = cc

-- no step of a thread came, and not for want of a name
pub refused_passes : (p : Program) (m : State) (t node index : ℕ) (r : Reason) → r ≢ BadName
    → going.IsRefused p m (Fresh t node index) r → IsPassed p m t
refused_passes p m t node index BadName ne a = absurd (ne refl)
refused_passes p m t node index BadPick ne a = absurd (picks_first p m t node index a)
refused_passes p m t node index NoThread ne a = all_refused p m t node index NoThread tt a
refused_passes p m t node index Over ne a = all_refused p m t node index Over tt a
refused_passes p m t node index Blocked ne a = all_refused p m t node index Blocked tt a

-- a thread that can take a step isn't passed over
pub able_steps : (p : Program) (m : State) (t : ℕ) (th : ThreadState)
    → slice_get m.threads t ≡ Some th → can_step p m t th ≡ true → IsPassed p m t → ⊥
able_steps p m t th e c a = let f : can_step p m t th ≡ false = a th e in cc
