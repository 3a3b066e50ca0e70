-- Steps of an order, one behind the other.
use Rattle.std.proofs.Common.{◌≡◌, ◌≤◌, ◌<◌, ◌+◌, ◌&&◌, ℕ, Bool, true, false, not, if◌then◌else◌, List, [], ◌∷◌, ◌++◌, length, take, Option, Some, None, refl, sym, ap, ◌∙◌, arith, add-one}
use Rattle.std.specs.Prelude.{slice_get}
use Rattle.std.proofs.Math.Seq.{take-suc}
use Rattle.std.proofs.lemmas.Option.{get_or_from_slice_get, slice_get_within}
use Rattle.jvm_base.specs.Words.{from}
use Rattle.program_image.specs.Program.{Program}
use Rattle.machine_state.specs.declared.state.Choice.{Choice}
use Rattle.machine_state.specs.declared.state.Reason.{Reason}
use Rattle.machine_state.specs.declared.state.Reason.TheVariants.{Over, BadPick, BadName}
use Rattle.machine_state.specs.declared.state.ThreadState.{ThreadState}
use Rattle.machine_state.specs.Reasons.{reason, reason_taken, reason_thread}
use Rattle.machine_state.specs.Runs.{run}
use Rattle.machine_state.specs.Serve.{pick_fits, name_fits}
use Rattle.machine_state.specs.State.{State, is_ended}
use Rattle.machine_state.specs.Step.{Taken, attempt, granted, moved_on, step, step_of, taken_by}
use Rattle.scheduler.specs.Running.{LeadsOn}
use Rattle.scheduler.proofs.Runs.{leads_nowhere, leads_by_step, leads_further}
use Rattle.scheduler.proofs.Within.{goes_unended}
use Rattle.order_replay.specs.declared.replay.Ending.{Ending}
use Rattle.order_replay.specs.Replaying.{Replay, TakesOn, IsTaken}

-- ---- one step

-- a choice against which there is a reason is no step
pub refused_none : (p : Program) (m : State) (c : Choice) (r : Reason) → reason p m c ≡ Some r
    → step p m c ≡ None
unfolding reason step taken_by
refused_none p m c r e = by_thread (slice_get m.threads c.thread) e
  where
    by_fits : (k : Taken) (pick name : Bool)
        → (if not pick then Some BadPick else (if not name then Some BadName else None)) ≡ Some r
        → (if pick && name then Some k else None) ≡ None
    by_fits k false name h = refl
    by_fits k true false h = refl
    by_fits k true true h = absurd cc

    by_taken : (th : ThreadState) (o : Option Taken) → attempt p m c th ≡ o
        → (if is_ended th.mode then Some Over else reason_taken m c o) ≡ Some r
        → granted m c o ≡ None
    by_taken th None a h = refl
    by_taken th (Some k) a h =
        by_fits k (pick_fits c.pick k.deed.waiters) (name_fits m.heap c.name k.deed.makes)
        (sym (ap (λ (b : Bool). if b then Some Over else reason_taken m c (Some k))
        (goes_unended p m c th k a)) ∙ h)

    by_thread : (o : Option ThreadState) → reason_thread p m c o ≡ Some r → step_of p m c o ≡ None
    by_thread None h = refl
    by_thread (Some th) h =
        ap (from None (λ (k : Taken). Some (moved_on m c.thread th k)))
        (by_taken th (attempt p m c th) refl h)

-- the choices up to the next one
take_next : (order : List Choice) (n : ℕ) (c : Choice) → slice_get order n ≡ Some c
    → take (n + 1) order ≡ take n order ++ c ∷ []
take_next order n c e =
    let lt : n < length order = slice_get_within order n c e in
    rw add-one (take-suc order n c lt
    ∙ ap (λ (x : Choice). take n order ++ x ∷ []) (get_or_from_slice_get order n c c e))

-- ---- how steps lead on

-- no step is taken
pub takes_none : (p : Program) (order : List Choice) (a b : Replay)
    → b.machine.state ≡ a.machine.state → b.taken ≡ a.taken → a.taken ≤ length order
    → TakesOn p order a b
takes_none p order a b state taken few = record {
  later = omega arith;
  few = omega arith;
  leads = leads_nowhere p a.machine.state b.machine.state (take a.taken order) (take b.taken order)
      state (ap (λ (n : ℕ). take n order) taken);
}

-- the next step is taken
pub takes_step : (p : Program) (order : List Choice) (a b : Replay) (c : Choice)
    → slice_get order a.taken ≡ Some c → step p a.machine.state c ≡ Some b.machine.state
    → b.taken ≡ a.taken + 1 → TakesOn p order a b
takes_step p order a b c next steps taken =
    let lt : a.taken < length order = slice_get_within order a.taken c next in record {
      later = omega arith;
      few = omega arith;
      leads = leads_by_step p a.machine.state b.machine.state c (take a.taken order)
          (take b.taken order) steps
          (ap (λ (n : ℕ). take n order) taken ∙ take_next order a.taken c next);
    }

-- steps are taken, and then others
pub takes_further : {p : Program} {order : List Choice} {a b c : Replay} → TakesOn p order a b
    → TakesOn p order b c → TakesOn p order a c
takes_further x y = record {
  later = omega (arith, x.later, y.later);
  few = y.few;
  leads = leads_further x.leads y.leads;
}

-- where that isn't the end, a step was taken
pub none_takes : (p : Program) (order : List Choice) (a b : Replay) (o : Option Ending)
    → ((e : Ending) → o ≡ Some e → ⊥) → IsTaken p order a b o → a.taken < b.taken
none_takes p order a b None n t = t
none_takes p order a b (Some e) n t = absurd (n e refl)

-- ---- what was taken in all

-- before the first step
pub leads_at_start : (p : Program) (m : State) (order : List Choice) (a : Replay)
    → a.machine.state ≡ m → a.taken ≡ 0 → run p m (take a.taken order) ≡ Some a.machine.state
unfolding run
leads_at_start p m order a state taken =
    ap (λ (n : ℕ). run p m (take n order)) taken ∙ ap Some (sym state)

-- steps led from a state so far; so they do with those that are taken then
pub leads_from : (p : Program) (m : State) (order : List Choice) (a b : Replay)
    → run p m (take a.taken order) ≡ Some a.machine.state → TakesOn p order a b
    → run p m (take b.taken order) ≡ Some b.machine.state
leads_from p m order a b e t =
    let before : LeadsOn p m [] (take a.taken order) a.machine.state =
    record { more = take a.taken order; order = refl; leads = e } in
    let all = leads_further before t.leads in
    ap (run p m) all.order ∙ all.leads
