-- What comes of a step, of one that was refused, and of a run's end.
use Rattle.std.proofs.Common.{◌≡◌, ◌≢◌, ℕ, zero, suc, ◌+◌, ◌<◌, ◌≤◌, false, List, [], ◌∷◌, ◌++◌, length, Option, Some, None, Result, Ok, Err, refl, sym, ap, ◌∙◌, subst, arith}
use Rattle.std.specs.Prelude.{slice_get, OnOk, OnErr, IfOk}
use Rattle.std.proofs.lemmas.List.{length-append, length_push}
use Rattle.jvm_base.specs.declared.memory.NoMemory.{NoMemory}
use Rattle.program_image.specs.Program.{Program}
use Rattle.machine_state.specs.declared.served.Wish.TheVariants.{Fresh}
use Rattle.machine_state.specs.declared.state.Choice.{Choice}
use Rattle.machine_state.specs.declared.state.Reason.{Reason}
use Rattle.machine_state.specs.declared.state.Reason.TheVariants.{BadName}
use Rattle.machine_state.specs.declared.state.ThreadState.{ThreadState}
use Rattle.machine_state.specs.Changes.{new_thread}
use Rattle.machine_state.specs.PreMade.{main_thread}
use Rattle.machine_state.specs.Start.{start}
use Rattle.machine_state.specs.State.{State}
use Rattle.machine_state.proofs.NameTests.{some_is}
use Rattle.one_machine.specs.declared.taking.Took.{Took}
use Rattle.one_machine.specs.Gliding.{Glides}
use Rattle.one_machine.specs.Going as going
use Rattle.one_machine.specs.Ready.{IsReady}
use Rattle.scheduler.specs.Running.{Run, IsRun, IsTurn, LeadsOn, GoesOn, AreWithin, at_limit, max_threads}
use Rattle.scheduler.specs.Progress.{IsPassed, IsProgress}
use Rattle.scheduler.specs.declared.run.Progress.TheVariants.{Stepped, Passed, Stops}
use Rattle.scheduler.specs.declared.run.Stop.{Stop}
use Rattle.scheduler.proofs.Runs.{leads_nowhere, leads_by_step, leads_further, goes_further}
use Rattle.scheduler.proofs.Within.{glided_few, glided_within, step_within}
use Rattle.scheduler.proofs.Refusals.{refused_passes}

-- what holds anyway holds where there is an error
pub on_err : {A E : Type 0} {P : Type 0} (r : Result A E) → P → OnErr r P
on_err (Ok a) p = tt
on_err (Err e) p = p

-- or where there is none
pub on_ok : {A E : Type 0} {P : Type 0} (r : Result A E) → P → OnOk r P
on_ok (Ok a) p = p
on_ok (Err e) p = tt

-- what holds of the value holds where there is one
pub if_ok : {A E : Type 0} (P : A → Type 0) (r : Result A E) (a : A) → r ≡ Ok a → P a → IfOk r P
if_ok P (Ok b) a e p = let f : a ≡ b = cc in subst P f p
if_ok P (Err x) a e p = tt

-- and where there is an error, nothing is asked of it
pub if_err : {A E : Type 0} (P : A → Type 0) (r : Result A E) (x : E) → r ≡ Err x → IfOk r P
if_err P (Ok b) x e = absurd cc
if_err P (Err y) x e = tt

-- ---- the start

-- before the first step no thread has taken one
pub start_run : (p : Program) (args : List (List ℕ)) (a : Run) → a.machine.state ≡ start p args
    → a.printed ≡ 0 → IsReady p a.machine → IsRun p a
unfolding start
start_run p args a e none ready = record {
  ready = ready;
  within = subst (λ (m : State). AreWithin a.limit m) (sym e) (λ t th h. by_place t th h);
  few = subst (λ (m : State). length m.threads ≤ max_threads) (sym e) (omega arith);
  printed = none ∙ sym (ap (λ (m : State). length m.output) e);
}
  where
    by_place : (t : ℕ) (th : ThreadState)
        → slice_get (new_thread (main_thread p (length args)) ∷ []) t ≡ Some th → th.steps ≤ a.limit
    by_place zero th h =
        let s : th.steps ≡ 0 = ap (λ (x : ThreadState). x.steps) (sym (some_is h)) in omega arith
    by_place (suc t) th h = absurd cc

-- ---- a step

-- a step of a thread that isn't at its limit
pub step_run : (p : Program) (a b : Run) (m l : State) (t index : ℕ) (took : Took)
    → a.machine.state ≡ m → b.machine.state ≡ l → b.limit ≡ a.limit
    → IsRun p a → at_limit a.limit (slice_get a.machine.state.threads t) ≡ false
    → going.IsStep p m (Fresh t 0 index) took l → going.StayFew (Some max_threads) m l
    → b.printed ≡ length b.machine.state.output → IsReady p b.machine → IsRun p b
step_run p a b m l t index took from to same run unspent s stay printed ready = record {
  ready = ready;
  within = subst (λ (n : State). AreWithin b.limit n) (sym to)
      (subst (λ (n : ℕ). AreWithin n l) (sym same)
      (step_within p a.limit m l took.choice s.thread s.taken s.is_thread s.is_taken s.steps
      (ap (λ (u : ℕ). at_limit a.limit (slice_get m.threads u)) s.of_thread
      ∙ (ap (λ (n : State). at_limit a.limit (slice_get n.threads t)) (sym from) ∙ unspent))
      (subst (λ (n : State). AreWithin a.limit n) from run.within)));
  few = subst (λ (n : State). length n.threads ≤ max_threads) (sym to)
      (stay (subst (λ (n : State). length n.threads ≤ max_threads) from run.few));
  printed = printed;
}

-- it leads on
pub step_progress : (p : Program) (a b : Run) (m l : State) (t index : ℕ) (took : Took)
    → a.machine.state ≡ m → b.machine.state ≡ l
    → b.order ≡ a.order ++ took.choice ∷ [] → going.IsStep p m (Fresh t 0 index) took l
    → IsProgress p a t b Stepped
step_progress p a b m l t index took from to o s =
    let more : length b.order ≡ length a.order + 1 =
    ap length o ∙ length_push a.order took.choice in (
      subst (λ (n : State). LeadsOn p n a.order b.order b.machine.state) (sym from)
          (subst (λ (n : State). LeadsOn p m a.order b.order n) (sym to)
          (leads_by_step p m l took.choice a.order b.order s.steps o)),
      omega arith,
    )

-- ---- steps in a row

-- steps of the thread in turn that touch its frame alone
pub glided_run : (p : Program) (a b : Run) (m l : State) (t most n : ℕ) → a.machine.state ≡ m
    → b.machine.state ≡ l → b.limit ≡ a.limit → b.printed ≡ a.printed → IsRun p a
    → Glides p m t most a.limit n l → IsReady p b.machine → IsRun p b
glided_run p a b m l t most n from to same printed run g ready = record {
  ready = ready;
  within = subst (λ (s : State). AreWithin b.limit s) (sym (to ∙ g.shared))
      (subst (λ (k : ℕ). AreWithin k (record m { threads = l.threads })) (sym same)
      (glided_within p t most a.limit n m l.threads (slice_get m.threads t) refl g.threads
      (subst (λ (s : State). AreWithin a.limit s) from run.within)));
  few =
      let count : length b.machine.state.threads ≡ length a.machine.state.threads =
      ap (λ (s : State). length s.threads) to
      ∙ (glided_few p t most a.limit n m.threads l.threads (slice_get m.threads t) g.threads
      ∙ ap (λ (s : State). length s.threads) (sym from)) in
      omega (arith, run.few);
  printed = printed ∙ run.printed ∙ ap (λ (s : State). length s.output) from
      ∙ sym (ap (λ (s : State). length s.output) (to ∙ g.shared));
}

-- ---- no step

-- the run stands as before
pub same_run : (p : Program) (a b : Run) (m : State) → a.machine.state ≡ m → b.machine.state ≡ m
    → b.limit ≡ a.limit → b.printed ≡ a.printed → IsRun p a → IsReady p b.machine → IsRun p b
same_run p a b m from to same printed run ready = record {
  ready = ready;
  within = subst (λ (n : ℕ). AreWithin n b.machine.state) (sym same)
      (subst (λ (n : State). AreWithin a.limit n) (from ∙ sym to) run.within);
  few = subst (λ (n : State). length n.threads ≤ max_threads) (from ∙ sym to) run.few;
  printed = printed ∙ run.printed ∙ ap (λ (n : State). length n.output) (from ∙ sym to);
}

-- the thread is passed over
pub passed_progress : (p : Program) (a b : Run) (m : State) (t index : ℕ) (r : Reason)
    → a.machine.state ≡ m → b.machine.state ≡ m → b.order ≡ a.order
    → r ≢ BadName → going.IsRefused p m (Fresh t 0 index) r → IsProgress p a t b Passed
passed_progress p a b m t index r from to o ne f = (
  record { state = to ∙ sym from; order = o },
  subst (λ (n : State). IsPassed p n t) (sym from)
      (refused_passes p m t 0 index r ne f),
)

-- the run ends as it was
pub leads_stop : (p : Program) (a b : Run) (t : ℕ) (s : Stop) → IsProgress p a t b (Stops s)
    → LeadsOn p a.machine.state a.order b.order b.machine.state
leads_stop p a b t s x =
    leads_nowhere p a.machine.state b.machine.state a.order b.order x.0.state x.0.order

-- ---- turns

-- a turn that isn't the end takes a step
pub turn_longer : (p : Program) (limit : ℕ) (before : List Choice) (r : Run) (o : Option Stop)
    → ((s : Stop) → o ≡ Some s → ⊥) → IsTurn p limit before r o → length before < length r.order
turn_longer p limit before r None n t = t
turn_longer p limit before r (Some s) n t = absurd (n s refl)

-- ---- steps before others

-- what came of some steps, came of them and of those before them
turn_further : (p : Program) (limit : ℕ) (m l : State) (before between : List Choice) (r : Run)
    (o : Option Stop) → LeadsOn p m before between l → IsTurn p limit between r o
    → IsTurn p limit before r o
turn_further p limit m l before between r None x t =
    let more : length between ≡ length before + length x.more =
    ap length x.order ∙ length-append before x.more in omega (arith, t)
turn_further p limit m l before between r (Some s) x t = t

-- so with a result of them
pub turns_further : (p : Program) (limit now : ℕ) (m l : State) (before between : List Choice)
    (r : Run) (o : Result (Option Stop) NoMemory) → LeadsOn p m before between l → now ≡ limit
    → IfOk o (λ s. IsTurn p now between r s) → IfOk o (λ s. IsTurn p limit before r s)
turns_further p limit now m l before between r (Ok s) x e t =
    turn_further p limit m l before between r s x
    (subst (λ (k : ℕ). IsTurn p k between r s) e t)
turns_further p limit now m l before between r (Err s) x e t = tt

-- they lead on
pub lead_further : {E : Type 0} (p : Program) (m l n : State) (before between after : List Choice)
    (o : Result E NoMemory) → LeadsOn p m before between l
    → OnOk o (LeadsOn p l between after n) → OnOk o (LeadsOn p m before after n)
lead_further p m l n before between after (Ok s) x t = leads_further x t
lead_further p m l n before between after (Err s) x t = tt

-- or are legal
pub go_further : {E : Type 0} (p : Program) (m l : State) (before between : List Choice) (r : Run)
    (o : Result E NoMemory) → LeadsOn p m before between l
    → OnErr o (GoesOn p l between r) → OnErr o (GoesOn p m before r)
go_further p m l before between r (Ok s) x t = tt
go_further p m l before between r (Err s) x t = goes_further x t
