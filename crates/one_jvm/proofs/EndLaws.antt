-- Ends of runs shut each other out.
use Rattle.std.proofs.Common.{◌≡◌, ℕ, zero, suc, ◌+◌, Bool, true, false, ◌&&◌, ◌||◌, not, nat_le, if◌then◌else◌, List, [], ◌∷◌, Option, Some, None, refl, sym, ap, ◌∙◌, arith}
use Rattle.std.specs.Prelude.{slice_get, is_none}
use Rattle.std.specs.List.{list_all}
use Rattle.program_image.specs.Program.{Program}
use Rattle.machine_state.specs.declared.state.Choice.{Choice}
use Rattle.machine_state.specs.declared.state.End.{End}
use Rattle.machine_state.specs.declared.state.End.TheVariants.{AllEnded, Dead, Going}
use Rattle.machine_state.specs.declared.state.Mode.{Mode}
use Rattle.machine_state.specs.declared.state.Mode.TheVariants.{Ended}
use Rattle.machine_state.specs.declared.state.ThreadState.{ThreadState}
use Rattle.machine_state.specs.Laws.Likeness.{Alike}
use Rattle.machine_state.specs.Runs.{any_choice, can_step, some_can, end_of}
use Rattle.machine_state.specs.State.{State, is_ended}
use Rattle.machine_state.specs.Step.{Taken, attempt, by_mode}
use Rattle.machine_state.proofs.LikenessLaws.{one_next}
use Rattle.machine_state.proofs.NameTests.{some_is}
use Rattle.scheduler.specs.Running.{at_limit, IsFull}
use Rattle.one_jvm.specs.Runs.{Job, IsEnd}
use Rattle.one_jvm.specs.declared.outcome.Stop.{Stop}
use Rattle.one_jvm.specs.declared.outcome.Stop.TheVariants.{Done, Uncaught, StepLimit, Deadlock, ThreadsFull, WriteFault, NoMemory}

-- ---- all threads have ended

-- then each of them has
one_of_all : (ths : List ThreadState) (t : ℕ) (th : ThreadState) → list_all (λ x. is_ended x.mode) ths ≡ true → slice_get ths t ≡ Some th → is_ended th.mode ≡ true
one_of_all [] t th a e = absurd cc
one_of_all (x ∷ ths) t th a e = by_head (is_ended x.mode) refl a t e (λ u b f. one_of_all ths u th b f)
  where
    by_head : (b : Bool) → is_ended x.mode ≡ b → (b && list_all (λ y. is_ended y.mode) ths) ≡ true → (t : ℕ) → slice_get (x ∷ ths) t ≡ Some th
        → ((u : ℕ) → list_all (λ y. is_ended y.mode) ths ≡ true → slice_get ths u ≡ Some th → is_ended th.mode ≡ true) → is_ended th.mode ≡ true
    by_head false h a t e g = absurd cc
    by_head true h a zero e g = ap (λ (y : ThreadState). is_ended y.mode) (sym (some_is e)) ∙ h
    by_head true h a (suc u) e g = g u a e

-- and the other way round
all_of_end : (p : Program) (m : State) → end_of p m ≡ AllEnded → list_all (λ x. is_ended x.mode) m.threads ≡ true
unfolding end_of
all_of_end p m e = by_test (list_all (λ x. is_ended x.mode) m.threads) refl e
  where
    by_rest : (b : Bool) → (let y : End = if b then Going else Dead in y ≡ AllEnded) → ⊥
    by_rest true f = absurd cc
    by_rest false f = absurd cc

    by_test : (b : Bool) → list_all (λ x. is_ended x.mode) m.threads ≡ b → (if b then AllEnded else (if some_can p m 0 m.threads then Going else Dead)) ≡ AllEnded → list_all (λ x. is_ended x.mode) m.threads ≡ true
    by_test true h f = h
    by_test false h f = absurd (by_rest (some_can p m 0 m.threads) f)

-- a thread that has ended isn't at the limit
no_limit : (p : Program) (limit : ℕ) (m : State) (t : ℕ) → end_of p m ≡ AllEnded → at_limit limit (slice_get m.threads t) ≡ true → ⊥
no_limit p limit m t e l = by_thread (slice_get m.threads t) refl l
  where
    by_ended : (b : Bool) (n : ℕ) → b ≡ true → (not b && nat_le limit n) ≡ true → ⊥
    by_ended true n h f = absurd cc
    by_ended false n h f = absurd cc

    by_thread : (o : Option ThreadState) → slice_get m.threads t ≡ o → at_limit limit o ≡ true → ⊥
    by_thread None h f = absurd cc
    by_thread (Some th) h f = by_ended (is_ended th.mode) th.steps (one_of_all m.threads t th (all_of_end p m e) h) f

-- one that has ended takes no step
ended_none : (p : Program) (m : State) (c : Choice) (th : ThreadState) (mode : Mode) → is_ended mode ≡ true → (k : Taken) → by_mode p m c th mode ≡ Some k → ⊥
ended_none p m c th Ended e k h = absurd cc
ended_none p m c th mode e k h = absurd cc

-- so none is started
no_start : (p : Program) (m : State) (t : ℕ) → end_of p m ≡ AllEnded → IsFull p m t → ⊥
unfolding attempt
no_start p m t e f = ended_none p m f.choice f.thread f.thread.mode (one_of_all m.threads t f.thread (all_of_end p m e) f.is_thread) f.taken f.is_taken

-- ---- no thread can take a step

-- a thread that can step is among those that can
some_of_one : (p : Program) (m : State) (n : ℕ) (ths : List ThreadState) (t : ℕ) (th : ThreadState) → slice_get ths t ≡ Some th → can_step p m (n + t) th ≡ true → some_can p m n ths ≡ true
some_of_one p m n [] t th e c = absurd cc
some_of_one p m n (x ∷ ths) zero th e c =
    let place : n + 0 ≡ n = omega arith in
    let here : can_step p m n x ≡ true = ap (can_step p m n) (some_is e) ∙ ap (λ (k : ℕ). can_step p m k th) (sym place) ∙ c in
    ap (λ (b : Bool). b || some_can p m (n + 1) ths) here
some_of_one p m n (x ∷ ths) (suc t) th e c =
    let place : (n + 1) + t ≡ n + suc t = omega arith in
    let later : some_can p m (n + 1) ths ≡ true = some_of_one p m (n + 1) ths t th e (ap (λ (k : ℕ). can_step p m k th) place ∙ c) in
    by_head (can_step p m n x) later
  where
    by_head : (b : Bool) → some_can p m (n + 1) ths ≡ true → (b || some_can p m (n + 1) ths) ≡ true
    by_head true h = refl
    by_head false h = h

-- none can in a deadlock
none_can : (p : Program) (m : State) → end_of p m ≡ Dead → some_can p m 0 m.threads ≡ true → ⊥
unfolding end_of
none_can p m e s = by_test (list_all (λ x. is_ended x.mode) m.threads) (some_can p m 0 m.threads) s e
  where
    by_test : (a b : Bool) → b ≡ true → (if a then AllEnded else (if b then Going else Dead)) ≡ Dead → ⊥
    by_test true b h f = absurd cc
    by_test false true h f = absurd cc
    by_test false false h f = absurd cc

-- a step with one pick and name is one with any
any_step : (a b : Option Taken) (k : Taken) → Alike a b → a ≡ Some k → not (is_none b) ≡ true
any_step None b k h e = absurd cc
any_step (Some x) None k h e = absurd h
any_step (Some x) (Some y) k h e = refl

-- so none is about to start one
dead_full : (p : Program) (m : State) (t : ℕ) → end_of p m ≡ Dead → IsFull p m t → ⊥
dead_full p m t e f =
    let same : attempt p m f.choice f.thread ≡ attempt p m f.choice f.thread = refl in
    let can : can_step p m t f.thread ≡ true = any_step (attempt p m f.choice f.thread) (attempt p m (any_choice t) f.thread) f.taken (one_next p m f.choice (any_choice t) f.thread f.of_thread) f.is_taken in
    none_can p m e (some_of_one p m 0 m.threads t f.thread f.is_thread (ap (λ (k : ℕ). can_step p m k f.thread) (let z : 0 + t ≡ t = omega arith in z) ∙ can))

-- ---- one end at most, of those that a state tells

pub is_done : (j : Job) (m : State) (s : Stop) → IsEnd j m Done → IsEnd j m s → s ≡ Done
is_done j m Done d e = refl
is_done j m Uncaught d e = absurd (e.1 d.1)
is_done j m (StepLimit t) d e = absurd (no_limit j.program j.steps m t d.0 e)
is_done j m Deadlock d e = absurd (let f : AllEnded ≡ Dead = sym d.0 ∙ e.0 in cc)
is_done j m (ThreadsFull t) d e = absurd (no_start j.program m t d.0 e)
is_done j m WriteFault d e = absurd e
is_done j m NoMemory d e = absurd e

pub is_uncaught : (j : Job) (m : State) (s : Stop) → IsEnd j m Uncaught → IsEnd j m s → s ≡ Uncaught
is_uncaught j m Done d e = absurd (d.1 e.1)
is_uncaught j m Uncaught d e = refl
is_uncaught j m (StepLimit t) d e = absurd (no_limit j.program j.steps m t d.0 e)
is_uncaught j m Deadlock d e = absurd (let f : AllEnded ≡ Dead = sym d.0 ∙ e.0 in cc)
is_uncaught j m (ThreadsFull t) d e = absurd (no_start j.program m t d.0 e)
is_uncaught j m WriteFault d e = absurd e
is_uncaught j m NoMemory d e = absurd e

-- the limit was tested before
not_limit : (b : Bool) → b ≡ true → b ≡ false → ⊥
not_limit true e f = absurd cc
not_limit false e f = absurd cc

pub is_deadlock : (j : Job) (m : State) (s : Stop) → IsEnd j m Deadlock → IsEnd j m s → s ≡ Deadlock
is_deadlock j m Done d e = absurd (let f : AllEnded ≡ Dead = sym e.0 ∙ d.0 in cc)
is_deadlock j m Uncaught d e = absurd (let f : AllEnded ≡ Dead = sym e.0 ∙ d.0 in cc)
is_deadlock j m (StepLimit t) d e = absurd (not_limit (at_limit j.steps (slice_get m.threads t)) e (d.1 t))
is_deadlock j m Deadlock d e = refl
is_deadlock j m (ThreadsFull t) d e = absurd (dead_full j.program m t d.0 e)
is_deadlock j m WriteFault d e = absurd e
is_deadlock j m NoMemory d e = absurd e
