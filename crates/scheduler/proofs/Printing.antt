-- Output only grows.
use Rattle.std.proofs.Common.{◌≡◌, ℕ, zero, suc, ◌+◌, ◌≤◌, List, [], ◌∷◌, ◌++◌, length, take, drop, Option, Some, None, refl, sym, ap, subst, ◌∙◌, append-nil, append_assoc, arith}
use Rattle.std.specs.Prelude.{slice_get, slice_set}
use Rattle.std.proofs.lemmas.List.{length-append}
use Rattle.std.proofs.Math.Seq.{drop-append_seam}
use Rattle.jvm_base.specs.Words.{from}
use Rattle.program_image.specs.Program.{Program}
use Rattle.machine_state.specs.declared.state.Choice.{Choice}
use Rattle.machine_state.specs.declared.state.ThreadState.{ThreadState}
use Rattle.machine_state.specs.Changes.{Change, Made, SetsField, SetsElement, SetsContent, Owned, Freed, Sleeps, Moved, MovedAll, Becomes, Started, Finished, Lost, Printed, change, changed}
use Rattle.machine_state.specs.Runs.{run}
use Rattle.machine_state.specs.Start.{start}
use Rattle.machine_state.specs.State.{State}
use Rattle.machine_state.specs.Step.{Taken, after, moved_on, taken_by, step, step_of}
use Rattle.machine_state.proofs.NameTests.{some_is}

-- nothing was printed before the first step
pub start_silent : (p : Program) (args : List (List ℕ)) → (start p args).output ≡ []
unfolding start
start_silent p args = refl

-- more was printed
pub record Grows (m l : State) : Type 0 where
  pub printed : List ℕ
  pub output : l.output ≡ m.output ++ printed

-- by the same output
same : (m l : State) → l.output ≡ m.output → Grows m l
same m l e = record { printed = []; output = e ∙ sym (append-nil m.output) }

change_grows : (h : Change) (m : State) → Grows m (change h m)
change_grows (Printed bytes) m = record { printed = bytes; output = refl }
change_grows (Made n b) m = same m (change (Made n b) m) refl
change_grows (SetsField n i v) m = same m (change (SetsField n i v) m) refl
change_grows (SetsElement n i v) m = same m (change (SetsElement n i v) m) refl
change_grows (SetsContent n us) m = same m (change (SetsContent n us) m) refl
change_grows (Owned n o) m = same m (change (Owned n o) m) refl
change_grows (Freed n) m = same m (change (Freed n) m) refl
change_grows (Sleeps n t) m = same m (change (Sleeps n t) m) refl
change_grows (Moved n t) m = same m (change (Moved n t) m) refl
change_grows (MovedAll n) m = same m (change (MovedAll n) m) refl
change_grows (Becomes c s) m = same m (change (Becomes c s) m) refl
change_grows (Started n) m = same m (change (Started n) m) refl
change_grows (Finished t) m = same m (change (Finished t) m) refl
change_grows (Lost u) m = same m (change (Lost u) m) refl

-- twice
grows_on : (a b c : State) → Grows a b → Grows b c → Grows a c
grows_on a b c g h = record {
  printed = g.printed ++ h.printed;
  output = h.output ∙ ap (λ (z : List ℕ). z ++ h.printed) g.output ∙ append_assoc a.output g.printed h.printed;
}

changes_grow : (hs : List Change) (m : State) → Grows m (changed hs m)
changes_grow [] m = same m m refl
changes_grow (h ∷ hs) m = grows_on m (change h m) (changed hs (change h m)) (change_grows h m) (changes_grow hs (change h m))

-- a step prints nothing but its changes
moved_grows : (m : State) (t : ℕ) (th : ThreadState) (k : Taken) → Grows m (moved_on m t th k)
unfolding moved_on
moved_grows m t th k =
    let g = changes_grow k.deed.changes (record m { threads = slice_set m.threads t (after th k.stand) }) in
    record { printed = g.printed; output = g.output }

pub step_grows : (p : Program) (m l : State) (c : Choice) → step p m c ≡ Some l → Grows m l
unfolding step
step_grows p m l c e = by_thread (slice_get m.threads c.thread) e
  where
    by_taken : (th : ThreadState) (o : Option Taken) → from None (λ k. Some (moved_on m c.thread th k)) o ≡ Some l → Grows m l
    by_taken th None f = absurd cc
    by_taken th (Some k) f = subst (λ (x : State). Grows m x) (some_is f) (moved_grows m c.thread th k)

    by_thread : (o : Option ThreadState) → step_of p m c o ≡ Some l → Grows m l
    by_thread None f = absurd cc
    by_thread (Some th) f = by_taken th (taken_by p m c th) f

-- a run's output begins with what was there before
pub run_grows : (p : Program) (m l : State) (order : List Choice) → run p m order ≡ Some l → Grows m l
unfolding run
run_grows p m l [] e = same m l (ap (λ (x : State). x.output) (sym (some_is e)))
run_grows p m l (c ∷ cs) e = by_step (step p m c) refl e (λ next f. run_grows p next l cs f)
  where
    by_step : (o : Option State) → step p m c ≡ o → from None (λ next. run p next cs) o ≡ Some l → ((next : State) → run p next cs ≡ Some l → Grows next l) → Grows m l
    by_step None d f g = absurd cc
    by_step (Some next) d f g = grows_on m next l (step_grows p m next c d) (g next f)

-- what was printed stands behind what was there
pub printed_behind : (m l : State) (g : Grows m l) (written : ℕ) → written ≡ length m.output → drop written l.output ≡ g.printed
printed_behind m l g written e =
    ap (λ (n : ℕ). drop n l.output) e ∙ ap (drop (length m.output)) g.output ∙ drop-append_seam m.output g.printed

-- so there is as much at least
pub grows_longer : (m l : State) → Grows m l → length m.output ≤ length l.output
grows_longer m l g = omega (arith, ap length g.output, length-append m.output g.printed)
