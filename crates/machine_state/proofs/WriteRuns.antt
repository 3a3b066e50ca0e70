-- The last-write law over every run.
use Rattle.std.proofs.Common.{◌≡◌, List, [], ◌∷◌, Option, Some, None, refl, subst}
use Rattle.std.specs.Prelude.{slice_get, slice_set}
use Rattle.jvm_base.specs.declared.name.Name.{Name}
use Rattle.jvm_base.specs.declared.value.ObjectBody.{ObjectBody}
use Rattle.machine_state.specs.declared.state.Choice.{Choice}
use Rattle.machine_state.specs.declared.state.ThreadState.{ThreadState}
use Rattle.jvm_base.specs.Maps.{put}
use Rattle.program_image.specs.Program.{Program}
use Rattle.jvm_base.specs.Names.{name_cmp}
use Rattle.jvm_base.specs.Words.{from}
use Rattle.machine_state.specs.State.{State, Heap}
use Rattle.machine_state.specs.Events.{Held, Told, told_by, onto, body_writes}
use Rattle.machine_state.specs.Deeds.{events_of, Deed}
use Rattle.machine_state.specs.Step.{Taken, after, moved_on, taken_by, step, step_of, step_events}
use Rattle.machine_state.specs.Runs.{run_events}
use Rattle.machine_state.specs.Start.{start, start_events, all_put, first_writes}
use Rattle.machine_state.specs.PreMade.{pre_made}
use Rattle.machine_state.specs.Accesses.{LastWrite, LastWriteLaw}
use Rattle.machine_state.specs.Laws.Locality.{AllHeld}
use Rattle.machine_state.proofs.NameTests.{some_is}
use Rattle.machine_state.proofs.Sources.{Source, idle, asks, wakes, of_taken}
use Rattle.machine_state.proofs.WriteLaws.{Agrees, no_read-body, silent, agrees-made, deed-right}
use Rattle.machine_state.proofs.LocalLaws.{local_served, local_retakes}

-- the reads of a step's deed are those that the heap holds
pub source-held : (image : Program) (m : State) (c : Choice) (d : Deed) → Source image m c d → AllHeld m.heap d.reads
source-held image m c d idle = tt
source-held image m c d (wakes n k d1 e) = (local_retakes m.heap c.name n c.thread k _ _ d1 e).reads
source-held image m c d (asks r d1 e) = (local_served image c.thread m c r d1 e).reads

-- the law holds of what was told, and the heap agrees with it
pub record Right (m : State) (told : List Told) : Type 0 where
  pub law : LastWrite told
  pub agrees : Agrees m.heap told

-- what a taken step leaves
moved-right : (image : Program) (m : State) (c : Choice) (th : ThreadState) (k : Taken) (told : List Told) → taken_by image m c th ≡ Some k → Right m told
    → Right (moved_on m c.thread th k) (onto (told_by (Some c.thread) (events_of k.deed)) told)
unfolding moved_on
moved-right image m c th k told e r =
    let both = deed-right (Some c.thread) k.deed (record m { threads = slice_set m.threads c.thread (after th k.stand) }) told (source-held image m c k.deed (of_taken image m c th k e)) (record { last = r.agrees.last }) r.law in
    record { law = both.0; agrees = both.1 }

-- a step keeps both
pub step-right : (image : Program) (m l : State) (c : Choice) (told : List Told) → step image m c ≡ Some l → Right m told → Right l (onto (step_events image m c) told)
unfolding step step_events
step-right image m l c told e r = by_thread (slice_get m.threads c.thread) e
  where
    by_taken : (th : ThreadState) (o : Option Taken) → taken_by image m c th ≡ o → from None (λ k. Some (moved_on m c.thread th k)) o ≡ Some l
        → Right l (onto (from [] (λ k. told_by (Some c.thread) (events_of k.deed)) o) told)
    by_taken th None h e = absurd cc
    by_taken th (Some k) h e = subst (λ (x : State). Right x (onto (told_by (Some c.thread) (events_of k.deed)) told)) (some_is e) (moved-right image m c th k told h r)

    by_thread : (o : Option ThreadState) → step_of image m c o ≡ Some l → Right l (onto (from [] (λ th. from [] (λ k. told_by (Some c.thread) (events_of k.deed)) (taken_by image m c th)) o) told)
    by_thread None e = absurd cc
    by_thread (Some th) e = by_taken th (taken_by image m c th) refl e

-- so does a run
run-right : (image : Program) (m : State) (told : List Told) (order : List Choice) → Right m told → LastWrite (run_events image m told order)
unfolding run_events
run-right image m told [] r = r.law
run-right image m told (c ∷ cs) r = by_step (step image m c) refl (λ l w. run-right image l (onto (step_events image m c) told) cs w)
  where
    by_step : (o : Option State) → step image m c ≡ o → ((l : State) → Right l (onto (step_events image m c) told) → LastWrite (run_events image l (onto (step_events image m c) told) cs))
        → LastWrite (from told (λ next. run_events image next (onto (step_events image m c) told) cs) o)
    by_step None e f = r.law
    by_step (Some l) e f = f l (step-right image m l c told e r)

-- the objects made before the first step
premade-right : (os : List (Name × ObjectBody)) (heap : Heap) (told : List Told) → LastWrite told → Agrees heap told → LastWrite (first_writes os told) × Agrees (all_put os heap) (first_writes os told)
premade-right [] heap told l a = (l, a)
premade-right (o ∷ os) heap told l a = premade-right os (put name_cmp o.0 o.1 heap) (onto (told_by None (body_writes o.0 o.1)) told) (silent None (body_writes o.0 o.1) told (no_read-body o.0 o.1) l) (agrees-made None heap o.0 o.1 told a)

-- the law
pub last-write : LastWriteLaw
unfolding start start_events
last-write image args order =
    let r = premade-right (pre_made image args) [] [] tt (record { last = λ p h e. absurd (nothing e) }) in
    run-right image (start image args) (start_events image args) order (record { law = r.0; agrees = r.1 })
  where
    nothing : {h : Held} → ◌≡◌ {A = Option Held} None (Some h) → ⊥
    nothing e = cc
