-- Bodies that were there and aren't addressed stay.
use Rattle.std.proofs.Common.{◌≡◌, ◌≢◌, ◌⊎◌, inl, inr, ℕ, Bool, true, false, ◌&&◌, if◌then◌else◌, List, [], ◌∷◌, Option, Some, None, refl, sym, ap, ◌∙◌, subst}
use Rattle.std.specs.Prelude.{slice_get, slice_set}
use Rattle.jvm_base.specs.declared.name.Name.{Name}
use Rattle.jvm_base.specs.declared.value.ObjectBody.{ObjectBody}
use Rattle.machine_state.specs.declared.state.Choice.{Choice}
use Rattle.machine_state.specs.declared.state.ThreadState.{ThreadState}
use Rattle.program_image.specs.Program.{Program}
use Rattle.jvm_base.specs.Names.{name_eq}
use Rattle.jvm_base.specs.Words.{from}
use Rattle.machine_state.specs.State.{State, Heap, body_at}
use Rattle.machine_state.specs.Changes.{with_field, with_element, with_content, Change, Made, SetsField, SetsElement, SetsContent, Owned, Freed, Sleeps, Moved, MovedAll, Becomes, Started, Finished, Lost, Printed, change, changed}
use Rattle.machine_state.specs.Requests.{Key, Nowhere, OfBody, OfLock, key_of}
use Rattle.machine_state.specs.Deeds.{Deed}
use Rattle.machine_state.specs.Serve.{pick_fits, name_fits}
use Rattle.machine_state.specs.Step.{Taken, after, moved_on, granted, taken_by, attempt, step, step_of}
use Rattle.machine_state.specs.Laws.Locality.{AreAt}
use Rattle.machine_state.specs.Laws.KeptBodies.{KeepsBodies, KeptLaw}
use Rattle.machine_state.proofs.NameTests.{some_is, not_both}
use Rattle.machine_state.proofs.Sources.{Source, idle, asks, wakes, of_taken}
use Rattle.machine_state.proofs.LocalLaws.{local_served, local_retakes}
use Rattle.machine_state.proofs.FrameLaws.{apart_or, put_apart, altered_apart}
use Rattle.machine_state.proofs.NewLaws.{AreMade, made_served, made_retakes, made_is_new}

-- a deed's changes lie at one key, and what it makes joins its demands
record Homes (name : Name) (d : Deed) : Type 0 where
  key : Key
  homes : AreAt key name d.changes
  made : AreMade name d.makes d.changes

-- a step's changes lie at one key, and what it makes joins its demands
homes_of : (image : Program) (m : State) (c : Choice) (d : Deed) → Source image m c d → Homes c.name d
homes_of image m c d idle = record { key = Nowhere; homes = tt; made = tt }
homes_of image m c d (asks r d1 e) = record { key = key_of r; homes = (local_served image c.thread m c r d1 e).homes; made = made_served image c.thread m c r d1 e }
homes_of image m c d (wakes n k d1 e) = record { key = OfLock n; homes = (local_retakes m.heap c.name n c.thread k _ _ d1 e).homes; made = made_retakes c.name c.thread n k _ _ d1 e }

-- the name of a granted step fits
fits_of : (m : State) (c : Choice) (th : ThreadState) (o : Option Taken) (k : Taken) → granted m c o ≡ Some k → name_fits m.heap c.name k.deed.makes ≡ true
fits_of m c th None k h = absurd cc
fits_of m c th (Some x) k h = by_test (pick_fits c.pick x.deed.waiters) (name_fits m.heap c.name x.deed.makes) refl h
  where
    by_test : (p q : Bool) → name_fits m.heap c.name x.deed.makes ≡ q → (if p && q then Some x else None) ≡ Some k → name_fits m.heap c.name k.deed.makes ≡ true
    by_test true true e h = subst (λ (y : Taken). name_fits m.heap c.name y.deed.makes ≡ true) (some_is h) e
    by_test true false e h = absurd cc
    by_test false q e h = absurd cc

-- a name with a body isn't one without
pub differs : (heap : Heap) (n q : Name) (b : ObjectBody) → body_at heap n ≡ Some b → body_at heap q ≡ None → name_eq n q ≡ false
differs heap n q b e f = by_name (apart_or n q)
  where
    by_name : (n ≡ q) ⊎ (name_eq n q ≡ false) → name_eq n q ≡ false
    by_name (inl h) = absurd (not_both (ap (λ (x : Name). body_at heap x) h ∙ f) e)
    by_name (inr h) = h

-- another body than the addressed one
addressed : (key : Key) (n q : Name) → key ≡ OfBody q → OfBody n ≢ key → name_eq n q ≡ false
addressed key n q a ne = by_name (apart_or n q)
  where
    by_name : (n ≡ q) ⊎ (name_eq n q ≡ false) → name_eq n q ≡ false
    by_name (inl h) = absurd (ne (ap OfBody h ∙ sym a))
    by_name (inr h) = h

-- changes keep a body that is there and is not addressed
pub kept : (heap : Heap) (key : Key) (name : Name) (makes : List ℕ) (n : Name) (b : ObjectBody) → name_fits heap name makes ≡ true → body_at heap n ≡ Some b → OfBody n ≢ key
    → (hs : List Change) (m : State) → AreAt key name hs → AreMade name makes hs → body_at m.heap n ≡ Some b → body_at (changed hs m).heap n ≡ Some b
kept heap key name makes n b f e ne [] m a d h = h
kept heap key name makes n b f e ne (Made q x ∷ hs) m a d h = kept heap key name makes n b f e ne hs (change (Made q x) m) a.1 d.1 (put_apart m.heap q n x (differs heap n q b e (made_is_new heap name makes q f d.0)) ∙ h)
kept heap key name makes n b f e ne (SetsField q i v ∷ hs) m a d h = kept heap key name makes n b f e ne hs (change (SetsField q i v) m) a.1 d (altered_apart m.heap q n (with_field i v) (addressed key n q a.0 ne) ∙ h)
kept heap key name makes n b f e ne (SetsElement q i v ∷ hs) m a d h = kept heap key name makes n b f e ne hs (change (SetsElement q i v) m) a.1 d (altered_apart m.heap q n (with_element i v) (addressed key n q a.0 ne) ∙ h)
kept heap key name makes n b f e ne (SetsContent q us ∷ hs) m a d h = kept heap key name makes n b f e ne hs (change (SetsContent q us) m) a.1 d (altered_apart m.heap q n (with_content us) (addressed key n q a.0.0 ne) ∙ h)
kept heap key name makes n b f e ne (Owned q o ∷ hs) m a d h = kept heap key name makes n b f e ne hs (change (Owned q o) m) a.1 d h
kept heap key name makes n b f e ne (Freed q ∷ hs) m a d h = kept heap key name makes n b f e ne hs (change (Freed q) m) a.1 d h
kept heap key name makes n b f e ne (Sleeps q t ∷ hs) m a d h = kept heap key name makes n b f e ne hs (change (Sleeps q t) m) a.1 d h
kept heap key name makes n b f e ne (Moved q t ∷ hs) m a d h = kept heap key name makes n b f e ne hs (change (Moved q t) m) a.1 d h
kept heap key name makes n b f e ne (MovedAll q ∷ hs) m a d h = kept heap key name makes n b f e ne hs (change (MovedAll q) m) a.1 d h
kept heap key name makes n b f e ne (Becomes c s ∷ hs) m a d h = kept heap key name makes n b f e ne hs (change (Becomes c s) m) a.1 d h
kept heap key name makes n b f e ne (Started q ∷ hs) m a d h = kept heap key name makes n b f e ne hs (change (Started q) m) a.1 d h
kept heap key name makes n b f e ne (Finished t ∷ hs) m a d h = kept heap key name makes n b f e ne hs (change (Finished t) m) a.1 d h
kept heap key name makes n b f e ne (Lost u ∷ hs) m a d h = kept heap key name makes n b f e ne hs (change (Lost u) m) a.1 d h
kept heap key name makes n b f e ne (Printed us ∷ hs) m a d h = kept heap key name makes n b f e ne hs (change (Printed us) m) a.1 d h

-- so does a taken step
moved_keeps : (image : Program) (m : State) (c : Choice) (th : ThreadState) (k : Taken) → taken_by image m c th ≡ Some k → KeepsBodies m (moved_on m c.thread th k)
unfolding moved_on taken_by
moved_keeps image m c th k e =
    let h = homes_of image m c k.deed (of_taken image m c th k e) in
    record { key = h.key; kept = λ n b ne g. kept m.heap h.key c.name k.deed.makes n b (fits_of m c th (attempt image m c th) k e) g ne k.deed.changes (record m { threads = slice_set m.threads c.thread (after th k.stand) }) h.homes h.made g }

-- the law
pub keeps_bodies : KeptLaw
unfolding step
keeps_bodies image m l c e = by_thread (slice_get m.threads c.thread) e
  where
    by_taken : (th : ThreadState) (o : Option Taken) → taken_by image m c th ≡ o → from None (λ k. Some (moved_on m c.thread th k)) o ≡ Some l → KeepsBodies m l
    by_taken th None h e = absurd cc
    by_taken th (Some k) h e = subst (λ (x : State). KeepsBodies m x) (some_is e) (moved_keeps image m c th k h)

    by_thread : (o : Option ThreadState) → step_of image m c o ≡ Some l → KeepsBodies m l
    by_thread None e = absurd cc
    by_thread (Some th) e = by_taken th (taken_by image m c th) refl e
