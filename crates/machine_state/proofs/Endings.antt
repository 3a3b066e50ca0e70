-- Threads that end by changes.
use Rattle.std.proofs.Common.{◌≡◌, ◌≢◌, ℕ, zero, suc, ◌-◌, Bool, true, false, ◌==◌, if◌then◌else◌, List, [], ◌∷◌, length, map, Option, Some, None, refl, sym, ap, ◌∙◌, subst}
use Rattle.std.proofs.lemmas.List.{length-set}
use Rattle.std.specs.Prelude.{slice_get, slice_set}
use Rattle.jvm_base.specs.declared.name.Name.{Name}
use Rattle.jvm_base.specs.Words.{from}
use Rattle.hierarchy.specs.Walks.{has}
use Rattle.program_image.specs.Program.{Program}
use Rattle.machine_state.specs.declared.state.Choice.{Choice}
use Rattle.machine_state.specs.declared.state.Mode.TheVariants.{Ended}
use Rattle.machine_state.specs.declared.state.MonitorState.{MonitorState}
use Rattle.machine_state.specs.declared.state.ThreadState.{ThreadState}
use Rattle.machine_state.specs.declared.request.Request.{Request}
use Rattle.machine_state.specs.Changes.{Change, Made, SetsField, SetsElement, SetsContent, Owned, Freed, Sleeps, Moved, MovedAll, Becomes, Started, Finished, Lost, Printed, ended, with_ended}
use Rattle.machine_state.specs.Deeds.{Deed, locking}
use Rattle.machine_state.specs.Events.{Retakes}
use Rattle.machine_state.specs.Locks.{owned, released, retakes}
use Rattle.machine_state.specs.State.{State, owner_at, waiters_of}
use Rattle.machine_state.proofs.LockDeeds.{Free, LockDeed, free, first, again, left, slept, nobody, somebody, everybody, lock_served}
use Rattle.machine_state.proofs.NameTests.{some_is, not_both, set_same, set_other}
use Rattle.machine_state.proofs.Sources.{Source, idle, asks, wakes}

-- each thread that ends is such a one
abbrev pub EndOnly : (ℕ → Type 0) → List Change → Type 0
EndOnly P [] = Unit {0}
EndOnly P (Finished t ∷ hs) = P t × EndOnly P hs
EndOnly P (h ∷ hs) = EndOnly P hs

-- no thread but this one ends
abbrev pub EndsOwn : ℕ → List Change → Type 0
EndsOwn t hs = EndOnly (λ u. u ≡ t) hs

-- what holds of this one holds of all that end
pub own_end_only : (P : ℕ → Type 0) (t : ℕ) (hs : List Change) → P t → EndsOwn t hs → EndOnly P hs
own_end_only P t [] p o = tt
own_end_only P t (Finished u ∷ hs) p o = (subst P (sym o.0) p, own_end_only P t hs p o.1)
own_end_only P t (Made n b ∷ hs) p o = own_end_only P t hs p o
own_end_only P t (SetsField n i v ∷ hs) p o = own_end_only P t hs p o
own_end_only P t (SetsElement n i v ∷ hs) p o = own_end_only P t hs p o
own_end_only P t (SetsContent n us ∷ hs) p o = own_end_only P t hs p o
own_end_only P t (Owned n x ∷ hs) p o = own_end_only P t hs p o
own_end_only P t (Freed n ∷ hs) p o = own_end_only P t hs p o
own_end_only P t (Sleeps n u ∷ hs) p o = own_end_only P t hs p o
own_end_only P t (Moved n u ∷ hs) p o = own_end_only P t hs p o
own_end_only P t (MovedAll n ∷ hs) p o = own_end_only P t hs p o
own_end_only P t (Becomes c s ∷ hs) p o = own_end_only P t hs p o
own_end_only P t (Started n ∷ hs) p o = own_end_only P t hs p o
own_end_only P t (Lost u ∷ hs) p o = own_end_only P t hs p o
own_end_only P t (Printed us ∷ hs) p o = own_end_only P t hs p o

-- ---- the table of threads

-- other threads are as before
pub ended_other : (ths : List ThreadState) (t u : ℕ) → u ≢ t → slice_get (with_ended t ths) u ≡ slice_get ths u
ended_other ths t u ne = by_thread (slice_get ths t)
  where
    by_thread : (o : Option ThreadState) → slice_get (from ths (λ th. slice_set ths t (ended th)) o) u ≡ slice_get ths u
    by_thread None = refl
    by_thread (Some th) = set_other ths t u (ended th) ne

-- the thread has ended
pub ended_mode : (ths : List ThreadState) (t : ℕ) (x : ThreadState) → slice_get (with_ended t ths) t ≡ Some x → x.mode ≡ Ended
ended_mode ths t x = by_thread (slice_get ths t) refl
  where
    by_thread : (o : Option ThreadState) → slice_get ths t ≡ o → slice_get (from ths (λ th. slice_set ths t (ended th)) o) t ≡ Some x → x.mode ≡ Ended
    by_thread None f e = absurd (not_both f e)
    by_thread (Some th) f e = ap (λ (y : ThreadState). y.mode) (set_same ths t (ended th) x e)

-- what is set is there
set_here : {A : Type 0} (xs : List A) (i : ℕ) (x y : A) → slice_get xs i ≡ Some y → slice_get (slice_set xs i x) i ≡ Some x
set_here [] i x y e = absurd cc
set_here (z ∷ zs) zero x y e = refl
set_here (z ∷ zs) (suc i) x y e = set_here zs i x y e

-- the thread has ended, if it was there
pub ended_own : (ths : List ThreadState) (t : ℕ) (th : ThreadState) → slice_get ths t ≡ Some th → slice_get (with_ended t ths) t ≡ Some (ended th)
ended_own ths t th e = ap (λ o. slice_get (from ths (λ x. slice_set ths t (ended x)) o) t) e ∙ set_here ths t (ended th) th e

-- what is not there after another was set was not there before
pub set_none : {A : Type 0} (xs : List A) (t u : ℕ) (y : A) → slice_get (slice_set xs t y) u ≡ None → slice_get xs u ≡ None
set_none [] t u y e = refl
set_none (x ∷ xs) zero zero y e = absurd cc
set_none (x ∷ xs) (suc t) zero y e = absurd cc
set_none (x ∷ xs) zero (suc u) y e = e
set_none (x ∷ xs) (suc t) (suc u) y e = set_none xs t u y e

-- nor what is not there after a thread has ended
pub ended_none : (ths : List ThreadState) (t u : ℕ) → slice_get (with_ended t ths) u ≡ None → slice_get ths u ≡ None
ended_none ths t u = by_thread (slice_get ths t)
  where
    by_thread : (o : Option ThreadState) → slice_get (from ths (λ th. slice_set ths t (ended th)) o) u ≡ None → slice_get ths u ≡ None
    by_thread None e = e
    by_thread (Some th) e = set_none ths t u (ended th) e

-- what no end changes is as before
pub ended_maps : {A : Type 0} (f : ThreadState → A) → ((th : ThreadState) → f (ended th) ≡ f th) → (ths : List ThreadState) (t : ℕ) → map f (with_ended t ths) ≡ map f ths
ended_maps f same ths t = by_thread (slice_get ths t) refl
  where
    set_maps : (xs : List ThreadState) (i : ℕ) (th : ThreadState) → slice_get xs i ≡ Some th → map f (slice_set xs i (ended th)) ≡ map f xs
    set_maps [] i th e = refl
    set_maps (x ∷ xs) zero th e = ap (λ y. y ∷ map f xs) (same th ∙ ap f (sym (some_is e)))
    set_maps (x ∷ xs) (suc i) th e = ap (λ ys. f x ∷ ys) (set_maps xs i th e)

    by_thread : (o : Option ThreadState) → slice_get ths t ≡ o → map f (from ths (λ th. slice_set ths t (ended th)) o) ≡ map f ths
    by_thread None e = refl
    by_thread (Some th) e = set_maps ths t th e

-- there are as many threads
pub ended_length : (ths : List ThreadState) (t : ℕ) → length (with_ended t ths) ≡ length ths
ended_length ths t = by_thread (slice_get ths t)
  where
    by_thread : (o : Option ThreadState) → length (from ths (λ th. slice_set ths t (ended th)) o) ≡ length ths
    by_thread None = refl
    by_thread (Some th) = length-set ths t (ended th)

-- ---- deeds

-- changes that are of no lock
free_own : (t : ℕ) (hs : List Change) → Free t hs → EndsOwn t hs
free_own t [] f = tt
free_own t (Finished u ∷ hs) f = (f.0, free_own t hs f.1)
free_own t (Made n b ∷ hs) f = free_own t hs f
free_own t (SetsField n i v ∷ hs) f = free_own t hs f
free_own t (SetsElement n i v ∷ hs) f = free_own t hs f
free_own t (SetsContent n us ∷ hs) f = free_own t hs f
free_own t (Owned n x ∷ hs) f = absurd f
free_own t (Freed n ∷ hs) f = absurd f
free_own t (Sleeps n u ∷ hs) f = absurd f
free_own t (Moved n u ∷ hs) f = absurd f
free_own t (MovedAll n ∷ hs) f = absurd f
free_own t (Becomes c s ∷ hs) f = free_own t hs f
free_own t (Started n ∷ hs) f = free_own t hs f
free_own t (Lost u ∷ hs) f = free_own t hs f
free_own t (Printed us ∷ hs) f = free_own t hs f

-- a lock that is left
released_own : (t : ℕ) (n : Name) (o : MonitorState) → EndsOwn t (released n o ∷ [])
released_own t n o = by_test (o.count == 1)
  where
    by_test : (b : Bool) → EndsOwn t ((if b then Freed n else Owned n (owned o.owner (o.count - 1))) ∷ [])
    by_test true = tt
    by_test false = tt

-- no thread but its own ends by a served request
pub own_end : (m : State) (t pick : ℕ) (r : Request) (d : Deed) → LockDeed m t pick r d → EndsOwn t d.changes
own_end m t pick r d (free e f s) = free_own t d.changes f
own_end m t pick r d (first n o e g s) = subst (EndsOwn t) (sym g) tt
own_end m t pick r d (again n o h i e g s) = subst (EndsOwn t) (sym g) tt
own_end m t pick r d (left n o h i e g s) = subst (EndsOwn t) (sym g) (released_own t n o)
own_end m t pick r d (slept n o h i e g s z) = subst (EndsOwn t) (sym g) tt
own_end m t pick r d (nobody n o h i w e g s) = subst (EndsOwn t) (sym g) tt
own_end m t pick r d (somebody n o h i w ne e g s) = subst (EndsOwn t) (sym g) tt
own_end m t pick r d (everybody n o h i e g s) = subst (EndsOwn t) (sym g) tt

-- none ends where a lock is taken again
retaken_own : (t : ℕ) (n : Name) (k : ℕ) (o : Option MonitorState) (ws : List ℕ) (d : Deed) → retakes t n k o ws ≡ Some d → EndsOwn t d.changes
retaken_own t n k (Some o) ws d e = absurd cc
retaken_own t n k None ws d e = by_test (has ws t) e
  where
    by_test : (b : Bool) → (if b then None else Some (locking (Retakes n) (Owned n (owned t k) ∷ []))) ≡ Some d → EndsOwn t d.changes
    by_test true e = absurd cc
    by_test false e = subst (λ (x : Deed). EndsOwn t x.changes) (some_is e) tt

-- so no other thread ends by a step
pub source_own : (image : Program) (m : State) (c : Choice) (d : Deed) → Source image m c d → EndsOwn c.thread d.changes
source_own image m c d idle = tt
source_own image m c d (asks r d1 e) = own_end m c.thread c.pick r d1 (lock_served image c.thread m c r d1 e)
source_own image m c d (wakes n k d1 e) = retaken_own c.thread n k (owner_at m.monitors n) (waiters_of n m.waiting) d1 e
