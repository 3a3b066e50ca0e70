-- What a step leaves as it is.
use Rattle.std.proofs.Common.{◌≡◌, ◌≢◌, ◌⊎◌, inl, inr, ℕ, zero, suc, Bool, true, false, cond, not, ◌&&◌, ◌==◌, if◌then◌else◌, List, [], ◌∷◌, ◌++◌, Option, Some, None, refl, sym, ap, ◌∙◌, subst}
use Rattle.std.specs.Prelude.{slice_get, slice_set}
use Rattle.std.specs.Cmp.{eq_by_cmp_equiv}
use Rattle.jvm_base.specs.declared.name.Name.{Name}
use Rattle.jvm_base.specs.declared.value.ObjectBody.{ObjectBody}
use Rattle.jvm_base.proofs.NameLaws.{exact_names, name_eq-true}
use Rattle.machine_state.specs.declared.state.Choice.{Choice}
use Rattle.machine_state.specs.declared.state.ThreadState.{ThreadState}
use Rattle.machine_state.specs.declared.state.Waiter.{Waiter}
use Rattle.jvm_base.specs.Maps.{find, put, replace}
use Rattle.machine_state.proofs.MapLaws.{find-put, find-where_key, find-replace}
use Rattle.program_image.specs.Program.{Program}
use Rattle.jvm_base.specs.Names.{name_cmp, name_eq}
use Rattle.jvm_base.specs.Words.{from}
use Rattle.machine_state.specs.State.{State, Heap, body_at, Owners, owner_at, waiters_of}
use Rattle.machine_state.specs.Changes.{waiter, without_waiter, without_waiters, without_owner, altered, with_field, with_element, with_content, Change, Made, SetsField, SetsElement, SetsContent, Owned, Freed, Sleeps, Moved, MovedAll, Becomes, Started, Finished, Lost, Printed, ended, with_ended, change, changed}
use Rattle.machine_state.specs.Requests.{Key, Nowhere, OfBody, OfLock, OfClass, OfThreads, OfConsole, Body, Lock, Class, cell, key_of}
use Rattle.machine_state.specs.Deeds.{Deed}
use Rattle.machine_state.specs.Step.{Taken, after, moved_on, taken_by, step, step_of}
use Rattle.machine_state.specs.Laws.Locality.{IsAt, AreAt}
use Rattle.machine_state.specs.Laws.Framing.{Elsewhere, OneHome, OneHomeLaw, OtherThreadsLaw}
use Rattle.machine_state.proofs.NameTests.{names_total, same_or, some_is, set_other}
use Rattle.machine_state.proofs.Sources.{Source, idle, asks, wakes, of_taken}
use Rattle.machine_state.proofs.LocalLaws.{local_served, local_retakes}
use Rattle.machine_state.proofs.Endings.{EndsOwn, ended_other, ended_own, source_own}

-- two names are one or a test tells them apart
pub apart_or : (a b : Name) → (a ≡ b) ⊎ (name_eq a b ≡ false)
apart_or a b = by_test (name_eq a b) refl
  where
    by_test : (t : Bool) → name_eq a b ≡ t → (a ≡ b) ⊎ (name_eq a b ≡ false)
    by_test true e = inl (name_eq-true a b e)
    by_test false e = inr e

-- names may be compared either way
pub eq_turned : (a b : Name) → name_eq a b ≡ name_eq b a
eq_turned a b = (eq_by_cmp_equiv names_total).symm a b

-- ---- maps and lists at another name

-- another entry stays where one is put
pub put_apart : {X : Type 0} (es : List (Name × X)) (n q : Name) (x : X) → name_eq q n ≡ false → find name_cmp q (put name_cmp n x es) ≡ find name_cmp q es
put_apart es n q x e = find-put name_cmp names_total q n x es ∙ ap (λ t. cond t (Some x) (find name_cmp q es)) e

-- another body stays where one is altered
pub altered_apart : (heap : Heap) (n q : Name) (f : ObjectBody → ObjectBody) → name_eq q n ≡ false → body_at (altered heap n f) q ≡ body_at heap q
altered_apart heap n q f e = by_body (body_at heap n) refl
  where
    by_body : (o : Option ObjectBody) → body_at heap n ≡ o → body_at (from heap (λ b. replace name_cmp n (f b) heap) o) q ≡ body_at heap q
    by_body None h = refl
    by_body (Some b) h = find-replace n q (f b) b heap h ∙ ap (λ t. cond t (Some (f b)) (body_at heap q)) e

-- other locks keep their owners
pub freed_apart : (os : Owners) (n q : Name) → name_eq q n ≡ false → owner_at (without_owner n os) q ≡ owner_at os q
freed_apart os n q e = find-where_key name_cmp (λ x. not (name_eq n x)) q (λ x h. ap (λ (y : Name). not (name_eq n y)) (sym (exact_names q x h))) os ∙ ap (λ t. cond (not t) (owner_at os q) None) (eq_turned n q ∙ e)

-- other locks keep their sleepers where a thread falls asleep
pub sleeps_apart : (ws : List Waiter) (n q : Name) (t : ℕ) → name_eq n q ≡ false → waiters_of q (ws ++ waiter n t ∷ []) ≡ waiters_of q ws
sleeps_apart [] n q t e = ap (λ x. if x then t ∷ [] else []) e
sleeps_apart (w ∷ ws) n q t e = ap (λ x. if name_eq w.lock q then w.thread ∷ x else x) (sleeps_apart ws n q t e)

-- a waiter of n taken off, or kept
off : (w : Waiter) (ws rest : List Waiter) (n q : Name) (b : Bool) → name_eq n q ≡ false → waiters_of q rest ≡ waiters_of q ws → (a : Bool) → name_eq w.lock n ≡ a → waiters_of q (if not (a && b) then w ∷ rest else rest) ≡ waiters_of q (w ∷ ws)
off w ws rest n q b e more false g = ap (λ x. if name_eq w.lock q then w.thread ∷ x else x) more
off w ws rest n q false e more true g = ap (λ x. if name_eq w.lock q then w.thread ∷ x else x) more
off w ws rest n q true e more true g = more ∙ sym (ap (λ x. if x then w.thread ∷ waiters_of q ws else waiters_of q ws) (ap (λ (y : Name). name_eq y q) (name_eq-true w.lock n g) ∙ e))

-- where one is woken
pub moved_apart : (ws : List Waiter) (n q : Name) (t : ℕ) → name_eq n q ≡ false → waiters_of q (without_waiter n t ws) ≡ waiters_of q ws
moved_apart [] n q t e = refl
moved_apart (w ∷ ws) n q t e = off w ws (without_waiter n t ws) n q (w.thread == t) e (moved_apart ws n q t e) (name_eq w.lock n) refl

-- and where all are
pub all_moved_apart : (ws : List Waiter) (n q : Name) → name_eq n q ≡ false → waiters_of q (without_waiters n ws) ≡ waiters_of q ws
all_moved_apart [] n q e = refl
all_moved_apart (w ∷ ws) n q e = by_test (name_eq w.lock n) refl (all_moved_apart ws n q e)
  where
    by_test : (a : Bool) → name_eq w.lock n ≡ a → waiters_of q (without_waiters n ws) ≡ waiters_of q ws → waiters_of q (if not a then w ∷ without_waiters n ws else without_waiters n ws) ≡ waiters_of q (w ∷ ws)
    by_test false g more = ap (λ x. if name_eq w.lock q then w.thread ∷ x else x) more
    by_test true g more = more ∙ sym (ap (λ x. if x then w.thread ∷ waiters_of q ws else waiters_of q ws) (ap (λ (y : Name). name_eq y q) (name_eq-true w.lock n g) ∙ e))

-- ---- a change elsewhere

-- a body that isn't addressed is another's
apart_body : (key : Key) (n q : Name) → key ≡ OfBody n → OfBody q ≢ key → name_eq q n ≡ false
apart_body key n q a ne = by_name (apart_or q n)
  where
    by_name : (q ≡ n) ⊎ (name_eq q n ≡ false) → name_eq q n ≡ false
    by_name (inl e) = absurd (ne (ap OfBody e ∙ sym a))
    by_name (inr e) = e

-- a lock that isn't addressed is another's
apart_lock : (key : Key) (n q : Name) → key ≡ OfLock n → OfLock q ≢ key → name_eq q n ≡ false
apart_lock key n q a ne = by_name (apart_or q n)
  where
    by_name : (q ≡ n) ⊎ (name_eq q n ≡ false) → name_eq q n ≡ false
    by_name (inl e) = absurd (ne (ap OfLock e ∙ sym a))
    by_name (inr e) = e

-- a body on another node is not one that is made
apart_made : (n q : Name) (node : ℕ) → n.node ≡ node → q.node ≢ node → name_eq q n ≡ false
apart_made n q node a ne = by_name (apart_or q n)
  where
    by_name : (q ≡ n) ⊎ (name_eq q n ≡ false) → name_eq q n ≡ false
    by_name (inl e) = absurd (ne (ap (λ (x : Name). x.node) e ∙ a))
    by_name (inr e) = e

-- cells of each kind, where a change is elsewhere
pub change-apart : (key : Key) (name : Name) (h : Change) (m : State) (k : Key) → IsAt key name h → Elsewhere key name.node k → cell (change h m) k ≡ cell m k
change-apart key name h m OfThreads a w = absurd (w.threads refl)
change-apart key name (Made n b) m (OfBody q) a w = ap Body (put_apart m.heap n q b (apart_made n q name.node a (w.away q refl)))
change-apart key name (SetsField n i v) m (OfBody q) a w = ap Body (altered_apart m.heap n q (with_field i v) (apart_body key n q a w.other))
change-apart key name (SetsElement n i v) m (OfBody q) a w = ap Body (altered_apart m.heap n q (with_element i v) (apart_body key n q a w.other))
change-apart key name (SetsContent n us) m (OfBody q) a w = ap Body (altered_apart m.heap n q (with_content us) (apart_body key n q a.0 w.other))
change-apart key name (Owned n o) m (OfLock q) a w = ap (λ x. Lock x (waiters_of q m.waiting)) (put_apart m.monitors n q o (apart_lock key n q a w.other))
change-apart key name (Freed n) m (OfLock q) a w = ap (λ x. Lock x (waiters_of q m.waiting)) (freed_apart m.monitors n q (apart_lock key n q a w.other))
change-apart key name (Sleeps n t) m (OfLock q) a w = ap (Lock (owner_at m.monitors q)) (sleeps_apart m.waiting n q t (eq_turned n q ∙ apart_lock key n q a w.other))
change-apart key name (Moved n t) m (OfLock q) a w = ap (Lock (owner_at m.monitors q)) (moved_apart m.waiting n q t (eq_turned n q ∙ apart_lock key n q a w.other))
change-apart key name (MovedAll n) m (OfLock q) a w = ap (Lock (owner_at m.monitors q)) (all_moved_apart m.waiting n q (eq_turned n q ∙ apart_lock key n q a w.other))
change-apart key name (Becomes c s) m (OfClass q) a w = ap Class (set_other m.classes c q s (λ e. w.other (ap OfClass e ∙ sym a)))
change-apart key name (Printed us) m OfConsole a w = absurd (w.other (sym a))
change-apart key name h m k a w = refl

-- changes leave what lies elsewhere
pub changes-apart : (key : Key) (name : Name) (hs : List Change) (m : State) (k : Key) → AreAt key name hs → Elsewhere key name.node k → cell (changed hs m) k ≡ cell m k
changes-apart key name [] m k a w = refl
changes-apart key name (h ∷ hs) m k a w = changes-apart key name hs (change h m) k a.1 w ∙ change-apart key name h m k a.0 w

-- the key at which a step's changes are
record AtOne (name : Name) (d : Deed) : Type 0 where
  key : Key
  homes : AreAt key name d.changes

-- a step's changes lie at one key
at_one : (image : Program) (m : State) (c : Choice) (d : Deed) → Source image m c d → AtOne c.name d
at_one image m c d idle = record { key = Nowhere; homes = tt }
at_one image m c d (asks r d1 e) = record { key = key_of r; homes = (local_served image c.thread m c r d1 e).homes }
at_one image m c d (wakes n k d1 e) = record { key = OfLock n; homes = (local_retakes m.heap c.name n c.thread k _ _ d1 e).homes }

-- a thread's own new state shows in no cell but the table of threads
pub own_apart : (m : State) (t : ℕ) (th : ThreadState) (k : Key) → k ≢ OfThreads → cell (record m { threads = slice_set m.threads t th }) k ≡ cell m k
own_apart m t th Nowhere ne = refl
own_apart m t th (OfBody n) ne = refl
own_apart m t th (OfLock n) ne = refl
own_apart m t th (OfClass c) ne = refl
own_apart m t th OfThreads ne = absurd (ne refl)
own_apart m t th OfConsole ne = refl

-- what a taken step leaves as it is
moved_one : (image : Program) (m : State) (c : Choice) (th : ThreadState) (k : Taken) → taken_by image m c th ≡ Some k → OneHome m (moved_on m c.thread th k) c
unfolding moved_on
moved_one image m c th k e =
    let a = at_one image m c k.deed (of_taken image m c th k e) in
    record { key = a.key; rest = λ q w. changes-apart a.key c.name k.deed.changes (record m { threads = slice_set m.threads c.thread (after th k.stand) }) q a.homes w ∙ own_apart m c.thread (after th k.stand) q w.threads }

-- the law
pub one_home : OneHomeLaw
unfolding step
one_home image m l c e = by_thread (slice_get m.threads c.thread) e
  where
    by_taken : (th : ThreadState) (o : Option Taken) → taken_by image m c th ≡ o → from None (λ k. Some (moved_on m c.thread th k)) o ≡ Some l → OneHome m l c
    by_taken th None h e = absurd cc
    by_taken th (Some k) h e = subst (λ (x : State). OneHome m x c) (some_is e) (moved_one image m c th k h)

    by_thread : (o : Option ThreadState) → step_of image m c o ≡ Some l → OneHome m l c
    by_thread None e = absurd cc
    by_thread (Some th) e = by_taken th (taken_by image m c th) refl e

-- ---- other threads

-- what was there is there where a list grows
pub get_append : {A : Type 0} (xs ys : List A) (u : ℕ) (x : A) → slice_get xs u ≡ Some x → slice_get (xs ++ ys) u ≡ Some x
get_append [] ys u x e = absurd cc
get_append (y ∷ xs) ys zero x e = e
get_append (y ∷ xs) ys (suc u) x e = get_append xs ys u x e

-- changes leave the threads that are there, but for the one that ends
pub threads_kept : (t : ℕ) (hs : List Change) (m : State) (u : ℕ) (th : ThreadState) → EndsOwn t hs → u ≢ t → slice_get m.threads u ≡ Some th → slice_get (changed hs m).threads u ≡ Some th
threads_kept t [] m u th o ne e = e
threads_kept t (Started n ∷ hs) m u th o ne e = threads_kept t hs (change (Started n) m) u th o ne (get_append m.threads _ u th e)
threads_kept t (Finished x ∷ hs) m u th o ne e = threads_kept t hs (change (Finished x) m) u th o.1 ne (ended_other m.threads x u (λ h. ne (h ∙ o.0)) ∙ e)
threads_kept t (Made n b ∷ hs) m u th o ne e = threads_kept t hs (change (Made n b) m) u th o ne e
threads_kept t (SetsField n i v ∷ hs) m u th o ne e = threads_kept t hs (change (SetsField n i v) m) u th o ne e
threads_kept t (SetsElement n i v ∷ hs) m u th o ne e = threads_kept t hs (change (SetsElement n i v) m) u th o ne e
threads_kept t (SetsContent n us ∷ hs) m u th o ne e = threads_kept t hs (change (SetsContent n us) m) u th o ne e
threads_kept t (Owned n x ∷ hs) m u th o ne e = threads_kept t hs (change (Owned n x) m) u th o ne e
threads_kept t (Freed n ∷ hs) m u th o ne e = threads_kept t hs (change (Freed n) m) u th o ne e
threads_kept t (Sleeps n x ∷ hs) m u th o ne e = threads_kept t hs (change (Sleeps n x) m) u th o ne e
threads_kept t (Moved n x ∷ hs) m u th o ne e = threads_kept t hs (change (Moved n x) m) u th o ne e
threads_kept t (MovedAll n ∷ hs) m u th o ne e = threads_kept t hs (change (MovedAll n) m) u th o ne e
threads_kept t (Becomes c s ∷ hs) m u th o ne e = threads_kept t hs (change (Becomes c s) m) u th o ne e
threads_kept t (Lost x ∷ hs) m u th o ne e = threads_kept t hs (change (Lost x) m) u th o ne e
threads_kept t (Printed us ∷ hs) m u th o ne e = threads_kept t hs (change (Printed us) m) u th o ne e

-- a thread that is there, but that it may have ended
pub record Lasts (ths : List ThreadState) (u : ℕ) (th : ThreadState) : Type 0 where
  pub thread : ThreadState
  pub is_there : slice_get ths u ≡ Some thread
  pub levels : thread.levels ≡ th.levels

-- changes take no thread away
pub threads_last : (hs : List Change) (m : State) (u : ℕ) (th : ThreadState) → slice_get m.threads u ≡ Some th → Lasts (changed hs m).threads u th
threads_last [] m u th e = record { thread = th; is_there = e; levels = refl }
threads_last (Started n ∷ hs) m u th e = threads_last hs (change (Started n) m) u th (get_append m.threads _ u th e)
threads_last (Finished x ∷ hs) m u th e = by_place (same_or u x) (threads_last hs (change (Finished x) m) u)
  where
    last : State
    last = changed hs (change (Finished x) m)

    by_place : (u ≡ x) ⊎ (u ≢ x) → ((own : ThreadState) → slice_get (with_ended x m.threads) u ≡ Some own → Lasts last.threads u own) → Lasts last.threads u th
    by_place (inl h) rest =
        let here : slice_get (with_ended x m.threads) u ≡ Some (ended th) = ap (λ (y : ℕ). slice_get (with_ended y m.threads) u) (sym h) ∙ ended_own m.threads u th e in
        let l = rest (ended th) here in
        record { thread = l.thread; is_there = l.is_there; levels = l.levels }
    by_place (inr ne) rest = rest th (ended_other m.threads x u ne ∙ e)
threads_last (Made n b ∷ hs) m u th e = threads_last hs (change (Made n b) m) u th e
threads_last (SetsField n i v ∷ hs) m u th e = threads_last hs (change (SetsField n i v) m) u th e
threads_last (SetsElement n i v ∷ hs) m u th e = threads_last hs (change (SetsElement n i v) m) u th e
threads_last (SetsContent n us ∷ hs) m u th e = threads_last hs (change (SetsContent n us) m) u th e
threads_last (Owned n x ∷ hs) m u th e = threads_last hs (change (Owned n x) m) u th e
threads_last (Freed n ∷ hs) m u th e = threads_last hs (change (Freed n) m) u th e
threads_last (Sleeps n x ∷ hs) m u th e = threads_last hs (change (Sleeps n x) m) u th e
threads_last (Moved n x ∷ hs) m u th e = threads_last hs (change (Moved n x) m) u th e
threads_last (MovedAll n ∷ hs) m u th e = threads_last hs (change (MovedAll n) m) u th e
threads_last (Becomes c s ∷ hs) m u th e = threads_last hs (change (Becomes c s) m) u th e
threads_last (Lost x ∷ hs) m u th e = threads_last hs (change (Lost x) m) u th e
threads_last (Printed us ∷ hs) m u th e = threads_last hs (change (Printed us) m) u th e

-- the law
pub other_threads : OtherThreadsLaw
unfolding step moved_on
other_threads image m l c u th e ne h = by_thread (slice_get m.threads c.thread) e
  where
    by_taken : (own : ThreadState) (o : Option Taken) → taken_by image m c own ≡ o → from None (λ k. Some (moved_on m c.thread own k)) o ≡ Some l → slice_get l.threads u ≡ Some th
    by_taken own None g e = absurd cc
    by_taken own (Some k) g e = subst (λ (x : State). slice_get x.threads u ≡ Some th) (some_is e) (threads_kept c.thread k.deed.changes (record m { threads = slice_set m.threads c.thread (after own k.stand) }) u th (source_own image m c k.deed (of_taken image m c own k g)) ne (set_other m.threads c.thread u (after own k.stand) ne ∙ h))

    by_thread : (o : Option ThreadState) → step_of image m c o ≡ Some l → slice_get l.threads u ≡ Some th
    by_thread None e = absurd cc
    by_thread (Some own) e = by_taken own (taken_by image m c own) refl e
