-- The state after a step's changes: all but the thread that stepped.
use Rattle.std.proofs.Common.{Bool, List, None, Option, Some, [], ap, cond, false, if◌then◌else◌, inl, inr, length, not, refl, slice_get, slice_set, subst, suc, sym, true, zero, ℕ, ◌++◌, ◌∙◌, ◌∷◌, ◌≡◌, ◌≢◌, ◌⊎◌}
use Rattle.std.proofs.lemmas.List.{length-set}
use Rattle.std.specs.Prelude.{filter}
use Rattle.jvm_base.proofs.NameLaws.{exact_names}
use Rattle.jvm_base.specs.Maps.{find, put}
use Rattle.jvm_base.specs.Names.{name_cmp, name_eq}
use Rattle.jvm_base.specs.Words.{from}
use Rattle.jvm_base.specs.declared.frame.Level.{Level}
use Rattle.jvm_base.specs.declared.name.Name.{Name}
use Rattle.program_image.specs.Program.{Program}
use Rattle.machine_state.proofs.MapLaws.{find-where_key}
use Rattle.machine_state.proofs.NameTests.{same_or, set_other, set_same, some_is}
use Rattle.machine_state.specs.Changes.{Becomes, Change, Finished, Freed, Made, Moved, MovedAll, Owned, SetsContent, SetsElement, SetsField, Sleeps, Started, altered, change, changed, ended, new_thread, waiter, with_content, with_element, with_ended, with_field, without_owner}
use Rattle.machine_state.specs.State.{Owners, State, owner_at}
use Rattle.machine_state.specs.Step.{Taken, after, moved_on}
use Rattle.machine_state.specs.declared.state.Mode.{Mode}
use Rattle.machine_state.specs.declared.state.Mode.TheVariants.{Ended, Entry, Raising, Running, Waiting}
use Rattle.machine_state.specs.declared.state.MonitorState.{MonitorState}
use Rattle.machine_state.specs.declared.state.ThreadState.{ThreadState}
use Rattle.machine_state.specs.declared.state.Waiter.{Waiter}
use Rattle.frame_soundness.proofs.GrowLaws.{Grows}
use Rattle.frame_soundness.specs.AcceptedProgram.{Types}
use Rattle.machine_soundness.proofs.HeapLaws.{BodiesFit, ChangeFits, ChangesFit, bodies-grow, changes-grow, changes-keep, put-holds}
use Rattle.machine_soundness.proofs.LevelGrowth.{levels-grow}
use Rattle.machine_soundness.specs.Bodies.{there_in}
use Rattle.machine_soundness.specs.Levels.{IsThread, LevelsFit, ModeFits, ThreadFits}
use Rattle.machine_soundness.specs.Sound.{AreThere, Premade, Sound}

-- the heap after changes comes of the heap before alone
change-heap : (c : Change) (m l : State) → m.heap ≡ l.heap → (change c m).heap ≡ (change c l).heap
change-heap (Made n b) m l e = ap (put name_cmp n b) e
change-heap (SetsField n i v) m l e = ap (λ h. altered h n (with_field i v)) e
change-heap (SetsElement n i v) m l e = ap (λ h. altered h n (with_element i v)) e
change-heap (SetsContent n us) m l e = ap (λ h. altered h n (with_content us)) e
change-heap _ m l e = e

-- so after changes one after the other
pub changes-heap : (cs : List Change) (m l : State) → m.heap ≡ l.heap → (changed cs m).heap ≡ (changed cs l).heap
changes-heap [] m l e = e
changes-heap (c ∷ cs) m l e = changes-heap cs (change c m) (change c l) (change-heap c m l e)

-- ---- threads

-- an item of a list with one more is of the list, or is that one
get-append : {A : Type 0} (xs : List A) (x y : A) (i : ℕ) → slice_get (xs ++ x ∷ []) i ≡ Some y → (slice_get xs i ≡ Some y) ⊎ (y ≡ x)
get-append [] x y zero h = inr (sym (some_is h))
get-append [] x y (suc i) h = absurd cc
get-append (z ∷ xs) x y zero h = inl h
get-append (z ∷ xs) x y (suc i) h = get-append xs x y i h

-- an item of a list in which one was set is of the list, or is that one
get-set : {A : Type 0} (xs : List A) (i j : ℕ) (x y : A) → slice_get (slice_set xs i x) j ≡ Some y → (slice_get xs j ≡ Some y) ⊎ (y ≡ x)
get-set xs i j x y h = by_place (same_or j i)
  where
    by_place : (j ≡ i) ⊎ (j ≢ i) → (slice_get xs j ≡ Some y) ⊎ (y ≡ x)
    by_place (inl e) = inr (set_same xs i x y (subst (λ z. slice_get (slice_set xs i x) z ≡ Some y) e h))
    by_place (inr ne) = inl (sym (set_other xs i j x ne) ∙ h)

module _ (image : Program) (types : Types) (more : Name → Bool) where
  -- each thread fits
  abbrev ThreadsFit : List ThreadState → Type 0
  ThreadsFit ths = (t : ℕ) (th : ThreadState) → slice_get ths t ≡ Some th → ThreadFits image types more th

  -- each lock that is owned is there
  abbrev OwnersFit : Owners → Type 0
  OwnersFit os = (n : Name) (o : MonitorState) → owner_at os n ≡ Some o → more n ≡ true

  -- a thread before its first step fits
  new-fits : (n : Name) → IsThread image more n → ThreadFits image types more (new_thread n)
  new-fits n h = record { object = h; levels = refl }

  -- so does one after its last step
  levels-ended : (mode : Mode) (ls : List Level) → ModeFits image types more mode ls → ModeFits image types more Ended ls
  levels-ended Entry ls h = (None, subst (λ x. LevelsFit image types more None x) (sym h) tt)
  levels-ended Running ls h = (None, h)
  levels-ended (Raising e) ls h = (Some e, h.1)
  levels-ended (Waiting n k) ls h = (None, h.1)
  levels-ended Ended ls h = h

  ended-fits : (th : ThreadState) → ThreadFits image types more th → ThreadFits image types more (ended th)
  ended-fits th h = record { object = h.object; levels = levels-ended th.mode th.levels h.levels }

  -- threads fit where one has ended
  all-ended-fit : (t : ℕ) (ths : List ThreadState) → ThreadsFit ths → ThreadsFit (with_ended t ths)
  all-ended-fit t ths fit u th e = by_thread (slice_get ths t) refl e
    where
      by_case : (x : ThreadState) → slice_get ths t ≡ Some x → (slice_get ths u ≡ Some th) ⊎ (th ≡ ended x) → ThreadFits image types more th
      by_case x f (inl p) = fit u th p
      by_case x f (inr p) = subst (λ y. ThreadFits image types more y) (sym p) (ended-fits x (fit t x f))

      by_thread : (o : Option ThreadState) → slice_get ths t ≡ o → slice_get (from ths (λ x. slice_set ths t (ended x)) o) u ≡ Some th → ThreadFits image types more th
      by_thread None f e = fit u th e
      by_thread (Some x) f e = by_case x f (get-set ths t u (ended x) th e)

  -- threads fit after a change that fits
  threads-fit : (c : Change) (m : State) → ChangeFits image more c → ThreadsFit m.threads → ThreadsFit (change c m).threads
  threads-fit (Started n) m h fit = λ t th e. by_case t th (get-append m.threads (new_thread n) th t e)
    where
      by_case : (t : ℕ) (th : ThreadState) → (slice_get m.threads t ≡ Some th) ⊎ (th ≡ new_thread n) → ThreadFits image types more th
      by_case t th (inl p) = fit t th p
      by_case t th (inr p) = subst (λ x. ThreadFits image types more x) (sym p) (new-fits n h)
  threads-fit (Finished t) m h fit = all-ended-fit t m.threads fit
  threads-fit _ m h fit = fit

  -- a lock is free
  owners-without : (os : Owners) (n : Name) → OwnersFit os → OwnersFit (without_owner n os)
  owners-without os n fit q x e = by_test (not (name_eq n q)) (sym (find-where_key name_cmp (λ y. not (name_eq n y)) q (λ y r. ap (λ z. not (name_eq n z)) (sym (exact_names q y r))) os) ∙ e)
    where
      by_test : (t : Bool) → cond t (find name_cmp q os) None ≡ Some x → more q ≡ true
      by_test true e = fit q x e
      by_test false e = absurd cc

  -- locks are there after a change that fits
  owners-fit : (c : Change) (m : State) → ChangeFits image more c → OwnersFit m.monitors → OwnersFit (change c m).monitors
  owners-fit (Owned n o) m h fit = put-holds (λ q x. more q ≡ true) n o m.monitors h fit
  owners-fit (Freed n) m h fit = owners-without m.monitors n fit
  owners-fit _ m h fit = fit

  -- a waiter comes
  waiting-append : (ws : List Waiter) (w : Waiter) → more w.lock ≡ true → AreThere more ws → AreThere more (ws ++ w ∷ [])
  waiting-append [] w h k = (h, tt)
  waiting-append (x ∷ ws) w h k = (k.0, waiting-append ws w h k.1)

  -- waiters go
  waiting-filter : (p : Waiter → Bool) (ws : List Waiter) → AreThere more ws → AreThere more (filter p ws)
  waiting-filter p [] k = tt
  waiting-filter p (w ∷ ws) k = by_test (p w) (waiting-filter p ws k.1)
    where
      by_test : (b : Bool) → AreThere more (filter p ws) → AreThere more (if b then w ∷ filter p ws else filter p ws)
      by_test true h = (k.0, h)
      by_test false h = h

  -- the locks of waiters are there after a change that fits
  waiting-fit : (c : Change) (m : State) → ChangeFits image more c → AreThere more m.waiting → AreThere more (change c m).waiting
  waiting-fit (Sleeps n t) m h fit = waiting-append m.waiting (waiter n t) h fit
  waiting-fit (Moved n t) m h fit = waiting-filter _ m.waiting fit
  waiting-fit (MovedAll n) m h fit = waiting-filter _ m.waiting fit
  waiting-fit _ m h fit = fit

  -- no class comes or goes
  class-count : (c : Change) (m : State) → length (change c m).classes ≡ length m.classes
  class-count (Becomes k s) m = length-set m.classes k s
  class-count _ m = refl

  -- what changes leave fitting, beside the bodies
  pub record RestFits (m : State) : Type 0 where
    pub threads : ThreadsFit m.threads
    pub owners : OwnersFit m.monitors
    pub waiting : AreThere more m.waiting
    pub classes : length m.classes ≡ length image.classes

  -- so after changes that fit
  pub rest-fits : (cs : List Change) (m : State) → ChangesFit image more cs → RestFits m → RestFits (changed cs m)
  rest-fits [] m h r = r
  rest-fits (c ∷ cs) m h r = rest-fits cs (change c m) h.1 (record {
    threads = threads-fit c m h.0 r.threads;
    owners = owners-fit c m h.0 r.owners;
    waiting = waiting-fit c m h.0 r.waiting;
    classes = class-count c m ∙ r.classes;
  })

module _ (image : Program) (types : Types) where
  -- a thread by its mode, as objects are made
  pub mode-grows : (there more : Name → Bool) → Grows there more → (mode : Mode) (ls : List Level) → ModeFits image types there mode ls → ModeFits image types more mode ls
  mode-grows there more g Entry ls h = h
  mode-grows there more g Running ls h = levels-grow image there more g types None ls h
  mode-grows there more g (Raising e) ls h = (record { is_here = g e h.0.is_here; fits = h.0.fits }, levels-grow image there more g types (Some e) ls h.1)
  mode-grows there more g (Waiting n k) ls h = (g n h.0, levels-grow image there more g types None ls h.1)
  mode-grows there more g Ended ls h = (h.0, levels-grow image there more g types h.0 ls h.1)

  -- its Thread object
  object-grows : (there more : Name → Bool) → Grows there more → (n : Name) → IsThread image there n → IsThread image more n
  object-grows there more g n h = record { is_here = g n h.is_here; fits = h.fits }

  -- a thread
  thread-grows : (there more : Name → Bool) → Grows there more → (th : ThreadState) → ThreadFits image types there th → ThreadFits image types more th
  thread-grows there more g th h = record { object = object-grows there more g th.object h.object; levels = mode-grows there more g th.mode th.levels h.levels }

  -- the locks of waiters
  waiting-grows : (there more : Name → Bool) → Grows there more → (ws : List Waiter) → AreThere there ws → AreThere more ws
  waiting-grows there more g [] h = tt
  waiting-grows there more g (w ∷ ws) h = (g w.lock h.0, waiting-grows there more g ws h.1)

  -- what a step takes is right
  pub record TakenFits (m : State) (k : Taken) : Type 0 where
    pub changes : ChangesFit image (there_in (changed k.deed.changes m).heap) k.deed.changes
    pub mode : ModeFits image types (there_in (changed k.deed.changes m).heap) k.stand.0 k.stand.1

  -- so the machine is sound after it
  pub taken-sound : (m : State) (t : ℕ) (th : ThreadState) (k : Taken) → Sound image types m → slice_get m.threads t ≡ Some th → TakenFits m k → Sound image types (moved_on m t th k)
  unfolding moved_on
  taken-sound m t th k s e f =
      let m1 : State = record m { threads = slice_set m.threads t (after th k.stand) } in
      let hp : (changed k.deed.changes m).heap ≡ (changed k.deed.changes m1).heap = changes-heap k.deed.changes m m1 refl in
      let gr : Grows (there_in m.heap) (there_in (changed k.deed.changes m).heap) = changes-grow k.deed.changes m in
      let ch : ChangesFit image (there_in (changed k.deed.changes m).heap) k.deed.changes = f.changes in
      let r : RestFits image types (there_in (changed k.deed.changes m).heap) (changed k.deed.changes m1) = rest-fits image types (there_in (changed k.deed.changes m).heap) k.deed.changes m1 ch (record {
        threads = threads-after (there_in (changed k.deed.changes m).heap) gr f.mode;
        owners = λ n o q. gr n (s.owners n o q);
        waiting = waiting-grows (there_in m.heap) _ gr m.waiting s.waiting;
        classes = s.classes;
      }) in
      let bd : BodiesFit image (there_in (changed k.deed.changes m).heap) (changed k.deed.changes m1).heap = changes-keep image (there_in (changed k.deed.changes m).heap) k.deed.changes m1 ch (bodies-grow image (there_in m.heap) _ gr m.heap s.bodies) in
      record {
        bodies = subst (λ h. BodiesFit image (there_in h) (changed k.deed.changes m1).heap) hp bd;
        threads = subst (λ h. (u : ℕ) (x : ThreadState) → slice_get (changed k.deed.changes m1).threads u ≡ Some x → ThreadFits image types (there_in h) x) hp r.threads;
        owners = subst (λ h. (n : Name) (o : MonitorState) → owner_at (changed k.deed.changes m1).monitors n ≡ Some o → there_in h n ≡ true) hp r.owners;
        waiting = subst (λ h. AreThere (there_in h) (changed k.deed.changes m1).waiting) hp r.waiting;
        classes = r.classes;
        premade = subst (λ h. (n : Name) → Premade image n → there_in h n ≡ true) hp (λ n p. gr n (s.premade n p));
      }
    where
      threads-after : (more : Name → Bool) → Grows (there_in m.heap) more → ModeFits image types more k.stand.0 k.stand.1 → (u : ℕ) (x : ThreadState) → slice_get (slice_set m.threads t (after th k.stand)) u ≡ Some x → ThreadFits image types more x
      threads-after more g h u x q = by_case (get-set m.threads t u (after th k.stand) x q)
        where
          by_case : (slice_get m.threads u ≡ Some x) ⊎ (x ≡ after th k.stand) → ThreadFits image types more x
          by_case (inl p) = thread-grows (there_in m.heap) more g x (s.threads u x p)
          by_case (inr p) = let old : ThreadFits image types (there_in m.heap) th = s.threads t th e in subst (λ z. ThreadFits image types more z) (sym p) (record { object = object-grows (there_in m.heap) more g th.object old.object; levels = h })
