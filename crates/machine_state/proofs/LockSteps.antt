-- Legal locks over every run.
use Rattle.std.proofs.Common.{◌≡◌, ◌≢◌, ◌⊎◌, inl, inr, ℕ, ◌+◌, ◌-◌, ◌<◌, Bool, true, false, not, ◌&&◌, ◌||◌, ◌==◌, if◌then◌else◌, List, [], ◌∷◌, ◌++◌, Option, Some, None, refl, sym, ap, ◌∙◌, subst, arith}
use Rattle.std.proofs.Math.Path.{fun_ext}
use Rattle.jvm_base.specs.declared.name.Name.{Name}
use Rattle.jvm_base.specs.declared.value.Value.{Value}
use Rattle.jvm_base.specs.declared.value.ObjectBody.{ObjectBody}
use Rattle.jvm_base.specs.declared.value.ObjectBody.TheVariants.{Fields, Array, Text}
use Rattle.machine_state.specs.declared.state.MonitorState.{MonitorState}
use Rattle.machine_state.specs.declared.state.Waiter.{Waiter}
use Rattle.jvm_base.specs.Maps.{put}
use Rattle.jvm_base.specs.Names.{name_cmp, name_eq}
use Rattle.hierarchy.specs.Walks.{has}
use Rattle.program_image.specs.Buffers.{is_buffer}
use Rattle.machine_state.specs.State.{State, Owners, owner_at, waiters_of}
use Rattle.machine_state.specs.Events.{Place, FieldOf, ElementOf, ContentOf, Held, Content, Event, Reads, Writes, Locks, LockEvent, Enters, Leaves, Waits, Notifies, NotifiesAll, Told, told_by, onto, item_writes, body_writes, writes_of, writes}
use Rattle.machine_state.specs.declared.request.Request.{Request}
use Rattle.machine_state.specs.Changes.{Change, Made, SetsField, SetsElement, SetsContent, Owned, Freed, Sleeps, Moved, MovedAll, Becomes, Started, Finished, Lost, Printed, change, changed}
use Rattle.machine_state.specs.Deeds.{reads_of, Deed}
use Rattle.machine_state.specs.Serve.{pick_fits}
use Rattle.machine_state.specs.Locks.{owned, released}
use Rattle.machine_state.specs.LegalLocks.{Stage, Awake, Asleep, Woken, Standing, wakened, at_lock, lock_of, OthersFree, Allowed, IsLegal, standing, LegalLocks}
use Rattle.machine_state.proofs.NameTests.{same_or, test_true, test_false}
use Rattle.machine_state.proofs.FrameLaws.{sleeps_apart, moved_apart, all_moved_apart}
use Rattle.machine_state.proofs.LockDeeds.{LockDeed, free, first, again, left, slept, nobody, somebody, everybody, Free}
use Rattle.machine_state.proofs.Agreements.{wakened_up, count_of, is_asleep, LocksAgree, after_lock, owns_put, owns_freed, counts_put, counts_freed, held_by, others_free, all_free, sleeps_same, sleeps_changed, added_waiter, taken_waiter, no_waiters}

-- ---- events that are of no lock

-- no event is of a lock
abbrev pub NoLock : List Event → Type 0
NoLock [] = Unit {0}
NoLock (Locks l ∷ es) = ⊥
NoLock (Reads p h ∷ es) = NoLock es
NoLock (Writes p h ∷ es) = NoLock es

-- lists of them
pub no_lock-append : (xs ys : List Event) → NoLock xs → NoLock ys → NoLock (xs ++ ys)
no_lock-append [] ys a b = b
no_lock-append (Locks l ∷ xs) ys a b = absurd a
no_lock-append (Reads p h ∷ xs) ys a b = no_lock-append xs ys a b
no_lock-append (Writes p h ∷ xs) ys a b = no_lock-append xs ys a b

-- writes that follow one another
no_lock-items : (at : ℕ → Place) (i : ℕ) (vs : List Value) → NoLock (item_writes at i vs)
no_lock-items at i [] = tt
no_lock-items at i (v ∷ vs) = no_lock-items at (i + 1) vs

-- the writes of a body
pub no_lock-body : (n : Name) (b : ObjectBody) → NoLock (body_writes n b)
no_lock-body n (Fields vs) = no_lock-items (FieldOf n) 0 vs
no_lock-body n (Array vs) = no_lock-items (ElementOf n) 0 vs
no_lock-body n (Text us) = by_test (is_buffer n.class)
  where
    by_test : (b : Bool) → NoLock (if b then Writes (ContentOf n) (Content us) ∷ [] else [])
    by_test true = tt
    by_test false = tt

-- those of a change
no_lock-change : (h : Change) → NoLock (writes_of h)
no_lock-change (Made n b) = no_lock-body n b
no_lock-change (SetsField n i v) = tt
no_lock-change (SetsElement n i v) = tt
no_lock-change (SetsContent n us) = tt
no_lock-change h = tt

-- those of changes
pub no_lock-changes : (hs : List Change) → NoLock (writes hs)
no_lock-changes [] = tt
no_lock-changes (h ∷ hs) = no_lock-append (writes_of h) (writes hs) (no_lock-change h) (no_lock-changes hs)

-- reads
pub no_lock-reads : (rs : List (Place × Held)) → NoLock (reads_of rs)
no_lock-reads [] = tt
no_lock-reads (r ∷ rs) = no_lock-reads rs

-- events that are of no lock change nobody's standing
pub stands_on : (by : Option ℕ) (es : List Event) (told : List Told) → NoLock es → standing (onto (told_by by es) told) ≡ standing told
stands_on by [] told n = refl
stands_on by (Locks l ∷ es) told n = absurd n
stands_on by (Reads p h ∷ es) told n = stands_on by es (record { thread = by; event = Reads p h } ∷ told) n ∙ fun_ext (λ u. fun_ext (λ q. refl))
stands_on by (Writes p h ∷ es) told n = stands_on by es (record { thread = by; event = Writes p h } ∷ told) n ∙ fun_ext (λ u. fun_ext (λ q. refl))

-- reads and writes are legal
plain_legal : (by : Option ℕ) (st : ℕ → Name → Standing) (p : Place) (h : Held) → IsLegal st by (Reads p h) × IsLegal st by (Writes p h)
plain_legal None st p h = (tt, tt)
plain_legal (Some t) st p h = (tt, tt)

-- so they keep what is legal
pub legal_on : (by : Option ℕ) (es : List Event) (told : List Told) → NoLock es → LegalLocks told → LegalLocks (onto (told_by by es) told)
legal_on by [] told n l = l
legal_on by (Locks k ∷ es) told n l = absurd n
legal_on by (Reads p h ∷ es) told n l = legal_on by es (record { thread = by; event = Reads p h } ∷ told) n ((plain_legal by (standing told) p h).0, l)
legal_on by (Writes p h ∷ es) told n l = legal_on by es (record { thread = by; event = Writes p h } ∷ told) n ((plain_legal by (standing told) p h).1, l)

-- ---- changes that are of no lock

-- changes that touch no lock keep the agreement
free_agrees : (t : ℕ) (hs : List Change) (m : State) (st : ℕ → Name → Standing) → Free t hs → LocksAgree m.monitors m.waiting st → LocksAgree (changed hs m).monitors (changed hs m).waiting st
free_agrees t [] m st f a = a
free_agrees t (Made n b ∷ hs) m st f a = free_agrees t hs (change (Made n b) m) st f a
free_agrees t (SetsField n i v ∷ hs) m st f a = free_agrees t hs (change (SetsField n i v) m) st f a
free_agrees t (SetsElement n i v ∷ hs) m st f a = free_agrees t hs (change (SetsElement n i v) m) st f a
free_agrees t (SetsContent n us ∷ hs) m st f a = free_agrees t hs (change (SetsContent n us) m) st f a
free_agrees t (Owned n o ∷ hs) m st f a = absurd f
free_agrees t (Freed n ∷ hs) m st f a = absurd f
free_agrees t (Sleeps n u ∷ hs) m st f a = absurd f
free_agrees t (Moved n u ∷ hs) m st f a = absurd f
free_agrees t (MovedAll n ∷ hs) m st f a = absurd f
free_agrees t (Becomes c s ∷ hs) m st f a = free_agrees t hs (change (Becomes c s) m) st f a
free_agrees t (Started n ∷ hs) m st f a = free_agrees t hs (change (Started n) m) st f a
free_agrees t (Finished u ∷ hs) m st f a = free_agrees t hs (change (Finished u) m) st f.1 a
free_agrees t (Lost u ∷ hs) m st f a = free_agrees t hs (change (Lost u) m) st f a
free_agrees t (Printed us ∷ hs) m st f a = free_agrees t hs (change (Printed us) m) st f a

-- ---- what a deed does to the standings: no event of a lock, or one that is allowed

-- the changes and events of a deed keep the agreement of locks: it has none, or one
pub data Effect (t : ℕ) (st : ℕ → Name → Standing) (ks : List LockEvent) (owners : Owners) (waiting : List Waiter) : Type 0 where
  no_event : ks ≡ [] → LocksAgree owners waiting st → Effect t st ks owners waiting
  one_event : (k : LockEvent) → ks ≡ k ∷ [] → Allowed st t k → LocksAgree owners waiting (after_lock st t k) → Effect t st ks owners waiting

-- the effect by the changes and events that were made
pub by_changes : (t : ℕ) (st : ℕ → Name → Standing) (ks : List LockEvent) (hs gs : List Change) (m : State) → hs ≡ gs → Effect t st ks (changed gs m).monitors (changed gs m).waiting → Effect t st ks (changed hs m).monitors (changed hs m).waiting
by_changes t st ks hs gs m e f = subst (λ (x : List Change). Effect t st ks (changed x m).monitors (changed x m).waiting) (sym e) f

-- a count says nothing of sleep
same_asleep : (b : Bool) (s : Standing) (h : ℕ) → is_asleep (if b then record s { held = h } else s).stage ≡ is_asleep s.stage
same_asleep true s h = refl
same_asleep false s h = refl

-- a lock is entered
pub enters_effect : (m : State) (t : ℕ) (st : ℕ → Name → Standing) (n : Name) (j : ℕ) → LocksAgree m.monitors m.waiting st → (st t n).held + 1 ≡ j → OthersFree st t n → LocksAgree (put name_cmp n (owned t j) m.monitors) m.waiting (after_lock st t (Enters n))
enters_effect m t st n j a h o = record {
  owns = owns_put m.monitors m.waiting st t j (Enters n) a h (λ u ne. o u ne);
  counts = counts_put m.monitors n t j (omega arith) a.counts;
  sleeps = sleeps_same m.monitors m.waiting st t (Enters n) a (λ u. by_test (t == u) u);
}
  where
    by_test : (b : Bool) (u : ℕ) → is_asleep (at_lock b u (Enters n) (st u n)).stage ≡ is_asleep (st u n).stage
    by_test true u = refl
    by_test false u = refl

-- a lock is left
leaves_effect : (m : State) (t : ℕ) (st : ℕ → Name → Standing) (n : Name) (o : MonitorState) → LocksAgree m.monitors m.waiting st → owner_at m.monitors n ≡ Some o → o.owner ≡ t → LocksAgree (change (released n o) m).monitors (change (released n o) m).waiting (after_lock st t (Leaves n))
leaves_effect m t st n o a e f = by_count (same_or o.count 1)
  where
    own : (st t n).held ≡ o.count
    own = held_by m.monitors m.waiting st t n o a e f

    rest : OthersFree st t n
    rest = others_free m.monitors m.waiting st t n o a e f

    asleep : (b : Bool) (u : ℕ) → is_asleep (at_lock b u (Leaves n) (st u n)).stage ≡ is_asleep (st u n).stage
    asleep true u = refl
    asleep false u = refl

    gone : o.count ≡ 1 → (u : ℕ) → (t ≡ u) ⊎ (t ≢ u) → (at_lock (t == u) u (Leaves n) (st u n)).held ≡ 0
    gone c u (inl h) = subst (λ (x : ℕ). (at_lock (t == x) x (Leaves n) (st x n)).held ≡ 0) h (ap (λ b. (at_lock b t (Leaves n) (st t n)).held) (test_true t t refl) ∙ omega (arith, own, c))
    gone c u (inr ne) = ap (λ b. (at_lock b u (Leaves n) (st u n)).held) (test_false t u ne) ∙ rest u (λ h. ne (sym h))

    by_count : (o.count ≡ 1) ⊎ (o.count ≢ 1) → LocksAgree (change (released n o) m).monitors (change (released n o) m).waiting (after_lock st t (Leaves n))
    by_count (inl c) = subst (λ b. LocksAgree (change (if b then Freed n else Owned n (owned o.owner (o.count - 1))) m).monitors (change (if b then Freed n else Owned n (owned o.owner (o.count - 1))) m).waiting (after_lock st t (Leaves n))) (sym (test_true o.count 1 c)) (record {
      owns = owns_freed m.monitors m.waiting st t (Leaves n) a (λ u. gone c u (same_or t u));
      counts = counts_freed m.monitors n a.counts;
      sleeps = sleeps_same m.monitors m.waiting st t (Leaves n) a (λ u. asleep (t == u) u);
    })
    by_count (inr c) = subst (λ b. LocksAgree (change (if b then Freed n else Owned n (owned o.owner (o.count - 1))) m).monitors (change (if b then Freed n else Owned n (owned o.owner (o.count - 1))) m).waiting (after_lock st t (Leaves n))) (sym (test_false o.count 1 c)) (subst (λ (x : ℕ). LocksAgree (put name_cmp n (owned x (o.count - 1)) m.monitors) m.waiting (after_lock st t (Leaves n))) (sym f) (record {
      owns = owns_put m.monitors m.waiting st t (o.count - 1) (Leaves n) a (ap (λ x. x - 1) own) rest;
      counts = counts_put m.monitors n t (o.count - 1) (let p : 0 < o.count = a.counts n o e in omega arith) a.counts;
      sleeps = sleeps_same m.monitors m.waiting st t (Leaves n) a (λ u. asleep (t == u) u);
    }))

-- a thread falls asleep
waits_effect : (m : State) (t : ℕ) (st : ℕ → Name → Standing) (n : Name) (o : MonitorState) → LocksAgree m.monitors m.waiting st → owner_at m.monitors n ≡ Some o → o.owner ≡ t → LocksAgree (changed (Freed n ∷ Sleeps n t ∷ []) m).monitors (changed (Freed n ∷ Sleeps n t ∷ []) m).waiting (after_lock st t (Waits n))
waits_effect m t st n o a e f = record {
  owns = owns_freed m.monitors m.waiting st t (Waits n) a (λ u. gone u (same_or t u));
  counts = counts_freed m.monitors n a.counts;
  sleeps = sleeps_changed m.monitors m.waiting _ st t (Waits n) a (λ q d. sleeps_apart m.waiting n q t d) (λ u. added_waiter m.waiting n t u ∙ asleep u (same_or t u));
}
  where
    gone : (u : ℕ) → (t ≡ u) ⊎ (t ≢ u) → (at_lock (t == u) u (Waits n) (st u n)).held ≡ 0
    gone u (inl h) = ap (λ b. (at_lock b u (Waits n) (st u n)).held) (test_true t u h)
    gone u (inr ne) = ap (λ b. (at_lock b u (Waits n) (st u n)).held) (test_false t u ne) ∙ others_free m.monitors m.waiting st t n o a e f u (λ h. ne (sym h))

    right : (a : Bool) → (a || true) ≡ true
    right true = refl
    right false = refl

    left_alone : (a : Bool) → (a || false) ≡ a
    left_alone true = refl
    left_alone false = refl

    asleep : (u : ℕ) → (t ≡ u) ⊎ (t ≢ u) → (has (waiters_of n m.waiting) u || t == u) ≡ is_asleep (at_lock (t == u) u (Waits n) (st u n)).stage
    asleep u (inl h) = ap (λ b. has (waiters_of n m.waiting) u || b) (test_true t u h) ∙ right (has (waiters_of n m.waiting) u) ∙ sym (ap (λ b. is_asleep (at_lock b u (Waits n) (st u n)).stage) (test_true t u h))
    asleep u (inr ne) = ap (λ b. has (waiters_of n m.waiting) u || b) (test_false t u ne) ∙ left_alone (has (waiters_of n m.waiting) u) ∙ a.sleeps n u ∙ sym (ap (λ b. is_asleep (at_lock b u (Waits n) (st u n)).stage) (test_false t u ne))

-- an event that changes stages alone keeps the owners
owns_same : (os : Owners) (ws : List Waiter) (st : ℕ → Name → Standing) (t : ℕ) (k : LockEvent) → LocksAgree os ws st → ((b : Bool) (u : ℕ) (s : Standing) → (at_lock b u k s).held ≡ s.held) → (n : Name) (u : ℕ) → (after_lock st t k u n).held ≡ count_of u (owner_at os n)
owns_same os ws st t k a keeps n u = by_test (name_eq (lock_of k) n)
  where
    by_test : (b : Bool) → (if b then at_lock (t == u) u k (st u n) else st u n).held ≡ count_of u (owner_at os n)
    by_test true = keeps (t == u) u (st u n) ∙ a.owns n u
    by_test false = a.owns n u

-- a notify changes no count
notify_keeps : (n : Name) (p : Option ℕ) (b : Bool) (u : ℕ) (s : Standing) → (at_lock b u (Notifies n p) s).held ≡ s.held
notify_keeps n None b u s = refl
notify_keeps n (Some x) b u s = by_test (x == u)
  where
    by_test : (c : Bool) → (if c then record s { stage = wakened s.stage } else s).held ≡ s.held
    by_test true = refl
    by_test false = refl

-- who is no sleeper
awake_none : (g : Stage) → is_asleep g ≡ false → g ≢ Asleep
awake_none Awake e h = absurd cc
awake_none Asleep e h = absurd cc
awake_none Woken e h = absurd cc

-- who is one
asleep_is : (g : Stage) → is_asleep g ≡ true → g ≡ Asleep
asleep_is Awake e = absurd cc
asleep_is Asleep e = refl
asleep_is Woken e = absurd cc

-- who is neither awake nor asleep woke
pub not_awake : (g : Stage) → g ≢ Awake → is_asleep g ≡ false → g ≡ Woken
not_awake Awake ne e = absurd (ne refl)
not_awake Asleep ne e = absurd cc
not_awake Woken ne e = refl

-- a pick that fits is one of the waiters, where there are any
picked : (pick : ℕ) (ws : List ℕ) → ws ≢ [] → pick_fits pick ws ≡ true → has ws pick ≡ true
picked pick [] ne e = absurd (ne refl)
picked pick (w ∷ ws) ne e = e

-- every deed
pub deed_effect : (m l : State) (t pick : ℕ) (r : Request) (d : Deed) (st : ℕ → Name → Standing) → l.monitors ≡ m.monitors → l.waiting ≡ m.waiting → pick_fits pick d.waiters ≡ true → LocksAgree m.monitors m.waiting st → LockDeed m t pick r d
    → Effect t st d.locks (changed d.changes l).monitors (changed d.changes l).waiting
deed_effect m l t pick r d st p q w a0 (free f g s) = no_event f (free_agrees t d.changes l st g a)
  where
    a : LocksAgree l.monitors l.waiting st
    a = subst (λ (x : List Waiter). LocksAgree l.monitors x st) (sym q) (subst (λ (x : Owners). LocksAgree x m.waiting st) (sym p) a0)
deed_effect m l t pick r d st p q w a0 (first n o f g s) = by_changes t st d.locks d.changes _ l g (one_event (Enters n) f (λ u ne. all_free m.monitors m.waiting st n a0 o u) (enters_effect l t st n 1 a (ap (λ x. x + 1) (all_free m.monitors m.waiting st n a0 o t)) (λ u ne. all_free m.monitors m.waiting st n a0 o u)))
  where
    a : LocksAgree l.monitors l.waiting st
    a = subst (λ (x : List Waiter). LocksAgree l.monitors x st) (sym q) (subst (λ (x : Owners). LocksAgree x m.waiting st) (sym p) a0)
deed_effect m l t pick r d st p q w a0 (again n o e h f g s) = by_changes t st d.locks d.changes _ l g (one_event (Enters n) f (others_free m.monitors m.waiting st t n o a0 e h) (enters_effect l t st n (o.count + 1) a (ap (λ x. x + 1) (held_by m.monitors m.waiting st t n o a0 e h)) (others_free m.monitors m.waiting st t n o a0 e h)))
  where
    a : LocksAgree l.monitors l.waiting st
    a = subst (λ (x : List Waiter). LocksAgree l.monitors x st) (sym q) (subst (λ (x : Owners). LocksAgree x m.waiting st) (sym p) a0)
deed_effect m l t pick r d st p q w a0 (left n o e h f g s) = by_changes t st d.locks d.changes _ l g (one_event (Leaves n) f (subst (λ (x : ℕ). 0 < x) (sym (held_by m.monitors m.waiting st t n o a0 e h)) (a0.counts n o e)) (leaves_effect l t st n o a (ap (λ (x : Owners). owner_at x n) p ∙ e) h))
  where
    a : LocksAgree l.monitors l.waiting st
    a = subst (λ (x : List Waiter). LocksAgree l.monitors x st) (sym q) (subst (λ (x : Owners). LocksAgree x m.waiting st) (sym p) a0)
deed_effect m l t pick r d st p q w a0 (slept n o e h f g s z) = by_changes t st d.locks d.changes _ l g (one_event (Waits n) f (subst (λ (x : ℕ). 0 < x) (sym (held_by m.monitors m.waiting st t n o a0 e h)) (a0.counts n o e)) (waits_effect l t st n o a (ap (λ (x : Owners). owner_at x n) p ∙ e) h))
  where
    a : LocksAgree l.monitors l.waiting st
    a = subst (λ (x : List Waiter). LocksAgree l.monitors x st) (sym q) (subst (λ (x : Owners). LocksAgree x m.waiting st) (sym p) a0)
deed_effect m l t pick r d st p q w a0 (nobody n o e h y f g s) = by_changes t st d.locks d.changes _ l g (one_event (Notifies n None) f (subst (λ (x : ℕ). 0 < x) (sym (held_by m.monitors m.waiting st t n o a0 e h)) (a0.counts n o e), λ u. awake_none (st u n).stage (sym (a0.sleeps n u) ∙ ap (λ (x : List ℕ). has x u) y)) (record {
  owns = owns_same l.monitors l.waiting st t (Notifies n None) a (notify_keeps n None);
  counts = a.counts;
  sleeps = sleeps_same l.monitors l.waiting st t (Notifies n None) a (λ u. refl);
}))
  where
    a : LocksAgree l.monitors l.waiting st
    a = subst (λ (x : List Waiter). LocksAgree l.monitors x st) (sym q) (subst (λ (x : Owners). LocksAgree x m.waiting st) (sym p) a0)
deed_effect m l t pick r d st p q w a0 (somebody n o e h y ne f g s) = by_changes t st d.locks d.changes _ l g (one_event (Notifies n (Some pick)) f (subst (λ (x : ℕ). 0 < x) (sym (held_by m.monitors m.waiting st t n o a0 e h)) (a0.counts n o e), asleep_is (st pick n).stage (sym (a0.sleeps n pick) ∙ ap (λ (x : List ℕ). has x pick) (sym y) ∙ picked pick d.waiters ne w)) (record {
  owns = owns_same l.monitors l.waiting st t (Notifies n (Some pick)) a (notify_keeps n (Some pick));
  counts = a.counts;
  sleeps = sleeps_changed l.monitors l.waiting _ st t (Notifies n (Some pick)) a (λ x d. moved_apart l.waiting n x pick d) (λ u. taken_waiter l.waiting n pick u ∙ ap (λ b. b && not (pick == u)) (a.sleeps n u) ∙ woken (pick == u) (st u n));
}))
  where
    a : LocksAgree l.monitors l.waiting st
    a = subst (λ (x : List Waiter). LocksAgree l.monitors x st) (sym q) (subst (λ (x : Owners). LocksAgree x m.waiting st) (sym p) a0)

    woken : (b : Bool) (s : Standing) → (is_asleep s.stage && not b) ≡ is_asleep (if b then record s { stage = wakened s.stage } else s).stage
    woken true s = last (is_asleep s.stage) ∙ sym (wakened_up s.stage)
      where
        last : (c : Bool) → (c && false) ≡ false
        last true = refl
        last false = refl
    woken false s = keep (is_asleep s.stage)
      where
        keep : (c : Bool) → (c && true) ≡ c
        keep true = refl
        keep false = refl
deed_effect m l t pick r d st p q w a0 (everybody n o e h f g s) = by_changes t st d.locks d.changes _ l g (one_event (NotifiesAll n) f (subst (λ (x : ℕ). 0 < x) (sym (held_by m.monitors m.waiting st t n o a0 e h)) (a0.counts n o e)) (record {
  owns = owns_same l.monitors l.waiting st t (NotifiesAll n) a (λ b u s. refl);
  counts = a.counts;
  sleeps = sleeps_changed l.monitors l.waiting _ st t (NotifiesAll n) a (λ x d. all_moved_apart l.waiting n x d) (λ u. ap (λ (x : List ℕ). has x u) (no_waiters l.waiting n) ∙ sym (wakened_up (st u n).stage));
}))
  where
    a : LocksAgree l.monitors l.waiting st
    a = subst (λ (x : List Waiter). LocksAgree l.monitors x st) (sym q) (subst (λ (x : Owners). LocksAgree x m.waiting st) (sym p) a0)
