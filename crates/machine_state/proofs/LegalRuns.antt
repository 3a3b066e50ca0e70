-- Legal locks over every run: the modes agree, and each step keeps all.
use Rattle.std.proofs.Common.{◌≡◌, ◌≢◌, ◌⊎◌, inl, inr, ℕ, zero, suc, ◌<◌, Bool, true, false, ◌==◌, if◌then◌else◌, List, [], ◌∷◌, ◌++◌, map, Option, Some, None, refl, sym, ap, ◌∙◌, subst}
use Rattle.std.specs.Prelude.{slice_get, slice_set, length}
use Rattle.jvm_base.specs.declared.name.Name.{Name}
use Rattle.jvm_base.specs.declared.value.ObjectBody.{ObjectBody}
use Rattle.jvm_base.specs.declared.frame.Level.{Level}
use Rattle.jvm_base.proofs.NameLaws.{name_eq-true}
use Rattle.machine_state.specs.declared.state.Choice.{Choice}
use Rattle.machine_state.specs.declared.state.Mode.{Mode}
use Rattle.machine_state.specs.declared.state.Mode.TheVariants.{Entry, Waiting, Ended}
use Rattle.machine_state.specs.declared.state.MonitorState.{MonitorState}
use Rattle.machine_state.specs.declared.state.ThreadState.{ThreadState}
use Rattle.program_image.specs.Program.{Program}
use Rattle.jvm_base.specs.Names.{name_eq}
use Rattle.jvm_base.specs.Words.{from}
use Rattle.hierarchy.specs.Walks.{has}
use Rattle.machine_state.specs.State.{State, owner_at, waiters_of}
use Rattle.machine_state.specs.declared.request.Request.{Request}
use Rattle.machine_state.specs.declared.request.Request.TheVariants.{Wait}
use Rattle.machine_state.specs.Changes.{Change, Made, SetsField, SetsElement, SetsContent, Owned, Freed, Sleeps, Moved, MovedAll, Becomes, Started, Finished, Lost, Printed, change, changed, new_thread, with_ended}
use Rattle.machine_state.specs.Events.{Locks, LockEvent, Enters, Leaves, Waits, Notifies, NotifiesAll, Retakes, Told, told_by, onto, body_writes, writes}
use Rattle.machine_state.specs.declared.request.Answer.{Answer}
use Rattle.machine_state.specs.Deeds.{reads_of, Deed, events_of, quiet, locking}
use Rattle.machine_state.specs.Serve.{pick_fits}
use Rattle.machine_state.specs.Locks.{retakes, owned}
use Rattle.machine_state.specs.Complete.{complete}
use Rattle.machine_state.specs.Step.{Taken, after, moved_on, taken_by, step, step_of, step_events}
use Rattle.machine_state.specs.Runs.{run_events}
use Rattle.machine_state.specs.Start.{start, start_events, first_writes}
use Rattle.machine_state.specs.PreMade.{pre_made, main_thread}
use Rattle.machine_state.specs.LegalLocks.{Awake, Asleep, Woken, Standing, wakened, at_lock, lock_of, Allowed, standing, LegalLocks, LegalLocksLaw}
use Rattle.machine_state.proofs.NameTests.{name_itself, same_or, test_true, test_false, some_is, not_both, set_same, set_other}
use Rattle.machine_state.proofs.FrameLaws.{apart_or}
use Rattle.machine_state.proofs.Endings.{EndOnly, EndsOwn, own_end_only, own_end, ended_other, ended_mode, ended_none, set_none}
use Rattle.machine_state.proofs.WriteLaws.{onto_append}
use Rattle.machine_state.proofs.LockDeeds.{LockDeed, free, first, again, left, slept, nobody, somebody, everybody, NotSlept, lock_served}
use Rattle.machine_state.proofs.ModeActs.{NotWaiting, Acts, alone, asks, wakes, Taking, taking, mode_after, mode_asleep}
use Rattle.machine_state.proofs.Agreements.{is_asleep, WaitsAt, ModeFits, LocksAgree, ModesAgree, fit_awake, awake_fits, after_lock, lock_apart, lock_at, others_fit, owns_put, counts_put, held_by, all_free, sleeps_same}
use Rattle.machine_state.proofs.LockSteps.{NoLock, no_lock-append, no_lock-body, no_lock-changes, no_lock-reads, stands_on, legal_on, Effect, no_event, one_event, deed_effect, not_awake}

-- ---- the threads after a step

-- where a thread of the new list comes from: it is an old one, or one that started, or one that has
-- ended
data Whence (P : ℕ → Type 0) (ts : List ThreadState) (u : ℕ) (x : ThreadState) : Type 0 where
  stays : slice_get ts u ≡ Some x → Whence P ts u x
  starts : slice_get ts u ≡ None → x.mode ≡ Entry → Whence P ts u x
  finishes : P u → x.mode ≡ Ended → Whence P ts u x

-- a thread before one is started behind them
before_append : (ts : List ThreadState) (object : Name) (u : ℕ) (x : ThreadState) → slice_get (ts ++ new_thread object ∷ []) u ≡ Some x → (slice_get ts u ≡ Some x) ⊎ ((slice_get ts u ≡ None) × (x.mode ≡ Entry))
before_append [] object zero x e = inr (refl, ap (λ (y : ThreadState). y.mode) (sym (some_is e)))
before_append [] object (suc u) x e = absurd cc
before_append (t ∷ ts) object zero x e = inl e
before_append (t ∷ ts) object (suc u) x e = before_append ts object u x e

-- none is there before where none is then
none_append : (ts : List ThreadState) (object : Name) (u : ℕ) → slice_get (ts ++ new_thread object ∷ []) u ≡ None → slice_get ts u ≡ None
none_append [] object u e = refl
none_append (t ∷ ts) object zero e = absurd cc
none_append (t ∷ ts) object (suc u) e = none_append ts object u e

-- where one is started
from_started : (P : ℕ → Type 0) (ts : List ThreadState) (object : Name) (u : ℕ) (x : ThreadState) → Whence P (ts ++ new_thread object ∷ []) u x → Whence P ts u x
from_started P ts object u x (stays e) = by_place (before_append ts object u x e)
  where
    by_place : (slice_get ts u ≡ Some x) ⊎ ((slice_get ts u ≡ None) × (x.mode ≡ Entry)) → Whence P ts u x
    by_place (inl f) = stays f
    by_place (inr f) = starts f.0 f.1
from_started P ts object u x (starts e f) = starts (none_append ts object u e) f
from_started P ts object u x (finishes p f) = finishes p f

-- where one ends
from_finished : (P : ℕ → Type 0) (ts : List ThreadState) (t u : ℕ) (x : ThreadState) → P t → Whence P (with_ended t ts) u x → Whence P ts u x
from_finished P ts t u x p (stays e) = by_place (same_or u t)
  where
    by_place : (u ≡ t) ⊎ (u ≢ t) → Whence P ts u x
    by_place (inl h) = finishes (subst P (sym h) p) (ended_mode ts t x (ap (slice_get (with_ended t ts)) (sym h) ∙ e))
    by_place (inr ne) = stays (sym (ended_other ts t u ne) ∙ e)
from_finished P ts t u x p (starts e f) = starts (ended_none ts t u e) f
from_finished P ts t u x p (finishes q f) = finishes q f

-- where all is changed
from_changes : (P : ℕ → Type 0) (hs : List Change) (m : State) (u : ℕ) (x : ThreadState) → EndOnly P hs → slice_get (changed hs m).threads u ≡ Some x → Whence P m.threads u x
from_changes P [] m u x p e = stays e
from_changes P (Started n ∷ hs) m u x p e = from_started P m.threads n u x (from_changes P hs (change (Started n) m) u x p e)
from_changes P (Finished t ∷ hs) m u x p e = from_finished P m.threads t u x p.0 (from_changes P hs (change (Finished t) m) u x p.1 e)
from_changes P (Made n b ∷ hs) m u x p e = from_changes P hs (change (Made n b) m) u x p e
from_changes P (SetsField n i v ∷ hs) m u x p e = from_changes P hs (change (SetsField n i v) m) u x p e
from_changes P (SetsElement n i v ∷ hs) m u x p e = from_changes P hs (change (SetsElement n i v) m) u x p e
from_changes P (SetsContent n us ∷ hs) m u x p e = from_changes P hs (change (SetsContent n us) m) u x p e
from_changes P (Owned n o ∷ hs) m u x p e = from_changes P hs (change (Owned n o) m) u x p e
from_changes P (Freed n ∷ hs) m u x p e = from_changes P hs (change (Freed n) m) u x p e
from_changes P (Sleeps n t ∷ hs) m u x p e = from_changes P hs (change (Sleeps n t) m) u x p e
from_changes P (Moved n t ∷ hs) m u x p e = from_changes P hs (change (Moved n t) m) u x p e
from_changes P (MovedAll n ∷ hs) m u x p e = from_changes P hs (change (MovedAll n) m) u x p e
from_changes P (Becomes c s ∷ hs) m u x p e = from_changes P hs (change (Becomes c s) m) u x p e
from_changes P (Lost y ∷ hs) m u x p e = from_changes P hs (change (Lost y) m) u x p e
from_changes P (Printed us ∷ hs) m u x p e = from_changes P hs (change (Printed us) m) u x p e

-- a thread that is not there after changes was not there before
still_none : (hs : List Change) (m : State) (u : ℕ) → slice_get (changed hs m).threads u ≡ None → slice_get m.threads u ≡ None
still_none [] m u e = e
still_none (Started n ∷ hs) m u e = none_append m.threads n u (still_none hs (change (Started n) m) u e)
still_none (Finished t ∷ hs) m u e = ended_none m.threads t u (still_none hs (change (Finished t) m) u e)
still_none (Made n b ∷ hs) m u e = still_none hs (change (Made n b) m) u e
still_none (SetsField n i v ∷ hs) m u e = still_none hs (change (SetsField n i v) m) u e
still_none (SetsElement n i v ∷ hs) m u e = still_none hs (change (SetsElement n i v) m) u e
still_none (SetsContent n us ∷ hs) m u e = still_none hs (change (SetsContent n us) m) u e
still_none (Owned n o ∷ hs) m u e = still_none hs (change (Owned n o) m) u e
still_none (Freed n ∷ hs) m u e = still_none hs (change (Freed n) m) u e
still_none (Sleeps n t ∷ hs) m u e = still_none hs (change (Sleeps n t) m) u e
still_none (Moved n t ∷ hs) m u e = still_none hs (change (Moved n t) m) u e
still_none (MovedAll n ∷ hs) m u e = still_none hs (change (MovedAll n) m) u e
still_none (Becomes c s ∷ hs) m u e = still_none hs (change (Becomes c s) m) u e
still_none (Lost y ∷ hs) m u e = still_none hs (change (Lost y) m) u e
still_none (Printed us ∷ hs) m u e = still_none hs (change (Printed us) m) u e

-- a thread that ends is awake
abbrev IsUp : (ℕ → Name → Standing) → ℕ → Type 0
IsUp st u = (n : Name) → (st u n).stage ≡ Awake

-- the modes agree after a step of thread t, where its own new mode does and others' go on fitting
modes_after : (m : State) (t : ℕ) (own new : ThreadState) (hs : List Change) (st new_st : ℕ → Name → Standing) → slice_get m.threads t ≡ Some own → ModesAgree m.threads st
    → ((n : Name) → ModeFits n new.mode (new_st t n)) → ((u : ℕ) (n : Name) (mode : Mode) → u ≢ t → ModeFits n mode (st u n) → ModeFits n mode (new_st u n))
    → EndOnly (IsUp new_st) hs → ModesAgree (changed hs (record m { threads = slice_set m.threads t new })).threads new_st
modes_after m t own new hs st new_st own_is a mine others ups = record { modes = λ u x e n. there u x n (from_changes (IsUp new_st) hs (record m { threads = slice_set m.threads t new }) u x ups e); absent = λ u e n. gone u n (set_none m.threads t u new (still_none hs (record m { threads = slice_set m.threads t new }) u e)) }
  where
    gone : (u : ℕ) (n : Name) → slice_get m.threads u ≡ None → (new_st u n).stage ≡ Awake
    gone u n e = others u n Entry (λ h. not_both e (ap (slice_get m.threads) h ∙ own_is)) (a.absent u e n)

    at_thread : (u : ℕ) (x : ThreadState) (n : Name) → slice_get (slice_set m.threads t new) u ≡ Some x → (u ≡ t) ⊎ (u ≢ t) → ModeFits n x.mode (new_st u n)
    at_thread u x n e (inl h) = subst (λ (y : ℕ). ModeFits n x.mode (new_st y n)) (sym h) (subst (λ (y : ThreadState). ModeFits n y.mode (new_st t n)) (sym (set_same m.threads t new x (ap (slice_get (slice_set m.threads t new)) (sym h) ∙ e))) (mine n))
    at_thread u x n e (inr ne) = others u n x.mode ne (a.modes u x (sym (set_other m.threads t u new ne) ∙ e) n)

    there : (u : ℕ) (x : ThreadState) (n : Name) → Whence (IsUp new_st) (slice_set m.threads t new) u x → ModeFits n x.mode (new_st u n)
    there u x n (stays e) = at_thread u x n e (same_or u t)
    there u x n (starts e f) = subst (λ (y : Mode). ModeFits n y (new_st u n)) (sym f) (gone u n (set_none m.threads t u new e))
    there u x n (finishes p f) = subst (λ (y : Mode). ModeFits n y (new_st u n)) (sym f) (p n)

-- ---- a step's own mode

-- an event by which its own thread stays awake
abbrev Calm : LockEvent → Type 0
Calm (Waits n) = ⊥
Calm (Retakes n) = ⊥
Calm k = Unit {0}

-- an event without waiting keeps who is awake
calm_awake : (k : LockEvent) (b : Bool) (u : ℕ) (s : Standing) → Calm k → s.stage ≡ Awake → (at_lock b u k s).stage ≡ Awake
calm_awake (Enters n) true u s c e = e
calm_awake (Enters n) false u s c e = e
calm_awake (Leaves n) true u s c e = e
calm_awake (Leaves n) false u s c e = e
calm_awake (Waits n) b u s c e = absurd c
calm_awake (Retakes n) b u s c e = absurd c
calm_awake (NotifiesAll n) b u s c e = ap wakened e
calm_awake (Notifies n None) b u s c e = e
calm_awake (Notifies n (Some x)) b u s c e = by_test (x == u)
  where
    by_test : (d : Bool) → (if d then record s { stage = wakened s.stage } else s).stage ≡ Awake
    by_test true = ap wakened e
    by_test false = e

-- for the thread itself
still_awake : (st : ℕ → Name → Standing) (t : ℕ) (k : LockEvent) (n : Name) → Calm k → (st t n).stage ≡ Awake → (after_lock st t k t n).stage ≡ Awake
still_awake st t k n c e = by_test (name_eq (lock_of k) n)
  where
    by_test : (b : Bool) → (if b then at_lock (t == t) t k (st t n) else st t n).stage ≡ Awake
    by_test true = calm_awake k (t == t) t (st t n) c e
    by_test false = e

-- ---- one step

-- what is told is legal, and the state agrees with it
pub record Holds (m : State) (told : List Told) : Type 0 where
  pub law : LegalLocks told
  pub locks : LocksAgree m.monitors m.waiting (standing told)
  pub modes : ModesAgree m.threads (standing told)

-- an outcome of a step of thread t: its events of locks, the state after it
record Stepped (m l : State) (t : ℕ) (st : ℕ → Name → Standing) (ks : List LockEvent) : Type 0 where
  effect : Effect t st ks l.monitors l.waiting
  calm : ks ≡ [] → ModesAgree l.threads st
  one : (k : LockEvent) → ks ≡ k ∷ [] → ModesAgree l.threads (after_lock st t k)

-- the same events put before others
told_on : (m l : State) (t : ℕ) (d : Deed) (told : List Told) → Stepped m l t (standing told) d.locks → LegalLocks told → Holds l (onto (told_by (Some t) (events_of d)) told)
told_on m l t d told s law = subst (λ x. Holds l x) (sym whole) (by_effect s.effect)
  where
    base : List Told
    base = onto (told_by (Some t) (reads_of d.reads ++ writes d.changes)) told

    quiet_part : NoLock (reads_of d.reads ++ writes d.changes)
    quiet_part = no_lock-append (reads_of d.reads) (writes d.changes) (no_lock-reads d.reads) (no_lock-changes d.changes)

    stands : standing base ≡ standing told
    stands = stands_on (Some t) (reads_of d.reads ++ writes d.changes) told quiet_part

    legal : LegalLocks base
    legal = legal_on (Some t) (reads_of d.reads ++ writes d.changes) told quiet_part law

    whole : onto (told_by (Some t) (events_of d)) told ≡ onto (told_by (Some t) (map Locks d.locks)) base
    whole = onto_append (Some t) (reads_of d.reads) (writes d.changes ++ map Locks d.locks) told ∙ onto_append (Some t) (writes d.changes) (map Locks d.locks) (onto (told_by (Some t) (reads_of d.reads)) told)
        ∙ ap (onto (told_by (Some t) (map Locks d.locks))) (sym (onto_append (Some t) (reads_of d.reads) (writes d.changes) told))

    by_effect : Effect t (standing told) d.locks l.monitors l.waiting → Holds l (onto (told_by (Some t) (map Locks d.locks)) base)
    by_effect (no_event e a) = subst (λ (ks : List LockEvent). Holds l (onto (told_by (Some t) (map Locks ks)) base)) (sym e) (record { law = legal; locks = subst (λ st. LocksAgree l.monitors l.waiting st) (sym stands) a; modes = subst (λ st. ModesAgree l.threads st) (sym stands) (s.calm e) })
    by_effect (one_event k e f a) = subst (λ (ks : List LockEvent). Holds l (onto (told_by (Some t) (map Locks ks)) base)) (sym e) (record {
      law = (subst (λ st. Allowed st t k) (sym stands) f, legal);
      locks = subst (λ st. LocksAgree l.monitors l.waiting (after_lock st t k)) (sym stands) a;
      modes = subst (λ st. ModesAgree l.threads (after_lock st t k)) (sym stands) (s.one k e);
    })

-- a list without events has no first one
no_lock_list : (k : LockEvent) (ks : List LockEvent) → ks ≡ [] → ks ≡ k ∷ [] → ⊥
no_lock_list k ks e f = cc

-- two lists of one event have the same
head_is : (j k : LockEvent) (ks : List LockEvent) → ks ≡ j ∷ [] → ks ≡ k ∷ [] → j ≡ k
head_is j k ks e f = cc

-- a step whose thread neither waited before nor waits after, and whose event, if any, is calm
calm_step : (m : State) (t : ℕ) (own new : ThreadState) (d : Deed) (st : ℕ → Name → Standing) → slice_get m.threads t ≡ Some own → ModesAgree m.threads st → NotWaiting own.mode → NotWaiting new.mode
    → Effect t st d.locks (changed d.changes (record m { threads = slice_set m.threads t new })).monitors (changed d.changes (record m { threads = slice_set m.threads t new })).waiting
    → ((k : LockEvent) → d.locks ≡ k ∷ [] → Calm k) → EndsOwn t d.changes → Stepped m (changed d.changes (record m { threads = slice_set m.threads t new })) t st d.locks
calm_step m t own new d st e a w v f c ends = record {
  effect = f;
  calm = λ x. modes_after m t own new d.changes st st e a (λ n. awake_fits n new.mode (st t n) v (awake n)) (λ u n mode ne g. g) (own_end_only (IsUp st) t d.changes awake ends);
  one = λ k x. modes_after m t own new d.changes st (after_lock st t k) e a (λ n. awake_fits n new.mode (after_lock st t k t n) v (still_awake st t k n (c k x) (awake n))) (λ u n mode ne g. others_fit st t k u n mode ne g) (own_end_only (IsUp (after_lock st t k)) t d.changes (λ n. still_awake st t k n (c k x) (awake n)) ends);
}
  where
    awake : (n : Name) → (st t n).stage ≡ Awake
    awake n = fit_awake n own.mode (st t n) w (a.modes t own e n)

-- a step that waits
wait_step : (m : State) (t : ℕ) (own new : ThreadState) (d : Deed) (st : ℕ → Name → Standing) (n : Name) (o : MonitorState) → slice_get m.threads t ≡ Some own → LocksAgree m.monitors m.waiting st → ModesAgree m.threads st → NotWaiting own.mode
    → new.mode ≡ Waiting n o.count → owner_at m.monitors n ≡ Some o → o.owner ≡ t → d.locks ≡ Waits n ∷ [] → d.changes ≡ Freed n ∷ Sleeps n t ∷ []
    → Effect t st d.locks (changed d.changes (record m { threads = slice_set m.threads t new })).monitors (changed d.changes (record m { threads = slice_set m.threads t new })).waiting
    → Stepped m (changed d.changes (record m { threads = slice_set m.threads t new })) t st d.locks
wait_step m t own new d st n o e b a w v f g x h y = record {
  effect = y;
  calm = λ z. absurd (no_lock_list (Waits n) d.locks z x);
  one = λ k z. subst (λ (i : LockEvent). ModesAgree (changed d.changes (record m { threads = slice_set m.threads t new })).threads (after_lock st t i)) (head_is (Waits n) k d.locks x z)
      (modes_after m t own new d.changes st (after_lock st t (Waits n)) e a (λ q. subst (λ (i : Mode). ModeFits q i (after_lock st t (Waits n) t q)) (sym v) (waits q)) (λ u q mode ne i. others_fit st t (Waits n) u q mode ne i) (subst (EndOnly (IsUp (after_lock st t (Waits n)))) (sym h) tt));
}
  where
    asleep : Standing → Standing
    asleep s = record { held = 0; kept = s.held; stage = Asleep }

    not_up : Asleep ≢ Awake
    not_up e = cc

    at_own : (q : Name) → name_eq n q ≡ true → after_lock st t (Waits n) t q ≡ record { held = 0; kept = (st t q).held; stage = Asleep }
    at_own q i = ap (λ b. if b then at_lock (t == t) t (Waits n) (st t q) else st t q) i ∙ ap (λ b. at_lock b t (Waits n) (st t q)) (test_true t t refl)

    waits : (q : Name) → WaitsAt n o.count q (after_lock st t (Waits n) t q)
    waits q = record {
      here = λ i. subst (λ (s : Standing). (s.stage ≢ Awake) × ((s.kept ≡ o.count) × (0 < o.count))) (sym (at_own q i)) (not_up, (ap (λ (z : Name). (st t z).held) (sym (name_eq-true n q i)) ∙ held_by m.monitors m.waiting st t n o b f g, b.counts n o f));
      there = λ i. ap (λ (s : Standing). s.stage) (lock_apart st t (Waits n) t q i) ∙ fit_awake q own.mode (st t q) w (a.modes t own e q);
    }

-- and it is as calm
calm_is : (j k : LockEvent) (ks : List LockEvent) → Calm j → ks ≡ j ∷ [] → ks ≡ k ∷ [] → Calm k
calm_is j k ks c e f = subst (λ (i : LockEvent). Calm i) (head_is j k ks e f) c

-- a step that asks a request
request_step : (image : Program) (m : State) (c : Choice) (own : ThreadState) (k : Taken) (r : Request) (ls : List Level) (st : ℕ → Name → Standing) → slice_get m.threads c.thread ≡ Some own → LocksAgree m.monitors m.waiting st → ModesAgree m.threads st
    → NotWaiting own.mode → pick_fits c.pick k.deed.waiters ≡ true → k.stand ≡ complete image r k.deed.answer own.mode ls → LockDeed m c.thread c.pick r k.deed
    → Stepped m (changed k.deed.changes (record m { threads = slice_set m.threads c.thread (after own k.stand) })) c.thread st k.deed.locks
request_step image m c own k r ls st e b a w p s l = by_deed l
  where
    effect : Effect c.thread st k.deed.locks (changed k.deed.changes (record m { threads = slice_set m.threads c.thread (after own k.stand) })).monitors (changed k.deed.changes (record m { threads = slice_set m.threads c.thread (after own k.stand) })).waiting
    effect = deed_effect m (record m { threads = slice_set m.threads c.thread (after own k.stand) }) c.thread c.pick r k.deed st refl refl p b l

    mode : NotSlept k.deed.answer → NotWaiting k.stand.0
    mode n = subst (λ x. NotWaiting x.0) (sym s) (mode_after image r k.deed.answer own.mode ls w n)

    quiet_step : NotSlept k.deed.answer → ((j : LockEvent) → k.deed.locks ≡ j ∷ [] → Calm j) → Stepped m (changed k.deed.changes (record m { threads = slice_set m.threads c.thread (after own k.stand) })) c.thread st k.deed.locks
    quiet_step n calm = calm_step m c.thread own (after own k.stand) k.deed st e a w (mode n) effect calm (own_end m c.thread c.pick r k.deed l)

    by_deed : LockDeed m c.thread c.pick r k.deed → Stepped m (changed k.deed.changes (record m { threads = slice_set m.threads c.thread (after own k.stand) })) c.thread st k.deed.locks
    by_deed (free f g n) = quiet_step n (λ j x. absurd (no_lock_list j k.deed.locks f x))
    by_deed (first n o f g x) = quiet_step x (λ j y. calm_is (Enters n) j k.deed.locks tt f y)
    by_deed (again n o h i f g x) = quiet_step x (λ j y. calm_is (Enters n) j k.deed.locks tt f y)
    by_deed (left n o h i f g x) = quiet_step x (λ j y. calm_is (Leaves n) j k.deed.locks tt f y)
    by_deed (nobody n o h i z f g x) = quiet_step x (λ j y. calm_is (Notifies n None) j k.deed.locks tt f y)
    by_deed (somebody n o h i z ne f g x) = quiet_step x (λ j y. calm_is (Notifies n (Some c.pick)) j k.deed.locks tt f y)
    by_deed (everybody n o h i f g x) = quiet_step x (λ j y. calm_is (NotifiesAll n) j k.deed.locks tt f y)
    by_deed (slept n o h i f g x z) = wait_step m c.thread own (after own k.stand) k.deed st n o e b a w (ap (λ y. y.0) s ∙ ap (λ (y : Request). (complete image y k.deed.answer own.mode ls).0) z ∙ ap (λ (y : Answer). (complete image (Wait n) y own.mode ls).0) x ∙ mode_asleep image n o.count own.mode ls) h i f g effect

-- a step that takes a lock again
retake_step : (m : State) (t : ℕ) (own new : ThreadState) (st : ℕ → Name → Standing) (n : Name) (j : ℕ) → slice_get m.threads t ≡ Some own → LocksAgree m.monitors m.waiting st → ModesAgree m.threads st
    → own.mode ≡ Waiting n j → NotWaiting new.mode → owner_at m.monitors n ≡ None → has (waiters_of n m.waiting) t ≡ false
    → Stepped m (changed (Owned n (owned t j) ∷ []) (record m { threads = slice_set m.threads t new })) t st (Retakes n ∷ [])
retake_step m t own new st n j e b a w v f g = record {
  effect = one_event (Retakes n) refl (λ u ne. all_free m.monitors m.waiting st n b f u, up) (record {
    owns = owns_put m.monitors m.waiting st t j (Retakes n) b kept (λ u ne. all_free m.monitors m.waiting st n b f u);
    counts = counts_put m.monitors n t j count b.counts;
    sleeps = sleeps_same m.monitors m.waiting st t (Retakes n) b (λ u. same_stage u (same_or t u));
  });
  calm = λ z. absurd (no_lock_list (Retakes n) (Retakes n ∷ []) z refl);
  one = λ k z. subst (λ (i : LockEvent). ModesAgree (changed (Owned n (owned t j) ∷ []) (record m { threads = slice_set m.threads t new })).threads (after_lock st t i)) (head_is (Retakes n) k (Retakes n ∷ []) refl z)
      (modes_after m t own new (Owned n (owned t j) ∷ []) st (after_lock st t (Retakes n)) e a (λ q. awake_fits q new.mode (after_lock st t (Retakes n) t q) v (awake q (apart_or n q))) (λ u q mode ne i. others_fit st t (Retakes n) u q mode ne i) tt);
}
  where
    fits : (q : Name) → WaitsAt n j q (st t q)
    fits q = subst (λ (x : Mode). ModeFits q x (st t q)) w (a.modes t own e q)

    here : ((st t n).stage ≢ Awake) × (((st t n).kept ≡ j) × (0 < j))
    here = (fits n).here (name_itself n)

    kept : (st t n).kept ≡ j
    kept = here.1.0

    count : 0 < j
    count = here.1.1

    up : (st t n).stage ≡ Woken
    up = not_awake (st t n).stage here.0 (sym (b.sleeps n t) ∙ g)

    same_stage : (u : ℕ) → (t ≡ u) ⊎ (t ≢ u) → is_asleep (at_lock (t == u) u (Retakes n) (st u n)).stage ≡ is_asleep (st u n).stage
    same_stage u (inl h) = ap (λ x. is_asleep (at_lock x u (Retakes n) (st u n)).stage) (test_true t u h) ∙ sym (ap (λ (x : ℕ). is_asleep (st x n).stage) (sym h) ∙ sym (b.sleeps n t) ∙ g)
    same_stage u (inr ne) = ap (λ x. is_asleep (at_lock x u (Retakes n) (st u n)).stage) (test_false t u ne)

    awake : (q : Name) → (n ≡ q) ⊎ (name_eq n q ≡ false) → (after_lock st t (Retakes n) t q).stage ≡ Awake
    awake q (inl h) = subst (λ (x : Name). (after_lock st t (Retakes n) t x).stage ≡ Awake) h (ap (λ (x : Standing). x.stage) (lock_at st t (Retakes n) t) ∙ ap (λ x. (at_lock x t (Retakes n) (st t n)).stage) (test_true t t refl))
    awake q (inr h) = ap (λ (x : Standing). x.stage) (lock_apart st t (Retakes n) t q h) ∙ (fits q).there h

-- a thread takes its lock again
wake_step : (m : State) (t : ℕ) (own : ThreadState) (k : Taken) (st : ℕ → Name → Standing) (n : Name) (j : ℕ) → slice_get m.threads t ≡ Some own → LocksAgree m.monitors m.waiting st → ModesAgree m.threads st
    → own.mode ≡ Waiting n j → NotWaiting k.stand.0 → retakes t n j (owner_at m.monitors n) (waiters_of n m.waiting) ≡ Some k.deed
    → Stepped m (changed k.deed.changes (record m { threads = slice_set m.threads t (after own k.stand) })) t st k.deed.locks
wake_step m t own k st n j e b a w v r = by_owner (owner_at m.monitors n) refl r
  where
    by_test : (x : Bool) → has (waiters_of n m.waiting) t ≡ x → owner_at m.monitors n ≡ None → (if x then None else Some (locking (Retakes n) (Owned n (owned t j) ∷ []))) ≡ Some k.deed
        → Stepped m (changed k.deed.changes (record m { threads = slice_set m.threads t (after own k.stand) })) t st k.deed.locks
    by_test true g f h = absurd cc
    by_test false g f h = subst (λ (d : Deed). Stepped m (changed d.changes (record m { threads = slice_set m.threads t (after own k.stand) })) t st d.locks) (some_is h) (retake_step m t own (after own k.stand) st n j e b a w v f g)

    by_owner : (o : Option MonitorState) → owner_at m.monitors n ≡ o → retakes t n j o (waiters_of n m.waiting) ≡ Some k.deed → Stepped m (changed k.deed.changes (record m { threads = slice_set m.threads t (after own k.stand) })) t st k.deed.locks
    by_owner None f h = by_test (has (waiters_of n m.waiting) t) refl f h
    by_owner (Some o) f h = absurd cc

-- ---- any step, any run

-- a taken step keeps the agreement, and its events are legal
taken_step : (image : Program) (m : State) (c : Choice) (own : ThreadState) (k : Taken) (st : ℕ → Name → Standing) → slice_get m.threads c.thread ≡ Some own → LocksAgree m.monitors m.waiting st → ModesAgree m.threads st → Taking image m c own.mode k
    → Stepped m (changed k.deed.changes (record m { threads = slice_set m.threads c.thread (after own k.stand) })) c.thread st k.deed.locks
taken_step image m c own k st e b a g = by_act g.acts
  where
    by_act : Acts image m c own.mode k → Stepped m (changed k.deed.changes (record m { threads = slice_set m.threads c.thread (after own k.stand) })) c.thread st k.deed.locks
    by_act (alone w d v) = subst (λ (x : Deed). Stepped m (changed x.changes (record m { threads = slice_set m.threads c.thread (after own k.stand) })) c.thread st x.locks) (sym d) (calm_step m c.thread own (after own k.stand) (quiet None) st e a w v (no_event refl b) (λ j x. absurd (no_lock_list j [] refl x)) tt)
    by_act (asks r ls w s t) = request_step image m c own k r ls st e b a w g.picks t (lock_served image c.thread m c r k.deed s)
    by_act (wakes n j w r v) = wake_step m c.thread own k st n j e b a w v r

-- so does a step
pub step_holds : (image : Program) (m l : State) (c : Choice) (told : List Told) → step image m c ≡ Some l → Holds m told → Holds l (onto (step_events image m c) told)
unfolding step step_events moved_on
step_holds image m l c told e h = by_thread (slice_get m.threads c.thread) refl e
  where
    by_taken : (th : ThreadState) → slice_get m.threads c.thread ≡ Some th → (o : Option Taken) → taken_by image m c th ≡ o → from None (λ k. Some (moved_on m c.thread th k)) o ≡ Some l
        → Holds l (onto (from [] (λ k. told_by (Some c.thread) (events_of k.deed)) o) told)
    by_taken th i None f e = absurd cc
    by_taken th i (Some k) f e = subst (λ (x : State). Holds x (onto (told_by (Some c.thread) (events_of k.deed)) told)) (some_is e)
        (told_on m (changed k.deed.changes (record m { threads = slice_set m.threads c.thread (after th k.stand) })) c.thread k.deed told (taken_step image m c th k (standing told) i h.locks h.modes (taking image m c th k f)) h.law)

    by_thread : (o : Option ThreadState) → slice_get m.threads c.thread ≡ o → step_of image m c o ≡ Some l → Holds l (onto (from [] (λ th. from [] (λ k. told_by (Some c.thread) (events_of k.deed)) (taken_by image m c th)) o) told)
    by_thread None i e = absurd cc
    by_thread (Some th) i e = by_taken th i (taken_by image m c th) refl e

-- so does a run
run_holds : (image : Program) (m : State) (told : List Told) (order : List Choice) → Holds m told → LegalLocks (run_events image m told order)
unfolding run_events
run_holds image m told [] h = h.law
run_holds image m told (c ∷ cs) h = by_step (step image m c) refl (λ l w. run_holds image l (onto (step_events image m c) told) cs w)
  where
    by_step : (o : Option State) → step image m c ≡ o → ((l : State) → Holds l (onto (step_events image m c) told) → LegalLocks (run_events image l (onto (step_events image m c) told) cs))
        → LegalLocks (from told (λ next. run_events image next (onto (step_events image m c) told) cs) o)
    by_step None e f = h.law
    by_step (Some l) e f = f l (step_holds image m l c told e h)

-- before the first step nobody holds or waits
premade_stands : (os : List (Name × ObjectBody)) (told : List Told) → LegalLocks told → LegalLocks (first_writes os told) × (standing (first_writes os told) ≡ standing told)
premade_stands [] told l = (l, refl)
premade_stands (o ∷ os) told l =
    let r = premade_stands os (onto (told_by None (body_writes o.0 o.1)) told) (legal_on None (body_writes o.0 o.1) told (no_lock-body o.0 o.1) l) in
    (r.0, r.1 ∙ stands_on None (body_writes o.0 o.1) told (no_lock-body o.0 o.1))

-- before the first step
fresh_modes : (object : Name) → ModesAgree (new_thread object ∷ []) (standing [])
fresh_modes object = record { modes = go; absent = λ u e n. refl }
  where
    go : (u : ℕ) (th : ThreadState) → slice_get (new_thread object ∷ []) u ≡ Some th → (n : Name) → ModeFits n th.mode (standing [] u n)
    go zero th e n = subst (λ (x : ThreadState). ModeFits n x.mode (standing [] zero n)) (some_is e) refl
    go (suc u) th e n = absurd cc

-- the law
pub legal_locks : LegalLocksLaw
unfolding start start_events
legal_locks image args order =
    let r = premade_stands (pre_made image args) [] tt in
    run_holds image (start image args) (start_events image args) order (record {
      law = r.0;
      locks = subst (λ st. LocksAgree [] [] st) (sym r.1) (record { owns = λ n u. refl; counts = λ n o e. absurd (nothing e); sleeps = λ n u. refl });
      modes = subst (λ st. ModesAgree (new_thread (main_thread image (length args)) ∷ []) st) (sym r.1) (fresh_modes (main_thread image (length args)));
    })
  where
    nothing : {o : MonitorState} → ◌≡◌ {A = Option MonitorState} None (Some o) → ⊥
    nothing e = cc
