-- The lock table, the waiting list and the modes agree with what the events tell.
use Rattle.std.proofs.Common.{◌≡◌, ◌≢◌, ◌⊎◌, inl, inr, ℕ, ◌<◌, Bool, true, false, cond, not, ◌&&◌, ◌||◌, ◌==◌, if◌then◌else◌, List, [], ◌∷◌, ◌++◌, Option, Some, None, refl, sym, ap, ◌∙◌, subst}
use Rattle.std.specs.Prelude.{slice_get}
use Rattle.jvm_base.specs.declared.name.Name.{Name}
use Rattle.jvm_base.proofs.NameLaws.{exact_names}
use Rattle.machine_state.specs.declared.state.Mode.{Mode}
use Rattle.machine_state.specs.declared.state.Mode.TheVariants.{Entry, Running, Raising, Waiting, Ended}
use Rattle.machine_state.specs.declared.state.MonitorState.{MonitorState}
use Rattle.machine_state.specs.declared.state.ThreadState.{ThreadState}
use Rattle.machine_state.specs.declared.state.Waiter.{Waiter}
use Rattle.jvm_base.specs.Maps.{put}
use Rattle.machine_state.proofs.MapLaws.{find-put, find-where_key}
use Rattle.jvm_base.specs.Names.{name_cmp, name_eq}
use Rattle.hierarchy.proofs.Tests.{or_assoc}
use Rattle.hierarchy.specs.Walks.{has}
use Rattle.machine_state.specs.State.{Owners, owner_at, waiters_of}
use Rattle.machine_state.specs.Changes.{waiter, without_waiter, without_waiters, without_owner}
use Rattle.machine_state.specs.Events.{LockEvent, Enters, Leaves, Waits, Notifies, NotifiesAll, Retakes}
use Rattle.machine_state.specs.Locks.{owned}
use Rattle.machine_state.specs.LegalLocks.{Stage, Awake, Asleep, Woken, Standing, wakened, at_lock, lock_of, OthersFree}
use Rattle.machine_state.proofs.NameTests.{names_total, name_itself, same_or, test_true, test_false, some_is, not_both}
use Rattle.machine_state.proofs.FrameLaws.{apart_or, eq_turned, put_apart, freed_apart}
use Rattle.machine_state.proofs.ModeActs.{NotWaiting}

-- how often a thread owns a lock, by its entry
abbrev pub count_of : ℕ → Option MonitorState → ℕ
count_of u None = 0
count_of u (Some o) = if o.owner == u then o.count else 0

-- the stage of a sleeper
abbrev pub is_asleep : Stage → Bool
is_asleep Asleep = true
is_asleep _ = false

-- a thread that waits on the lock l with the count k
pub record WaitsAt (l : Name) (k : ℕ) (n : Name) (s : Standing) : Type 0 where
  pub here : name_eq l n ≡ true → (s.stage ≢ Awake) × ((s.kept ≡ k) × (0 < k))
  pub there : name_eq l n ≡ false → s.stage ≡ Awake

-- a mode fits how its thread stands to a lock: a thread that waits there sleeps or woke, any other is awake
abbrev pub ModeFits : Name → Mode → Standing → Type 0
ModeFits n (Waiting l k) s = WaitsAt l k n s
ModeFits n mode s = s.stage ≡ Awake

-- the table of locks and the waiting list are what the events tell
pub record LocksAgree (owners : Owners) (waiting : List Waiter) (st : ℕ → Name → Standing) : Type 0 where
  pub owns : (n : Name) (u : ℕ) → (st u n).held ≡ count_of u (owner_at owners n)
  pub counts : (n : Name) (o : MonitorState) → owner_at owners n ≡ Some o → 0 < o.count
  pub sleeps : (n : Name) (u : ℕ) → has (waiters_of n waiting) u ≡ is_asleep (st u n).stage

-- so are the modes; nobody waits who is not there
pub record ModesAgree (threads : List ThreadState) (st : ℕ → Name → Standing) : Type 0 where
  pub modes : (u : ℕ) (th : ThreadState) → slice_get threads u ≡ Some th → (n : Name) → ModeFits n th.mode (st u n)
  pub absent : (u : ℕ) → slice_get threads u ≡ None → (n : Name) → (st u n).stage ≡ Awake

-- a thread that doesn't wait is awake
pub fit_awake : (n : Name) (mode : Mode) (s : Standing) → NotWaiting mode → ModeFits n mode s → s.stage ≡ Awake
fit_awake n (Waiting l k) s w f = absurd w
fit_awake n Entry s w f = f
fit_awake n Running s w f = f
fit_awake n (Raising e) s w f = f
fit_awake n Ended s w f = f

-- and the other way round
pub awake_fits : (n : Name) (mode : Mode) (s : Standing) → NotWaiting mode → s.stage ≡ Awake → ModeFits n mode s
awake_fits n (Waiting l k) s w f = absurd w
awake_fits n Entry s w f = f
awake_fits n Running s w f = f
awake_fits n (Raising e) s w f = f
awake_fits n Ended s w f = f

-- who is awake stays so
wakened_awake : (g : Stage) → g ≡ Awake → wakened g ≡ Awake
wakened_awake Awake e = refl
wakened_awake Asleep e = absurd cc
wakened_awake Woken e = absurd cc

-- nobody falls awake by being wakened
wakened_not : (g : Stage) → g ≢ Awake → wakened g ≢ Awake
wakened_not Awake ne e = ne refl
wakened_not Asleep ne e = absurd cc
wakened_not Woken ne e = absurd cc

-- who is wakened sleeps no longer
pub wakened_up : (g : Stage) → is_asleep (wakened g) ≡ false
wakened_up Awake = refl
wakened_up Asleep = refl
wakened_up Woken = refl

-- a mode fits on where a thread is wakened
pub wakened_fits : (n : Name) (mode : Mode) (s : Standing) → ModeFits n mode s → ModeFits n mode (record s { stage = wakened s.stage })
wakened_fits n (Waiting l k) s f = record { here = λ e. (wakened_not s.stage (f.here e).0, (f.here e).1); there = λ e. wakened_awake s.stage (f.there e) }
wakened_fits n Entry s f = wakened_awake s.stage f
wakened_fits n Running s f = wakened_awake s.stage f
wakened_fits n (Raising e) s f = wakened_awake s.stage f
wakened_fits n Ended s f = wakened_awake s.stage f

-- ---- standings after an event of thread t

-- how threads stand after an event of a thread
abbrev pub after_lock : (ℕ → Name → Standing) → ℕ → LockEvent → ℕ → Name → Standing
after_lock st t k u n = if name_eq (lock_of k) n then at_lock (t == u) u k (st u n) else st u n

-- of another lock nothing changes
pub lock_apart : (st : ℕ → Name → Standing) (t : ℕ) (k : LockEvent) (u : ℕ) (n : Name) → name_eq (lock_of k) n ≡ false → after_lock st t k u n ≡ st u n
lock_apart st t k u n e = ap (λ b. if b then at_lock (t == u) u k (st u n) else st u n) e

-- to the lock of the event
pub lock_at : (st : ℕ → Name → Standing) (t : ℕ) (k : LockEvent) (u : ℕ) → after_lock st t k u (lock_of k) ≡ at_lock (t == u) u k (st u (lock_of k))
lock_at st t k u = ap (λ b. if b then at_lock (t == u) u k (st u (lock_of k)) else st u (lock_of k)) (name_itself (lock_of k))

-- an event leaves how it is with other threads, but that it may wake them
abbrev pub Passive : LockEvent → Type 0
Passive k = (u : ℕ) (n : Name) (s : Standing) (mode : Mode) → ModeFits n mode s → ModeFits n mode (at_lock false u k s)

-- no event but its own thread's changes how a thread fits
pub passive : (k : LockEvent) → Passive k
passive (Enters n) u q s mode f = f
passive (Leaves n) u q s mode f = f
passive (Waits n) u q s mode f = f
passive (Retakes n) u q s mode f = f
passive (NotifiesAll n) u q s mode f = wakened_fits q mode s f
passive (Notifies n None) u q s mode f = f
passive (Notifies n (Some x)) u q s mode f = by_test (x == u)
  where
    by_test : (b : Bool) → ModeFits q mode (if b then record s { stage = wakened s.stage } else s)
    by_test true = wakened_fits q mode s f
    by_test false = f

-- so other modes fit on
pub others_fit : (st : ℕ → Name → Standing) (t : ℕ) (k : LockEvent) (u : ℕ) (n : Name) (mode : Mode) → u ≢ t → ModeFits n mode (st u n) → ModeFits n mode (after_lock st t k u n)
others_fit st t k u n mode ne f = by_name (name_eq (lock_of k) n)
  where
    by_name : (b : Bool) → ModeFits n mode (if b then at_lock (t == u) u k (st u n) else st u n)
    by_name true = subst (λ (b : Bool). ModeFits n mode (at_lock b u k (st u n))) (sym (test_false t u (λ e. ne (sym e)))) (passive k u n (st u n) mode f)
    by_name false = f

-- ---- owners

-- the owner of a lock after one was entered
owner_put : (os : Owners) (n q : Name) (o : MonitorState) → owner_at (put name_cmp n o os) q ≡ cond (name_eq q n) (Some o) (owner_at os q)
owner_put os n q o = find-put name_cmp names_total q n o os

-- nobody owns a lock that was left
owner_freed : (os : Owners) (n : Name) → owner_at (without_owner n os) n ≡ None
owner_freed os n = find-where_key name_cmp (λ x. not (name_eq n x)) n (λ x h. ap (λ (y : Name). not (name_eq n y)) (sym (exact_names n x h))) os ∙ ap (λ b. cond (not b) (owner_at os n) None) (name_itself n)

-- a thread now owns the lock n with the count j
pub owns_put : (os : Owners) (ws : List Waiter) (st : ℕ → Name → Standing) (t j : ℕ) (k : LockEvent) → LocksAgree os ws st → (at_lock true t k (st t (lock_of k))).held ≡ j
    → ((u : ℕ) → u ≢ t → (at_lock false u k (st u (lock_of k))).held ≡ 0)
    → (n : Name) (u : ℕ) → (after_lock st t k u n).held ≡ count_of u (owner_at (put name_cmp (lock_of k) (owned t j) os) n)
owns_put os ws st t j k a own rest n u = by_name (apart_or (lock_of k) n)
  where
    o : MonitorState
    o = owned t j

    at_thread : (t ≡ u) ⊎ (t ≢ u) → (at_lock (t == u) u k (st u (lock_of k))).held ≡ (if t == u then j else 0)
    at_thread (inl e) = subst (λ (x : ℕ). (at_lock (t == x) x k (st x (lock_of k))).held ≡ (if t == x then j else 0)) e (ap (λ b. (at_lock b t k (st t (lock_of k))).held) (test_true t t refl) ∙ own ∙ sym (ap (λ b. if b then j else 0) (test_true t t refl)))
    at_thread (inr ne) = ap (λ b. (at_lock b u k (st u (lock_of k))).held) (test_false t u ne) ∙ rest u (λ e. ne (sym e)) ∙ sym (ap (λ b. if b then j else 0) (test_false t u ne))

    here : (after_lock st t k u (lock_of k)).held ≡ count_of u (owner_at (put name_cmp (lock_of k) o os) (lock_of k))
    here = ap (λ (s : Standing). s.held) (lock_at st t k u) ∙ at_thread (same_or t u) ∙ sym (ap (count_of u) (owner_put os (lock_of k) (lock_of k) o ∙ ap (λ b. cond b (Some o) (owner_at os (lock_of k))) (name_itself (lock_of k))))

    by_name : (lock_of k ≡ n) ⊎ (name_eq (lock_of k) n ≡ false) → (after_lock st t k u n).held ≡ count_of u (owner_at (put name_cmp (lock_of k) o os) n)
    by_name (inl e) = subst (λ (x : Name). (after_lock st t k u x).held ≡ count_of u (owner_at (put name_cmp (lock_of k) o os) x)) e here
    by_name (inr e) = ap (λ (s : Standing). s.held) (lock_apart st t k u n e) ∙ a.owns n u ∙ sym (ap (count_of u) (put_apart os (lock_of k) n o (eq_turned n (lock_of k) ∙ e)))

-- nobody owns the lock n any more
pub owns_freed : (os : Owners) (ws : List Waiter) (st : ℕ → Name → Standing) (t : ℕ) (k : LockEvent) → LocksAgree os ws st → ((u : ℕ) → (at_lock (t == u) u k (st u (lock_of k))).held ≡ 0)
    → (n : Name) (u : ℕ) → (after_lock st t k u n).held ≡ count_of u (owner_at (without_owner (lock_of k) os) n)
owns_freed os ws st t k a all n u = by_name (apart_or (lock_of k) n)
  where
    here : (after_lock st t k u (lock_of k)).held ≡ count_of u (owner_at (without_owner (lock_of k) os) (lock_of k))
    here = ap (λ (s : Standing). s.held) (lock_at st t k u) ∙ all u ∙ sym (ap (count_of u) (owner_freed os (lock_of k)))

    by_name : (lock_of k ≡ n) ⊎ (name_eq (lock_of k) n ≡ false) → (after_lock st t k u n).held ≡ count_of u (owner_at (without_owner (lock_of k) os) n)
    by_name (inl e) = subst (λ (x : Name). (after_lock st t k u x).held ≡ count_of u (owner_at (without_owner (lock_of k) os) x)) e here
    by_name (inr e) = ap (λ (s : Standing). s.held) (lock_apart st t k u n e) ∙ a.owns n u ∙ sym (ap (count_of u) (freed_apart os (lock_of k) n (eq_turned n (lock_of k) ∙ e)))

-- counts are above 0 after a lock was entered
pub counts_put : (os : Owners) (n : Name) (t j : ℕ) → 0 < j → ((q : Name) (o : MonitorState) → owner_at os q ≡ Some o → 0 < o.count) → (q : Name) (o : MonitorState) → owner_at (put name_cmp n (owned t j) os) q ≡ Some o → 0 < o.count
counts_put os n t j p a q o e = by_test (name_eq q n) (sym (owner_put os n q (owned t j)) ∙ e)
  where
    by_test : (b : Bool) → cond b (Some (owned t j)) (owner_at os q) ≡ Some o → 0 < o.count
    by_test true e = subst (λ (x : MonitorState). 0 < x.count) (some_is e) p
    by_test false e = a q o e

-- and after one was left
pub counts_freed : (os : Owners) (n : Name) → ((q : Name) (o : MonitorState) → owner_at os q ≡ Some o → 0 < o.count) → (q : Name) (o : MonitorState) → owner_at (without_owner n os) q ≡ Some o → 0 < o.count
counts_freed os n a q o e = by_name (apart_or n q)
  where
    by_name : (n ≡ q) ⊎ (name_eq n q ≡ false) → 0 < o.count
    by_name (inl h) = absurd (not_both (ap (λ (x : Name). owner_at (without_owner n os) x) (sym h) ∙ owner_freed os n) e)
    by_name (inr h) = a q o (sym (freed_apart os n q (eq_turned q n ∙ h)) ∙ e)

-- ---- what is known of an owner

-- an owner holds the lock as often as its entry says
pub held_by : (os : Owners) (ws : List Waiter) (st : ℕ → Name → Standing) (t : ℕ) (n : Name) (o : MonitorState) → LocksAgree os ws st → owner_at os n ≡ Some o → o.owner ≡ t → (st t n).held ≡ o.count
held_by os ws st t n o a e f = a.owns n t ∙ ap (count_of t) e ∙ ap (λ b. if b then o.count else 0) (test_true o.owner t f)

-- no other thread holds it
pub others_free : (os : Owners) (ws : List Waiter) (st : ℕ → Name → Standing) (t : ℕ) (n : Name) (o : MonitorState) → LocksAgree os ws st → owner_at os n ≡ Some o → o.owner ≡ t → OthersFree st t n
others_free os ws st t n o a e f u ne = a.owns n u ∙ ap (count_of u) e ∙ ap (λ b. if b then o.count else 0) (test_false o.owner u (λ h. ne (sym h ∙ f)))

-- nobody holds a lock without an owner
pub all_free : (os : Owners) (ws : List Waiter) (st : ℕ → Name → Standing) (n : Name) → LocksAgree os ws st → owner_at os n ≡ None → (u : ℕ) → (st u n).held ≡ 0
all_free os ws st n a e u = a.owns n u ∙ ap (count_of u) e

-- ---- sleepers

-- an event that puts nobody to sleep and wakes nobody
pub sleeps_same : (os : Owners) (ws : List Waiter) (st : ℕ → Name → Standing) (t : ℕ) (k : LockEvent) → LocksAgree os ws st
    → ((u : ℕ) → is_asleep (at_lock (t == u) u k (st u (lock_of k))).stage ≡ is_asleep (st u (lock_of k)).stage)
    → (n : Name) (u : ℕ) → has (waiters_of n ws) u ≡ is_asleep (after_lock st t k u n).stage
sleeps_same os ws st t k a s n u = by_name (apart_or (lock_of k) n)
  where
    by_name : (lock_of k ≡ n) ⊎ (name_eq (lock_of k) n ≡ false) → has (waiters_of n ws) u ≡ is_asleep (after_lock st t k u n).stage
    by_name (inl e) = subst (λ (x : Name). has (waiters_of x ws) u ≡ is_asleep (after_lock st t k u x).stage) e (a.sleeps (lock_of k) u ∙ sym (ap (λ (x : Standing). is_asleep x.stage) (lock_at st t k u) ∙ s u))
    by_name (inr e) = a.sleeps n u ∙ sym (ap (λ (x : Standing). is_asleep x.stage) (lock_apart st t k u n e))

-- an event whose change of the waiting list is that of the stages
pub sleeps_changed : (os : Owners) (ws vs : List Waiter) (st : ℕ → Name → Standing) (t : ℕ) (k : LockEvent) → LocksAgree os ws st
    → ((q : Name) → name_eq (lock_of k) q ≡ false → waiters_of q vs ≡ waiters_of q ws)
    → ((u : ℕ) → has (waiters_of (lock_of k) vs) u ≡ is_asleep (at_lock (t == u) u k (st u (lock_of k))).stage)
    → (n : Name) (u : ℕ) → has (waiters_of n vs) u ≡ is_asleep (after_lock st t k u n).stage
sleeps_changed os ws vs st t k a r s n u = by_name (apart_or (lock_of k) n)
  where
    by_name : (lock_of k ≡ n) ⊎ (name_eq (lock_of k) n ≡ false) → has (waiters_of n vs) u ≡ is_asleep (after_lock st t k u n).stage
    by_name (inl e) = subst (λ (x : Name). has (waiters_of x vs) u ≡ is_asleep (after_lock st t k u x).stage) e (s u ∙ sym (ap (λ (x : Standing). is_asleep x.stage) (lock_at st t k u)))
    by_name (inr e) = ap (λ (x : List ℕ). has x u) (r n e) ∙ a.sleeps n u ∙ sym (ap (λ (x : Standing). is_asleep x.stage) (lock_apart st t k u n e))

-- ---- the waiters of the lock itself

-- the sleepers on a lock after one fell asleep
pub added_waiter : (ws : List Waiter) (n : Name) (t u : ℕ) → has (waiters_of n (ws ++ waiter n t ∷ [])) u ≡ (has (waiters_of n ws) u || t == u)
added_waiter [] n t u = ap (λ b. has (if b then t ∷ [] else []) u) (name_itself n) ∙ by_test (t == u)
  where
    by_test : (b : Bool) → (b || false) ≡ (false || b)
    by_test true = refl
    by_test false = refl
added_waiter (w ∷ ws) n t u = by_test (name_eq w.lock n) (added_waiter ws n t u)
  where
    by_test : (b : Bool) → has (waiters_of n (ws ++ waiter n t ∷ [])) u ≡ (has (waiters_of n ws) u || t == u)
        → has (if b then w.thread ∷ waiters_of n (ws ++ waiter n t ∷ []) else waiters_of n (ws ++ waiter n t ∷ [])) u ≡ (has (if b then w.thread ∷ waiters_of n ws else waiters_of n ws) u || t == u)
    by_test true e = ap (λ b. w.thread == u || b) e ∙ or_assoc (w.thread == u) (has (waiters_of n ws) u) (t == u)
    by_test false e = e

-- and after one was woken
pub taken_waiter : (ws : List Waiter) (n : Name) (p u : ℕ) → has (waiters_of n (without_waiter n p ws)) u ≡ (has (waiters_of n ws) u && not (p == u))
taken_waiter [] n p u = refl
taken_waiter (w ∷ ws) n p u = by_test (name_eq w.lock n) (same_or w.thread p) (taken_waiter ws n p u) refl
  where
    more : Bool
    more = has (waiters_of n (without_waiter n p ws)) u

    keep : (a b c d : Bool) → c ≡ (a && not d) → (b ≡ true → d ≡ false) → (b || c) ≡ ((b || a) && not d)
    keep a true c d e f = sym (ap not (f refl))
    keep a false c d e f = e

    drop : (a b c d : Bool) → c ≡ (a && not d) → b ≡ d → c ≡ ((b || a) && not d)
    drop a true c true e f = e ∙ last a
      where
        last : (a : Bool) → (a && false) ≡ false
        last true = refl
        last false = refl
    drop a true c false e f = absurd cc
    drop a false c d e f = e

    by_test : (g : Bool) → (w.thread ≡ p) ⊎ (w.thread ≢ p) → has (waiters_of n (without_waiter n p ws)) u ≡ (has (waiters_of n ws) u && not (p == u)) → name_eq w.lock n ≡ g
        → has (waiters_of n (if not (g && w.thread == p) then w ∷ without_waiter n p ws else without_waiter n p ws)) u ≡ (has (if g then w.thread ∷ waiters_of n ws else waiters_of n ws) u && not (p == u))
    by_test false h e f = ap (λ b. has (if b then w.thread ∷ waiters_of n (without_waiter n p ws) else waiters_of n (without_waiter n p ws)) u) f ∙ e
    by_test true (inl h) e f = ap (λ b. has (waiters_of n (if not b then w ∷ without_waiter n p ws else without_waiter n p ws)) u) (test_true w.thread p h) ∙ drop (has (waiters_of n ws) u) (w.thread == u) (has (waiters_of n (without_waiter n p ws)) u) (p == u) e (ap (λ (x : ℕ). x == u) h)
    by_test true (inr h) e f = ap (λ b. has (waiters_of n (if not b then w ∷ without_waiter n p ws else without_waiter n p ws)) u) (test_false w.thread p h)
        ∙ ap (λ b. has (if b then w.thread ∷ waiters_of n (without_waiter n p ws) else waiters_of n (without_waiter n p ws)) u) f
        ∙ keep (has (waiters_of n ws) u) (w.thread == u) (has (waiters_of n (without_waiter n p ws)) u) (p == u) e (apart h (same_or p u))
      where
        apart : w.thread ≢ p → (p ≡ u) ⊎ (p ≢ u) → (w.thread == u) ≡ true → (p == u) ≡ false
        apart ne (inl e) t = absurd (let f : (w.thread == u) ≡ false = test_false w.thread u (λ x. ne (x ∙ sym e)) in cc)
        apart ne (inr n) t = test_false p u n

-- nobody sleeps on a lock after all were woken
pub no_waiters : (ws : List Waiter) (n : Name) → waiters_of n (without_waiters n ws) ≡ []
no_waiters [] n = refl
no_waiters (w ∷ ws) n = by_test (name_eq w.lock n) refl (no_waiters ws n)
  where
    by_test : (b : Bool) → name_eq w.lock n ≡ b → waiters_of n (without_waiters n ws) ≡ [] → waiters_of n (if not b then w ∷ without_waiters n ws else without_waiters n ws) ≡ []
    by_test true e f = f
    by_test false e f = ap (λ b. if b then w.thread ∷ waiters_of n (without_waiters n ws) else waiters_of n (without_waiters n ws)) e ∙ f
