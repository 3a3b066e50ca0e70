-- What each deed does about locks.
use Rattle.std.proofs.Common.{◌≡◌, ◌≢◌, ℕ, ◌+◌, Bool, true, false, ◌==◌, if◌then◌else◌, List, [], ◌∷◌, map, Option, Some, None, refl, sym, subst}
use Rattle.std.specs.Prelude.{slice_get, nat_lt, length, ℤ, unsigned_abs}
use Rattle.std.proofs.lemmas.Bool.Decides.{Decides-eqb}
use Rattle.jvm_base.specs.declared.name.Name.{Name}
use Rattle.jvm_base.specs.declared.value.Value.{Value}
use Rattle.jvm_base.specs.declared.value.ObjectBody.{ObjectBody}
use Rattle.jvm_base.specs.declared.value.ObjectBody.TheVariants.{Fields, Array, Text}
use Rattle.machine_state.specs.declared.state.Choice.{Choice}
use Rattle.machine_state.specs.declared.state.MonitorState.{MonitorState}
use Rattle.machine_state.specs.declared.state.ClassState.{ClassState}
use Rattle.machine_state.specs.declared.state.ClassState.TheVariants as class_state
use Rattle.program_image.specs.Program.{Program}
use Rattle.jvm_base.specs.Words.{from}
use Rattle.program_image.specs.Buffers.{is_buffer}
use Rattle.machine_state.specs.State.{State, owner_at, waiters_of}
use Rattle.machine_state.specs.declared.request.Request.{Request}
use Rattle.machine_state.specs.declared.request.Request.TheVariants.{Get, Put, Load, Store, Len, Make, MakeText, Fault, Enter, Exit, Wait, Notify, NotifyAll, Begin, InitDone, InitFail, Start, Join, Finish, Buffer, Print}
use Rattle.machine_state.specs.Requests.{key_of, cell}
use Rattle.machine_state.specs.Changes.{Change, Made, SetsElement, Owned, Freed, Sleeps, Moved, MovedAll, Becomes, Finished}
use Rattle.machine_state.specs.Events.{Enters, Leaves, Waits, Notifies, NotifiesAll, FieldOf, ElementOf, One}
use Rattle.machine_state.specs.declared.request.Answer.{Answer}
use Rattle.machine_state.specs.declared.request.Answer.TheVariants.{Slept}
use Rattle.machine_state.specs.Deeds.{Deed, faulted, locking, reading, changing}
use Rattle.machine_state.specs.Serve.{begins, by_runner, serve, fails, starts, joins, ends}
use Rattle.machine_state.specs.Bodies.{get, put, load, store, len, buffer, element_at, takes_value}
use Rattle.machine_state.specs.Making.{made_objects}
use Rattle.machine_state.specs.Locks.{enter, by_owner, notifies, owned, released}
use Rattle.machine_state.proofs.NameTests.{some_is}
use Rattle.machine_state.specs.BootClasses.{array_index, array_store}
use Rattle.machine_state.specs.Intrinsics.{new_buffer, buffer_text, buffer_length}

-- changes that are of no lock, by which no thread but this one ends
abbrev pub Free : ℕ → List Change → Type 0
Free t [] = Unit {0}
Free t (Owned n o ∷ hs) = ⊥
Free t (Freed n ∷ hs) = ⊥
Free t (Sleeps n u ∷ hs) = ⊥
Free t (Moved n u ∷ hs) = ⊥
Free t (MovedAll n ∷ hs) = ⊥
Free t (Finished u ∷ hs) = (u ≡ t) × Free t hs
Free t (h ∷ hs) = Free t hs

-- the thread goes on
abbrev pub NotSlept : Answer → Type 0
NotSlept (Slept k) = ⊥
NotSlept a = Unit {0}

-- what a deed of thread t does about locks
pub data LockDeed (m : State) (t pick : ℕ) : Request → Deed → Type 0 where
  free : {r : Request} {d : Deed} → d.locks ≡ [] → Free t d.changes → NotSlept d.answer → LockDeed m t pick r d
  first : {r : Request} {d : Deed} (n : Name) → owner_at m.monitors n ≡ None → d.locks ≡ Enters n ∷ [] → d.changes ≡ Owned n (owned t 1) ∷ [] → NotSlept d.answer → LockDeed m t pick r d
  again : {r : Request} {d : Deed} (n : Name) (o : MonitorState) → owner_at m.monitors n ≡ Some o → o.owner ≡ t → d.locks ≡ Enters n ∷ [] → d.changes ≡ Owned n (owned t (o.count + 1)) ∷ [] → NotSlept d.answer → LockDeed m t pick r d
  left : {r : Request} {d : Deed} (n : Name) (o : MonitorState) → owner_at m.monitors n ≡ Some o → o.owner ≡ t → d.locks ≡ Leaves n ∷ [] → d.changes ≡ released n o ∷ [] → NotSlept d.answer → LockDeed m t pick r d
  slept : {r : Request} {d : Deed} (n : Name) (o : MonitorState) → owner_at m.monitors n ≡ Some o → o.owner ≡ t → d.locks ≡ Waits n ∷ [] → d.changes ≡ Freed n ∷ Sleeps n t ∷ [] → d.answer ≡ Slept o.count → r ≡ Wait n → LockDeed m t pick r d
  nobody : {r : Request} {d : Deed} (n : Name) (o : MonitorState) → owner_at m.monitors n ≡ Some o → o.owner ≡ t → waiters_of n m.waiting ≡ [] → d.locks ≡ Notifies n None ∷ [] → d.changes ≡ [] → NotSlept d.answer → LockDeed m t pick r d
  somebody : {r : Request} {d : Deed} (n : Name) (o : MonitorState) → owner_at m.monitors n ≡ Some o → o.owner ≡ t → d.waiters ≡ waiters_of n m.waiting → d.waiters ≢ [] → d.locks ≡ Notifies n (Some pick) ∷ [] → d.changes ≡ Moved n pick ∷ [] → NotSlept d.answer → LockDeed m t pick r d
  everybody : {r : Request} {d : Deed} (n : Name) (o : MonitorState) → owner_at m.monitors n ≡ Some o → o.owner ≡ t → d.locks ≡ NotifiesAll n ∷ [] → d.changes ≡ MovedAll n ∷ [] → NotSlept d.answer → LockDeed m t pick r d

-- what is served does this with locks
abbrev pub LockIf : State → ℕ → ℕ → Request → Option Deed → Type 0
LockIf m t pick r o = (d : Deed) → o ≡ Some d → LockDeed m t pick r d

-- where nothing is served
none : (m : State) (t pick : ℕ) (r : Request) → LockIf m t pick r None
none m t pick r d e = absurd cc

-- where a deed is
some : (m : State) (t pick : ℕ) (r : Request) (d : Deed) → LockDeed m t pick r d → LockIf m t pick r (Some d)
some m t pick r d l e h = subst (λ x. LockDeed m t pick r x) (some_is h) l

-- by a test
either : (m : State) (t pick : ℕ) (r : Request) (b : Bool) (x y : Option Deed) → LockIf m t pick r x → LockIf m t pick r y → LockIf m t pick r (if b then x else y)
either m t pick r true x y l k = l
either m t pick r false x y l k = k

-- deeds by a test
either_deed : (m : State) (t pick : ℕ) (r : Request) (b : Bool) (x y : Deed) → LockDeed m t pick r x → LockDeed m t pick r y → LockDeed m t pick r (if b then x else y)
either_deed m t pick r true x y l k = l
either_deed m t pick r false x y l k = k

-- makes touch no lock
free_made : (t : ℕ) (os : List (Name × ObjectBody)) → Free t (map (λ o. Made o.0 o.1) os)
free_made t [] = tt
free_made t (o ∷ os) = free_made t os

module _ (m : State) (t pick : ℕ) (r : Request) where
  lock_get : (n : Name) (i : ℕ) (o : Option ObjectBody) → LockIf m t pick r (get n i o)
  lock_get n i None = none m t pick r
  lock_get n i (Some (Array vs)) = none m t pick r
  lock_get n i (Some (Text us)) = none m t pick r
  lock_get n i (Some (Fields vs)) = by_value (slice_get vs i)
    where
      by_value : (v : Option Value) → LockIf m t pick r (from None (λ v. Some (reading (FieldOf n i) (One v) (Some v))) v)
      by_value None = none m t pick r
      by_value (Some v) = some m t pick r _ (free refl tt tt)

  lock_put : (n : Name) (i : ℕ) (v : Value) (o : Option ObjectBody) → LockIf m t pick r (put n i v o)
  lock_put n i v None = none m t pick r
  lock_put n i v (Some (Array vs)) = none m t pick r
  lock_put n i v (Some (Text us)) = none m t pick r
  lock_put n i v (Some (Fields vs)) = either m t pick r (nat_lt i (length vs)) _ _ (some m t pick r _ (free refl tt tt)) (none m t pick r)

  lock_load : (image : Program) (name n : Name) (i : ℤ) (o : Option ObjectBody) → LockIf m t pick r (load image name n i o)
  lock_load image name n i None = none m t pick r
  lock_load image name n i (Some (Fields vs)) = none m t pick r
  lock_load image name n i (Some (Text us)) = none m t pick r
  lock_load image name n i (Some (Array vs)) = some m t pick r _ (by_value (element_at i vs))
    where
      by_value : (v : Option Value) → LockDeed m t pick r (from (faulted image name array_index) (λ v. reading (ElementOf n (unsigned_abs i)) (One v) (Some v)) v)
      by_value None = free refl tt tt
      by_value (Some v) = free refl tt tt

  lock_store : (image : Program) (name n : Name) (i : ℤ) (v : Value) (o : Option ObjectBody) → LockIf m t pick r (store image name n i v o)
  lock_store image name n i v None = none m t pick r
  lock_store image name n i v (Some (Fields vs)) = none m t pick r
  lock_store image name n i v (Some (Text us)) = none m t pick r
  lock_store image name n i v (Some (Array vs)) = some m t pick r _ (by_value (element_at i vs))
    where
      by_value : (o : Option Value) → LockDeed m t pick r (from (faulted image name array_index) (λ old. if takes_value image n.class v then changing (SetsElement n (unsigned_abs i) v ∷ []) None else faulted image name array_store) o)
      by_value None = free refl tt tt
      by_value (Some w) = either_deed m t pick r (takes_value image n.class v) _ _ (free refl tt tt) (free refl tt tt)

  lock_len : (o : Option ObjectBody) → LockIf m t pick r (len o)
  lock_len None = none m t pick r
  lock_len (Some (Fields vs)) = none m t pick r
  lock_len (Some (Text us)) = none m t pick r
  lock_len (Some (Array vs)) = some m t pick r _ (free refl tt tt)

  lock_buffer : (name n : Name) (k : ℕ) (us : List ℕ) (o : Option ObjectBody) → LockIf m t pick r (buffer name n k us o)
  lock_buffer name n k us None = none m t pick r
  lock_buffer name n k us (Some (Fields vs)) = none m t pick r
  lock_buffer name n k us (Some (Array vs)) = none m t pick r
  lock_buffer name n k us (Some (Text ts)) = either m t pick r (is_buffer n.class) _ _ (some m t pick r _ (either_deed m t pick r (k == new_buffer) _ _ (free refl tt tt) (either_deed m t pick r (k == buffer_text) _ _ (free refl tt tt) (either_deed m t pick r (k == buffer_length) _ _ (free refl tt tt) (free refl tt tt))))) (none m t pick r)

  lock_enter : (n : Name) (o : Option MonitorState) → owner_at m.monitors n ≡ o → LockIf m t pick r (enter t n o)
  lock_enter n None e = some m t pick r _ (first n e refl refl tt)
  lock_enter n (Some o) e = by_test (o.owner == t) refl
    where
      by_test : (b : Bool) → (o.owner == t) ≡ b → LockIf m t pick r (if b then Some (locking (Enters n) (Owned n (owned t (o.count + 1)) ∷ [])) else None)
      by_test true f = some m t pick r _ (again n o e ((Decides-eqb o.owner t).0 f) refl refl tt)
      by_test false f = none m t pick r

  lock_owner : (n : Name) (o : Option MonitorState) (x : Deed) (f : MonitorState → Deed) → LockDeed m t pick r x → ((s : MonitorState) → o ≡ Some s → s.owner ≡ t → LockDeed m t pick r (f s)) → LockDeed m t pick r (by_owner t o x f)
  lock_owner n None x f l k = l
  lock_owner n (Some o) x f l k = by_test (o.owner == t) refl
    where
      by_test : (b : Bool) → (o.owner == t) ≡ b → LockDeed m t pick r (if b then f o else x)
      by_test true e = k o refl ((Decides-eqb o.owner t).0 e)
      by_test false e = l

  lock_notifies : (n : Name) (o : MonitorState) (ws : List ℕ) → waiters_of n m.waiting ≡ ws → owner_at m.monitors n ≡ Some o → o.owner ≡ t → LockDeed m t pick r (notifies n pick ws)
  lock_notifies n o [] e f g = nobody n o f g e refl refl tt
  lock_notifies n o (w ∷ ws) e f g = somebody n o f g (sym e) (λ h. absurd (cc)) refl refl tt

  lock_joins : (o : Option Bool) → LockIf m t pick r (joins o)
  lock_joins None = some m t pick r _ (free refl tt tt)
  lock_joins (Some true) = some m t pick r _ (free refl tt tt)
  lock_joins (Some false) = none m t pick r

  lock_starts : (image : Program) (name n : Name) (o : Option Bool) → LockDeed m t pick r (starts image name n o)
  lock_starts image name n None = free refl tt tt
  lock_starts image name n (Some b) = free refl tt tt

  lock_fails : (image : Program) (name : Name) (c : ℕ) (made : Bool) → LockDeed m t pick r (fails image name c made)
  lock_fails image name c true = free refl tt tt
  lock_fails image name c false = free refl tt tt

  lock_ends : (e : Option Name) → LockDeed m t pick r (ends t e)
  lock_ends None = free refl (refl, tt) tt
  lock_ends (Some e) = free refl (refl, tt) tt

-- the begin of an initialisation
lock_begins : (m : State) (t pick : ℕ) (r : Request) (u c : ℕ) (s : Option ClassState) → LockDeed m t pick r (changing (Becomes c (class_state.Running u) ∷ []) None) → LockIf m t pick r (begins u c s)
lock_begins m t pick r u c (Some class_state.Untouched) l = some m t pick r _ l
lock_begins m t pick r u c (Some (class_state.Running v)) l = none m t pick r
lock_begins m t pick r u c (Some class_state.Done) l = none m t pick r
lock_begins m t pick r u c (Some class_state.Failed) l = none m t pick r
lock_begins m t pick r u c None l = none m t pick r

-- the end of one
lock_runner : (m : State) (t pick : ℕ) (r : Request) (u : ℕ) (s : Option ClassState) (d : Deed) → LockDeed m t pick r d → LockIf m t pick r (by_runner u s d)
lock_runner m t pick r u (Some (class_state.Running v)) d l = either m t pick r (v == u) _ _ (some m t pick r _ l) (none m t pick r)
lock_runner m t pick r u (Some class_state.Untouched) d l = none m t pick r
lock_runner m t pick r u (Some class_state.Done) d l = none m t pick r
lock_runner m t pick r u (Some class_state.Failed) d l = none m t pick r
lock_runner m t pick r u None d l = none m t pick r

-- every request
pub lock_served : (image : Program) (t : ℕ) (m : State) (c : Choice) (r : Request) → LockIf m t c.pick r (serve image t c r (cell m (key_of r)))
unfolding serve
lock_served image t m c (Get n i) = lock_get m t c.pick (Get n i) n i _
lock_served image t m c (Put n i v) = lock_put m t c.pick (Put n i v) n i v _
lock_served image t m c (Load n i) = lock_load m t c.pick (Load n i) image c.name n i _
lock_served image t m c (Store n i v) = lock_store m t c.pick (Store n i v) image c.name n i v _
lock_served image t m c (Len n) = lock_len m t c.pick (Len n) _
lock_served image t m c (Make k sizes) = some m t c.pick (Make k sizes) _ (free refl (free_made t (made_objects image c.name k sizes)) tt)
lock_served image t m c (MakeText us) = some m t c.pick (MakeText us) _ (free refl tt tt)
lock_served image t m c (Fault k) = some m t c.pick (Fault k) _ (free refl tt tt)
lock_served image t m c (Enter n) = lock_enter m t c.pick (Enter n) n _ refl
lock_served image t m c (Exit n raising) = some m t c.pick (Exit n raising) _ (lock_owner m t c.pick (Exit n raising) n (owner_at m.monitors n) _ _ (either_deed m t c.pick _ raising _ _ (free refl tt tt) (free refl tt tt)) (λ s e f. left n s e f refl refl tt))
lock_served image t m c (Wait n) = some m t c.pick (Wait n) _ (lock_owner m t c.pick (Wait n) n (owner_at m.monitors n) _ _ (free refl tt tt) (λ s e f. slept n s e f refl refl refl refl))
lock_served image t m c (Notify n) = some m t c.pick (Notify n) _ (lock_owner m t c.pick (Notify n) n (owner_at m.monitors n) _ _ (free refl tt tt) (λ s e f. lock_notifies m t c.pick (Notify n) n s (waiters_of n m.waiting) refl e f))
lock_served image t m c (NotifyAll n) = some m t c.pick (NotifyAll n) _ (lock_owner m t c.pick (NotifyAll n) n (owner_at m.monitors n) _ _ (free refl tt tt) (λ s e f. everybody n s e f refl refl tt))
lock_served image t m c (Begin k) = lock_begins m t c.pick (Begin k) t k _ (free refl tt tt)
lock_served image t m c (InitDone k) = lock_runner m t c.pick (InitDone k) t _ _ (free refl tt tt)
lock_served image t m c (InitFail k made) = lock_runner m t c.pick (InitFail k made) t _ _ (lock_fails m t c.pick (InitFail k made) image c.name k made)
lock_served image t m c (Start n) = some m t c.pick (Start n) _ (lock_starts m t c.pick (Start n) image c.name n _)
lock_served image t m c (Join n) = lock_joins m t c.pick (Join n) _
lock_served image t m c (Finish e) = some m t c.pick (Finish e) _ (lock_ends m t c.pick (Finish e) e)
lock_served image t m c (Buffer n k us) = lock_buffer m t c.pick (Buffer n k us) c.name n k us _
lock_served image t m c (Print us) = some m t c.pick (Print us) _ (free refl tt tt)
