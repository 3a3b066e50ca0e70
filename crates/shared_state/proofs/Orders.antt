-- What a request does is orderly, where its name fits.
use Rattle.std.proofs.Common.{◌≡◌, ℕ, Bool, true, false, ◌-◌, ◌==◌, if◌then◌else◌, List, [], ◌∷◌, length, Option, Some, None, subst}
use Rattle.std.specs.Prelude.{slice_get, nat_lt, ℤ, unsigned_abs}
use Rattle.jvm_base.specs.Words.{from}
use Rattle.jvm_base.specs.declared.name.Name.{Name}
use Rattle.jvm_base.specs.declared.value.Value.{Value}
use Rattle.jvm_base.specs.declared.value.ObjectBody.{ObjectBody}
use Rattle.jvm_base.specs.declared.value.ObjectBody.TheVariants.{Fields, Array, Text}
use Rattle.hierarchy.specs.Walks.{has}
use Rattle.program_image.specs.Program.{Program}
use Rattle.program_image.specs.Buffers.{is_buffer}
use Rattle.machine_state.specs.declared.state.Choice.{Choice}
use Rattle.machine_state.specs.declared.state.MonitorState.{MonitorState}
use Rattle.machine_state.specs.declared.state.ClassState.{ClassState}
use Rattle.machine_state.specs.declared.state.ClassState.TheVariants as class_state
use Rattle.machine_state.specs.declared.request.Request.{Request}
use Rattle.machine_state.specs.declared.request.Request.TheVariants.{Get, Put, Load, Store, Len, Make, MakeText, Fault, Enter, Exit, Wait, Notify, NotifyAll, Begin, InitDone, InitFail, Start, Join, Finish, Buffer, Print}
use Rattle.machine_state.specs.State.{State, Heap, owner_at, waiters_of}
use Rattle.machine_state.specs.Requests.{key_of, cell}
use Rattle.machine_state.specs.Changes.{SetsElement, Owned, Freed}
use Rattle.machine_state.specs.Events.{FieldOf, ElementOf, One}
use Rattle.machine_state.specs.Deeds.{Deed, faulted, reading, changing}
use Rattle.machine_state.specs.BootClasses.{array_index, array_store}
use Rattle.machine_state.specs.Bodies.{get, put, load, store, len, buffer, element_at, takes_value}
use Rattle.machine_state.specs.Intrinsics.{new_buffer, buffer_text, buffer_length}
use Rattle.machine_state.specs.Locks.{enter, by_owner, leaves, notifies, retakes, owned}
use Rattle.machine_state.specs.Making.{making, made_objects}
use Rattle.machine_state.specs.Serve.{begins, by_runner, serve, fails, starts, joins, ends, name_fits}
use Rattle.machine_state.proofs.NameTests.{some_is}
use Rattle.shared_state.specs.Orderly.{IsOrderly}
use Rattle.shared_state.proofs.MadeNames.{made_follow, making_orderly}

module _ (heap : Heap) (name : Name) where
  -- of a deed whose name fits
  abbrev pub Fine : Deed → Type 0
  Fine d = name_fits heap name d.makes ≡ true → IsOrderly heap d.changes

  -- of what is served
  abbrev pub FineIf : Option Deed → Type 0
  FineIf o = (d : Deed) → o ≡ Some d → Fine d

  none : FineIf None
  none d e = absurd cc

  some : (d : Deed) → Fine d → FineIf (Some d)
  some d l e h = subst Fine (some_is h) l

  -- by a test
  either : (b : Bool) (x y : Option Deed) → FineIf x → FineIf y → FineIf (if b then x else y)
  either true x y l k = l
  either false x y l k = k

  either_deed : (b : Bool) (x y : Deed) → Fine x → Fine y → Fine (if b then x else y)
  either_deed true x y l k = l
  either_deed false x y l k = k

  -- ---- requests

  fine_get : (n : Name) (i : ℕ) (o : Option ObjectBody) → FineIf (get n i o)
  fine_get n i None = none
  fine_get n i (Some (Array vs)) = none
  fine_get n i (Some (Text us)) = none
  fine_get n i (Some (Fields vs)) = by_value (slice_get vs i)
    where
      by_value : (v : Option Value) → FineIf (from None (λ v. Some (reading (FieldOf n i) (One v) (Some v))) v)
      by_value None = none
      by_value (Some v) = some _ (λ f. tt)

  fine_put : (n : Name) (i : ℕ) (v : Value) (o : Option ObjectBody) → FineIf (put n i v o)
  fine_put n i v None = none
  fine_put n i v (Some (Array vs)) = none
  fine_put n i v (Some (Text us)) = none
  fine_put n i v (Some (Fields vs)) = either (nat_lt i (length vs)) _ _ (some _ (λ f. tt)) none

  fine_load : (p : Program) (n : Name) (i : ℤ) (o : Option ObjectBody) → FineIf (load p name n i o)
  fine_load p n i None = none
  fine_load p n i (Some (Fields vs)) = none
  fine_load p n i (Some (Text us)) = none
  fine_load p n i (Some (Array vs)) = some _ (by_value (element_at i vs))
    where
      by_value : (v : Option Value) → Fine (from (faulted p name array_index) (λ v. reading (ElementOf n (unsigned_abs i)) (One v) (Some v)) v)
      by_value None = λ f. tt
      by_value (Some v) = λ f. tt

  fine_store : (p : Program) (n : Name) (i : ℤ) (v : Value) (o : Option ObjectBody) → FineIf (store p name n i v o)
  fine_store p n i v None = none
  fine_store p n i v (Some (Fields vs)) = none
  fine_store p n i v (Some (Text us)) = none
  fine_store p n i v (Some (Array vs)) = some _ (by_value (element_at i vs))
    where
      by_value : (o : Option Value) → Fine (from (faulted p name array_index) (λ old. if takes_value p n.class v then changing (SetsElement n (unsigned_abs i) v ∷ []) None else faulted p name array_store) o)
      by_value None = λ f. tt
      by_value (Some w) = either_deed (takes_value p n.class v) _ _ (λ f. tt) (λ f. tt)

  fine_len : (o : Option ObjectBody) → FineIf (len o)
  fine_len None = none
  fine_len (Some (Fields vs)) = none
  fine_len (Some (Text us)) = none
  fine_len (Some (Array vs)) = some _ (λ f. tt)

  fine_buffer : (n : Name) (k : ℕ) (us : List ℕ) (o : Option ObjectBody) → FineIf (buffer name n k us o)
  fine_buffer n k us None = none
  fine_buffer n k us (Some (Fields vs)) = none
  fine_buffer n k us (Some (Array vs)) = none
  fine_buffer n k us (Some (Text ts)) = either (is_buffer n.class) _ _ (some _ (either_deed (k == new_buffer) _ _ (λ f. tt) (either_deed (k == buffer_text) _ _ (λ f. tt) (either_deed (k == buffer_length) _ _ (λ f. tt) (λ f. tt))))) none

  fine_enter : (t : ℕ) (n : Name) (o : Option MonitorState) → FineIf (enter t n o)
  fine_enter t n None = some _ (λ f. tt)
  fine_enter t n (Some o) = either (o.owner == t) _ _ (some _ (λ f. tt)) none

  fine_owner : (t : ℕ) (o : Option MonitorState) (x : Deed) (f : MonitorState → Deed) → Fine x → ((s : MonitorState) → Fine (f s)) → Fine (by_owner t o x f)
  fine_owner t None x f l k = l
  fine_owner t (Some o) x f l k = either_deed (o.owner == t) _ _ (k o) l

  fine_leaves : (n : Name) (o : MonitorState) → Fine (leaves n o)
  fine_leaves n o = λ f. by_test (o.count == 1)
    where
      by_test : (b : Bool) → IsOrderly heap ((if b then Freed n else Owned n (owned o.owner (o.count - 1))) ∷ [])
      by_test true = tt
      by_test false = tt

  fine_notifies : (n : Name) (pick : ℕ) (ws : List ℕ) → Fine (notifies n pick ws)
  fine_notifies n pick [] = λ f. tt
  fine_notifies n pick (w ∷ ws) = λ f. tt

  fine_fails : (p : Program) (c : ℕ) (made : Bool) → Fine (fails p name c made)
  fine_fails p c true = λ f. tt
  fine_fails p c false = λ f. tt

  fine_starts : (p : Program) (n : Name) (o : Option Bool) → Fine (starts p name n o)
  fine_starts p n None = λ f. tt
  fine_starts p n (Some b) = λ f. tt

  fine_joins : (o : Option Bool) → FineIf (joins o)
  fine_joins None = some _ (λ f. tt)
  fine_joins (Some true) = some _ (λ f. tt)
  fine_joins (Some false) = none

  fine_ends : (t : ℕ) (e : Option Name) → Fine (ends t e)
  fine_ends t None = λ f. tt
  fine_ends t (Some e) = λ f. tt

  fine_begins : (t c : ℕ) (s : Option ClassState) → FineIf (begins t c s)
  fine_begins t c (Some class_state.Untouched) = some _ (λ f. tt)
  fine_begins t c (Some (class_state.Running u)) = none
  fine_begins t c (Some class_state.Done) = none
  fine_begins t c (Some class_state.Failed) = none
  fine_begins t c None = none

  fine_runner : (t : ℕ) (s : Option ClassState) (d : Deed) → Fine d → FineIf (by_runner t s d)
  fine_runner t (Some (class_state.Running u)) d l = either (u == t) _ _ (some _ l) none
  fine_runner t (Some class_state.Untouched) d l = none
  fine_runner t (Some class_state.Done) d l = none
  fine_runner t (Some class_state.Failed) d l = none
  fine_runner t None d l = none

  -- a lock that is taken again
  pub retakes_orderly : (t : ℕ) (n : Name) (k : ℕ) (o : Option MonitorState) (ws : List ℕ) → FineIf (retakes t n k o ws)
  retakes_orderly t n k None ws = either (has ws t) _ _ none (some _ (λ f. tt))
  retakes_orderly t n k (Some o) ws = none

-- every request
pub served_orderly : (p : Program) (t : ℕ) (m : State) (c : Choice) (r : Request) (d : Deed) → serve p t c r (cell m (key_of r)) ≡ Some d → name_fits m.heap c.name d.makes ≡ true → IsOrderly m.heap d.changes
unfolding serve
served_orderly p t m c (Get n i) = fine_get m.heap c.name n i _
served_orderly p t m c (Put n i v) = fine_put m.heap c.name n i v _
served_orderly p t m c (Load n i) = fine_load m.heap c.name p n i _
served_orderly p t m c (Store n i v) = fine_store m.heap c.name p n i v _
served_orderly p t m c (Len n) = fine_len m.heap c.name _
served_orderly p t m c (Make k sizes) = some m.heap c.name (making c.name (made_objects p c.name k sizes)) (making_orderly m.heap c.name (made_objects p c.name k sizes) (made_follow p c.name k sizes))
served_orderly p t m c (MakeText us) = some m.heap c.name _ (λ f. tt)
served_orderly p t m c (Fault k) = some m.heap c.name _ (λ f. tt)
served_orderly p t m c (Enter n) = fine_enter m.heap c.name t n _
served_orderly p t m c (Exit n raising) = some m.heap c.name _ (fine_owner m.heap c.name t (owner_at m.monitors n) _ _ (either_deed m.heap c.name raising _ _ (λ f. tt) (λ f. tt)) (fine_leaves m.heap c.name n))
served_orderly p t m c (Wait n) = some m.heap c.name _ (fine_owner m.heap c.name t (owner_at m.monitors n) _ _ (λ f. tt) (λ o f. tt))
served_orderly p t m c (Notify n) = some m.heap c.name _ (fine_owner m.heap c.name t (owner_at m.monitors n) _ _ (λ f. tt) (λ o. fine_notifies m.heap c.name n c.pick (waiters_of n m.waiting)))
served_orderly p t m c (NotifyAll n) = some m.heap c.name _ (fine_owner m.heap c.name t (owner_at m.monitors n) _ _ (λ f. tt) (λ o f. tt))
served_orderly p t m c (Begin k) = fine_begins m.heap c.name t k _
served_orderly p t m c (InitDone k) = fine_runner m.heap c.name t _ _ (λ f. tt)
served_orderly p t m c (InitFail k made) = fine_runner m.heap c.name t _ _ (fine_fails m.heap c.name p k made)
served_orderly p t m c (Start n) = some m.heap c.name _ (fine_starts m.heap c.name p n _)
served_orderly p t m c (Join n) = fine_joins m.heap c.name _
served_orderly p t m c (Finish e) = some m.heap c.name _ (fine_ends m.heap c.name t e)
served_orderly p t m c (Buffer n k us) = fine_buffer m.heap c.name n k us _
served_orderly p t m c (Print us) = some m.heap c.name _ (λ f. tt)
