-- Each served request is local: it reads what the heap holds, and changes its own cell and new names alone.
use Rattle.std.proofs.Common.{◌≡◌, ℕ, zero, suc, ◌+◌, ◌*◌, ◌-◌, Bool, true, false, ◌==◌, if◌then◌else◌, List, [], ◌∷◌, ◌++◌, map, Option, Some, None, refl, ap, ◌∙◌, subst}
use Rattle.std.specs.Prelude.{slice_get, nat_lt, length, ℤ, pos, int_lt, unsigned_abs}
use Rattle.jvm_base.specs.declared.name.Name.{Name}
use Rattle.jvm_base.specs.declared.value.Value.{Value}
use Rattle.jvm_base.specs.declared.value.ObjectBody.{ObjectBody}
use Rattle.jvm_base.specs.declared.value.ObjectBody.TheVariants.{Fields, Array, Text}
use Rattle.machine_state.specs.declared.state.Choice.{Choice}
use Rattle.machine_state.specs.declared.state.MonitorState.{MonitorState}
use Rattle.machine_state.specs.declared.state.ClassState.{ClassState}
use Rattle.machine_state.specs.declared.state.ClassState.TheVariants as class_state
use Rattle.program_image.specs.Program.{Program}
use Rattle.jvm_base.specs.Words.{from}
use Rattle.hierarchy.specs.Walks.{has}
use Rattle.program_image.specs.Buffers.{is_buffer}
use Rattle.machine_state.specs.State.{State, Heap, body_at, owner_at, waiters_of}
use Rattle.machine_state.specs.Events.{Place, FieldOf, ElementOf, ContentOf, Held, One, Content, one_held, part_in, held_at}
use Rattle.machine_state.specs.declared.request.Request.{Request}
use Rattle.machine_state.specs.declared.request.Request.TheVariants.{Get, Put, Load, Store, Len, Make, MakeText, Fault, Enter, Exit, Wait, Notify, NotifyAll, Begin, InitDone, InitFail, Start, Join, Finish, Buffer, Print}
use Rattle.machine_state.specs.Requests.{Key, OfLock, OfClass, OfThreads, key_of, cell}
use Rattle.machine_state.specs.Changes.{Made, SetsElement, Owned, Freed}
use Rattle.machine_state.specs.Deeds.{Deed, faulted, reading, changing}
use Rattle.machine_state.specs.Serve.{begins, by_runner, serve, fails, starts, joins, ends}
use Rattle.machine_state.specs.Bodies.{get, put, load, store, len, buffer, buffer_by, element_at, takes_value}
use Rattle.machine_state.specs.Making.{made_objects, levels, arrays, part_class}
use Rattle.machine_state.specs.Locks.{enter, by_owner, leaves, notifies, retakes, owned}
use Rattle.machine_state.specs.Laws.Locality.{IsAt, AreAt, Local}
use Rattle.machine_state.proofs.NameTests.{some_is}
use Rattle.machine_state.specs.BootClasses.{array_index, array_store}
use Rattle.machine_state.specs.Intrinsics.{new_buffer, buffer_text, buffer_length}

-- what is served is local
abbrev pub LocalIf : Heap → Name → Key → Option Deed → Type 0
LocalIf heap name key o = (d : Deed) → o ≡ Some d → Local heap name key d

-- where nothing is served
none : {heap : Heap} {name : Name} {key : Key} → LocalIf heap name key None
none d e = absurd cc

-- where a deed is
some : (heap : Heap) (name : Name) (key : Key) (d : Deed) → Local heap name key d → LocalIf heap name key (Some d)
some heap name key d l e h = subst (λ x. Local heap name key x) (some_is h) l

-- by a test
either : (heap : Heap) (name : Name) (key : Key) (b : Bool) (x y : Option Deed) → LocalIf heap name key x → LocalIf heap name key y → LocalIf heap name key (if b then x else y)
either heap name key true x y l k = l
either heap name key false x y l k = k

-- deeds by a test
either_deed : (heap : Heap) (name : Name) (key : Key) (b : Bool) (x y : Deed) → Local heap name key x → Local heap name key y → Local heap name key (if b then x else y)
either_deed heap name key true x y l k = l
either_deed heap name key false x y l k = k

-- ---- made objects lie on the choice's node

-- objects are on a node
abbrev AreOn : ℕ → List (Name × ObjectBody) → Type 0
AreOn node [] = Unit {0}
AreOn node (o ∷ os) = (o.0.node ≡ node) × AreOn node os

-- lists of them
on-append : (node : ℕ) (xs ys : List (Name × ObjectBody)) → AreOn node xs → AreOn node ys → AreOn node (xs ++ ys)
on-append node [] ys a b = b
on-append node (x ∷ xs) ys a b = (a.0, on-append node xs ys a.1 b)

-- arrays of one level
on-arrays : (image : Program) (node c n index first : ℕ) (below : List ℕ) → AreOn node (arrays image node c n index first below)
on-arrays image node c zero index first below = tt
on-arrays image node c (suc n) index first [] = tt
on-arrays image node c (suc n) index first (s ∷ below) = (refl, on-arrays image node c n (index + 1) (first + s) (s ∷ below))

-- of all levels
on-levels : (image : Program) (node c count index : ℕ) (sizes : List ℕ) → AreOn node (levels image node c count index sizes)
on-levels image node c count index [] = tt
on-levels image node c count index (s ∷ ss) = on-append node (arrays image node c count index (index + count) (s ∷ ss)) _ (on-arrays image node c count index (index + count) (s ∷ ss)) (on-levels image node (part_class image c) (count * s) (index + count) ss)

-- what is made
on-made : (image : Program) (name : Name) (c : ℕ) (sizes : List ℕ) → AreOn name.node (made_objects image name c sizes)
on-made image name c [] = (refl, tt)
on-made image name c (s ∷ ss) = on-levels image name.node c 1 name.index (s ∷ ss)

-- so their makes are
at-made : (key : Key) (name : Name) (os : List (Name × ObjectBody)) → AreOn name.node os → AreAt key name (map (λ o. Made o.0 o.1) os)
at-made key name [] a = tt
at-made key name (o ∷ os) a = (a.0, at-made key name os a.1)

-- ---- each kind of request

-- a value that a body holds at a place is held there
held : (heap : Heap) (p : Place) (n : Name) (b : ObjectBody) (h : Option Held) (v : Held) → held_at heap p ≡ from None (part_in p) (body_at heap n) → body_at heap n ≡ Some b → part_in p b ≡ h → h ≡ Some v → held_at heap p ≡ Some v
held heap p n b h v o e f g = o ∙ ap (from None (part_in p)) e ∙ f ∙ g

-- a read of a field
local_get : (heap : Heap) (name n : Name) (i : ℕ) (key : Key) (o : Option ObjectBody) → body_at heap n ≡ o → LocalIf heap name key (get n i o)
local_get heap name n i key None e = none
local_get heap name n i key (Some (Array vs)) e = none
local_get heap name n i key (Some (Text us)) e = none
local_get heap name n i key (Some (Fields vs)) e = by_value (slice_get vs i) refl
  where
    by_value : (v : Option Value) → slice_get vs i ≡ v → LocalIf heap name key (from None (λ v. Some (reading (FieldOf n i) (One v) (Some v))) v)
    by_value None f = none
    by_value (Some v) f = some heap name key (reading (FieldOf n i) (One v) (Some v)) (record { reads = (held heap (FieldOf n i) n (Fields vs) (one_held (slice_get vs i)) (One v) refl e refl (ap one_held f), tt); homes = tt })

-- a write of a field
local_put : (heap : Heap) (name n : Name) (i : ℕ) (v : Value) (o : Option ObjectBody) → LocalIf heap name (key_of (Put n i v)) (put n i v o)
local_put heap name n i v None = none
local_put heap name n i v (Some (Array vs)) = none
local_put heap name n i v (Some (Text us)) = none
local_put heap name n i v (Some (Fields vs)) = either heap name _ (nat_lt i (length vs)) _ _ (some heap name _ _ (record { reads = tt; homes = (refl, tt) })) none

-- the element at an index that is not negative
element_is : (i : ℤ) (vs : List Value) (v : Value) → element_at i vs ≡ Some v → slice_get vs (unsigned_abs i) ≡ Some v
element_is i vs v e = by_test (int_lt i (pos 0)) e
  where
    by_test : (b : Bool) → (if b then None else slice_get vs (unsigned_abs i)) ≡ Some v → slice_get vs (unsigned_abs i) ≡ Some v
    by_test true e = absurd cc
    by_test false e = e

-- a read of an element
local_load : (image : Program) (heap : Heap) (name n : Name) (i : ℤ) (key : Key) (o : Option ObjectBody) → body_at heap n ≡ o → LocalIf heap name key (load image name n i o)
local_load image heap name n i key None e = none
local_load image heap name n i key (Some (Fields vs)) e = none
local_load image heap name n i key (Some (Text us)) e = none
local_load image heap name n i key (Some (Array vs)) e = some heap name key _ (by_value (element_at i vs) refl)
  where
    by_value : (v : Option Value) → element_at i vs ≡ v → Local heap name key (from (faulted image name array_index) (λ v. reading (ElementOf n (unsigned_abs i)) (One v) (Some v)) v)
    by_value None f = record { reads = tt; homes = (refl, tt) }
    by_value (Some v) f = record { reads = (held heap (ElementOf n (unsigned_abs i)) n (Array vs) (one_held (slice_get vs (unsigned_abs i))) (One v) refl e refl (ap one_held (element_is i vs v f)), tt); homes = tt }

-- a write of an element
local_store : (image : Program) (heap : Heap) (name n : Name) (i : ℤ) (v : Value) (o : Option ObjectBody) → LocalIf heap name (key_of (Store n i v)) (store image name n i v o)
local_store image heap name n i v None = none
local_store image heap name n i v (Some (Fields vs)) = none
local_store image heap name n i v (Some (Text us)) = none
local_store image heap name n i v (Some (Array vs)) = some heap name _ _ (by_value (element_at i vs))
  where
    by_value : (o : Option Value) → Local heap name (key_of (Store n i v)) (from (faulted image name array_index) (λ old. if takes_value image n.class v then changing (SetsElement n (unsigned_abs i) v ∷ []) None else faulted image name array_store) o)
    by_value None = record { reads = tt; homes = (refl, tt) }
    by_value (Some w) = either_deed heap name _ (takes_value image n.class v) _ _ (record { reads = tt; homes = (refl, tt) }) (record { reads = tt; homes = (refl, tt) })

-- a length
local_len : (heap : Heap) (name : Name) (key : Key) (o : Option ObjectBody) → LocalIf heap name key (len o)
local_len heap name key None = none
local_len heap name key (Some (Fields vs)) = none
local_len heap name key (Some (Text us)) = none
local_len heap name key (Some (Array vs)) = some heap name key _ (record { reads = tt; homes = tt })

-- a call of a buffer
local_buffer : (heap : Heap) (name n : Name) (k : ℕ) (us : List ℕ) (o : Option ObjectBody) → body_at heap n ≡ o → LocalIf heap name (key_of (Buffer n k us)) (buffer name n k us o)
local_buffer heap name n k us None e = none
local_buffer heap name n k us (Some (Fields vs)) e = none
local_buffer heap name n k us (Some (Array vs)) e = none
local_buffer heap name n k us (Some (Text ts)) e = by_class (is_buffer n.class) refl
  where
    by_number : is_buffer n.class ≡ true → held_at heap (ContentOf n) ≡ Some (Content ts) → Local heap name (key_of (Buffer n k us)) (buffer_by name n k us ts)
    by_number b h = either_deed heap name _ (k == new_buffer) _ _ (record { reads = tt; homes = tt }) (either_deed heap name _ (k == buffer_text) _ _ (record { reads = (h, tt); homes = (refl, tt) })
        (either_deed heap name _ (k == buffer_length) _ _ (record { reads = (h, tt); homes = tt }) (record { reads = (h, tt); homes = ((refl, b), tt) })))

    by_class : (b : Bool) → is_buffer n.class ≡ b → LocalIf heap name (key_of (Buffer n k us)) (if b then Some (buffer_by name n k us ts) else None)
    by_class false b = none
    by_class true b = some heap name _ _ (by_number b (held heap (ContentOf n) n (Text ts) (if is_buffer n.class then Some (Content ts) else None) (Content ts) refl e refl (ap (λ x. if x then Some (Content ts) else None) b)))

-- a lock that is left
local_released : (heap : Heap) (name n : Name) (o : MonitorState) → Local heap name (OfLock n) (leaves n o)
local_released heap name n o = record { reads = tt; homes = (by_test (o.count == 1), tt) }
  where
    by_test : (b : Bool) → IsAt (OfLock n) name (if b then Freed n else Owned n (owned o.owner (o.count - 1)))
    by_test true = refl
    by_test false = refl

-- a lock that is entered
local_enter : (heap : Heap) (name n : Name) (t : ℕ) (o : Option MonitorState) → LocalIf heap name (OfLock n) (enter t n o)
local_enter heap name n t None = some heap name _ _ (record { reads = tt; homes = (refl, tt) })
local_enter heap name n t (Some o) = either heap name _ (o.owner == t) _ _ (some heap name _ _ (record { reads = tt; homes = (refl, tt) })) none

-- what an owner does
local_owner : (heap : Heap) (name n : Name) (t : ℕ) (o : Option MonitorState) (d : Deed) (f : MonitorState → Deed) → Local heap name (OfLock n) d → ((s : MonitorState) → Local heap name (OfLock n) (f s)) → Local heap name (OfLock n) (by_owner t o d f)
local_owner heap name n t None d f l k = l
local_owner heap name n t (Some o) d f l k = either_deed heap name _ (o.owner == t) _ _ (k o) l

-- a notify
local_notifies : (heap : Heap) (name n : Name) (pick : ℕ) (ws : List ℕ) → Local heap name (OfLock n) (notifies n pick ws)
local_notifies heap name n pick [] = record { reads = tt; homes = tt }
local_notifies heap name n pick (w ∷ ws) = record { reads = tt; homes = (refl, tt) }

-- a lock that is taken again
pub local_retakes : (heap : Heap) (name n : Name) (t k : ℕ) (o : Option MonitorState) (ws : List ℕ) → LocalIf heap name (OfLock n) (retakes t n k o ws)
local_retakes heap name n t k None ws = either heap name _ (has ws t) _ _ none (some heap name _ _ (record { reads = tt; homes = (refl, tt) }))
local_retakes heap name n t k (Some o) ws = none

-- a failed initialisation
local_fails : (image : Program) (heap : Heap) (name : Name) (c : ℕ) (made : Bool) → Local heap name (OfClass c) (fails image name c made)
local_fails image heap name c true = record { reads = tt; homes = (refl, (refl, tt)) }
local_fails image heap name c false = record { reads = tt; homes = (refl, tt) }

-- a start
local_starts : (image : Program) (heap : Heap) (name n : Name) (o : Option Bool) → Local heap name OfThreads (starts image name n o)
local_starts image heap name n None = record { reads = tt; homes = (refl, tt) }
local_starts image heap name n (Some b) = record { reads = tt; homes = (refl, tt) }

-- a join
local_joins : (heap : Heap) (name : Name) (o : Option Bool) → LocalIf heap name OfThreads (joins o)
local_joins heap name None = some heap name _ _ (record { reads = tt; homes = tt })
local_joins heap name (Some true) = some heap name _ _ (record { reads = tt; homes = tt })
local_joins heap name (Some false) = none

-- an end
local_ends : (heap : Heap) (name : Name) (t : ℕ) (e : Option Name) → Local heap name OfThreads (ends t e)
local_ends heap name t None = record { reads = tt; homes = (refl, tt) }
local_ends heap name t (Some e) = record { reads = tt; homes = (refl, (refl, tt)) }

-- the begin of an initialisation
local_begins : (heap : Heap) (name : Name) (t c : ℕ) (s : Option ClassState) → LocalIf heap name (OfClass c) (begins t c s)
local_begins heap name t c (Some class_state.Untouched) = some heap name _ _ (record { reads = tt; homes = (refl, tt) })
local_begins heap name t c (Some (class_state.Running u)) = none
local_begins heap name t c (Some class_state.Done) = none
local_begins heap name t c (Some class_state.Failed) = none
local_begins heap name t c None = none

-- the end of one
local_runner : (heap : Heap) (name : Name) (key : Key) (t : ℕ) (s : Option ClassState) (d : Deed) → Local heap name key d → LocalIf heap name key (by_runner t s d)
local_runner heap name key t (Some (class_state.Running u)) d l = either heap name _ (u == t) _ _ (some heap name _ _ l) none
local_runner heap name key t (Some class_state.Untouched) d l = none
local_runner heap name key t (Some class_state.Done) d l = none
local_runner heap name key t (Some class_state.Failed) d l = none
local_runner heap name key t None d l = none

-- ---- all requests

-- every request
pub local_served : (image : Program) (t : ℕ) (m : State) (c : Choice) (r : Request) → LocalIf m.heap c.name (key_of r) (serve image t c r (cell m (key_of r)))
unfolding serve
local_served image t m c (Get n i) = local_get m.heap c.name n i _ _ refl
local_served image t m c (Put n i v) = local_put m.heap c.name n i v _
local_served image t m c (Load n i) = local_load image m.heap c.name n i _ _ refl
local_served image t m c (Store n i v) = local_store image m.heap c.name n i v _
local_served image t m c (Len n) = local_len m.heap c.name _ _
local_served image t m c (Make k sizes) = some m.heap c.name _ _ (record { reads = tt; homes = at-made _ c.name (made_objects image c.name k sizes) (on-made image c.name k sizes) })
local_served image t m c (MakeText us) = some m.heap c.name _ _ (record { reads = tt; homes = (refl, tt) })
local_served image t m c (Fault k) = some m.heap c.name _ _ (record { reads = tt; homes = (refl, tt) })
local_served image t m c (Enter n) = local_enter m.heap c.name n t _
local_served image t m c (Exit n raising) = some m.heap c.name _ _ (local_owner m.heap c.name n t (owner_at m.monitors n) _ _ (either_deed m.heap c.name _ raising _ _ (record { reads = tt; homes = tt }) (record { reads = tt; homes = (refl, tt) })) (local_released m.heap c.name n))
local_served image t m c (Wait n) = some m.heap c.name _ _ (local_owner m.heap c.name n t (owner_at m.monitors n) _ _ (record { reads = tt; homes = (refl, tt) }) (λ o. record { reads = tt; homes = (refl, (refl, tt)) }))
local_served image t m c (Notify n) = some m.heap c.name _ _ (local_owner m.heap c.name n t (owner_at m.monitors n) _ _ (record { reads = tt; homes = (refl, tt) }) (λ o. local_notifies m.heap c.name n c.pick (waiters_of n m.waiting)))
local_served image t m c (NotifyAll n) = some m.heap c.name _ _ (local_owner m.heap c.name n t (owner_at m.monitors n) _ _ (record { reads = tt; homes = (refl, tt) }) (λ o. record { reads = tt; homes = (refl, tt) }))
local_served image t m c (Begin k) = local_begins m.heap c.name t k _
local_served image t m c (InitDone k) = local_runner m.heap c.name _ t _ _ (record { reads = tt; homes = (refl, tt) })
local_served image t m c (InitFail k made) = local_runner m.heap c.name _ t _ _ (local_fails image m.heap c.name k made)
local_served image t m c (Start n) = some m.heap c.name _ _ (local_starts image m.heap c.name n _)
local_served image t m c (Join n) = local_joins m.heap c.name _
local_served image t m c (Finish e) = some m.heap c.name _ _ (local_ends m.heap c.name t e)
local_served image t m c (Buffer n k us) = local_buffer m.heap c.name n k us _ refl
local_served image t m c (Print us) = some m.heap c.name _ _ (record { reads = tt; homes = (refl, tt) })
