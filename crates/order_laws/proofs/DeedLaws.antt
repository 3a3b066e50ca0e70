-- What a request makes, where it asks for classes of the program, is of such a class.
use Rattle.std.proofs.Common.{ℕ, ◌<◌, Bool, true, false, List, [], ◌∷◌, map, length, Option, Some, None, arith}
use Rattle.std.specs.Prelude.{◌==◌, if◌then◌else◌, nat_lt, unsigned_abs, slice_get, ℤ}
use Rattle.hierarchy.specs.Walks.{has}
use Rattle.jvm_base.specs.Words.{from}
use Rattle.jvm_base.specs.declared.name.Name.{Name}
use Rattle.jvm_base.specs.declared.value.ObjectBody.{ObjectBody}
use Rattle.jvm_base.specs.declared.value.ObjectBody.TheVariants.{Fields, Array, Text}
use Rattle.jvm_base.specs.declared.value.Value.{Value}
use Rattle.program_image.specs.Buffers.{is_buffer}
use Rattle.program_image.specs.Program.{Program}
use Rattle.machine_state.specs.declared.request.Request.{Request}
use Rattle.machine_state.specs.declared.request.Request.TheVariants.{Get, Put, Load, Store, Len, Make, MakeText, Fault, Enter, Exit, Wait, Notify, NotifyAll, Begin, InitDone, InitFail, Start, Join, Finish, Buffer, Print}
use Rattle.machine_state.specs.declared.state.Choice.{Choice}
use Rattle.machine_state.specs.declared.state.ClassState.{ClassState}
use Rattle.machine_state.specs.declared.state.ClassState.TheVariants as class_state
use Rattle.machine_state.specs.declared.state.MonitorState.{MonitorState}
use Rattle.machine_state.specs.Bodies.{get, put, load, store, len, buffer, element_at, takes_value}
use Rattle.machine_state.specs.BootClasses.{array_index, array_store}
use Rattle.machine_state.specs.Changes.{SetsField, SetsElement}
use Rattle.machine_state.specs.Deeds.{Deed, faulted, reading, changing}
use Rattle.machine_state.specs.Events.{FieldOf, ElementOf, One}
use Rattle.machine_state.specs.Intrinsics.{new_buffer, buffer_text, buffer_length}
use Rattle.machine_state.specs.Locks.{enter, by_owner, notifies, retakes}
use Rattle.machine_state.specs.Making.{made_objects}
use Rattle.machine_state.specs.Requests.{key_of, cell}
use Rattle.machine_state.specs.Serve.{begins, by_runner, fails, starts, joins, ends, serve}
use Rattle.machine_state.specs.State.{State, owner_at, waiters_of}
use Rattle.program_reads.specs.Whole.{IsWhole}
use Rattle.order_laws.proofs.PlanLaws.{AsksWithin, boot_within}

-- the first class of what is made is the program's
abbrev pub FirstWithin : Program → List ℕ → Type 0
FirstWithin p [] = Unit {0}
FirstWithin p (c ∷ cs) = c < length p.classes

-- of a deed, if there is one
abbrev pub MakesWithin : Program → Option Deed → Type 0
MakesWithin p None = Unit {0}
MakesWithin p (Some d) = FirstWithin p d.makes

module _ (p : Program) (whole : IsWhole p) where
  -- by a test
  either : (b : Bool) (x y : Option Deed) → MakesWithin p x → MakesWithin p y → MakesWithin p (if b then x else y)
  either true x y g h = g
  either false x y g h = h

  -- deeds by a test
  either_deed : (b : Bool) (x y : Deed) → FirstWithin p x.makes → FirstWithin p y.makes → FirstWithin p (if b then x else y).makes
  either_deed true x y g h = g
  either_deed false x y g h = h

  -- by an option
  optional : {A : Type 0} (f : A → Deed) (o : Option A) → ((a : A) → FirstWithin p (f a).makes) → MakesWithin p (from None (λ a. Some (f a)) o)
  optional f None h = tt
  optional f (Some a) h = h a

  -- ---- bodies

  get_within : (n : Name) (i : ℕ) (o : Option ObjectBody) → MakesWithin p (get n i o)
  get_within n i None = tt
  get_within n i (Some (Array vs)) = tt
  get_within n i (Some (Text us)) = tt
  get_within n i (Some (Fields vs)) = optional (λ v. reading (FieldOf n i) (One v) (Some v)) (slice_get vs i) (λ v. tt)

  put_within : (n : Name) (i : ℕ) (v : Value) (o : Option ObjectBody) → MakesWithin p (put n i v o)
  put_within n i v None = tt
  put_within n i v (Some (Array vs)) = tt
  put_within n i v (Some (Text us)) = tt
  put_within n i v (Some (Fields vs)) = either (nat_lt i (length vs)) (Some (changing (SetsField n i v ∷ []) None)) None tt tt

  load_within : (name n : Name) (i : ℤ) (o : Option ObjectBody) → MakesWithin p (load p name n i o)
  load_within name n i None = tt
  load_within name n i (Some (Fields vs)) = tt
  load_within name n i (Some (Text us)) = tt
  load_within name n i (Some (Array vs)) = by_element (element_at i vs)
    where
      by_element : (o : Option Value) → FirstWithin p (from (faulted p name array_index) (λ v. reading (ElementOf n (unsigned_abs i)) (One v) (Some v)) o).makes
      by_element None = boot_within p whole 15 (omega arith)
      by_element (Some v) = tt

  store_within : (name n : Name) (i : ℤ) (v : Value) (o : Option ObjectBody) → MakesWithin p (store p name n i v o)
  store_within name n i v None = tt
  store_within name n i v (Some (Fields vs)) = tt
  store_within name n i v (Some (Text us)) = tt
  store_within name n i v (Some (Array vs)) = by_element (element_at i vs)
    where
      by_element : (o : Option Value) → FirstWithin p (from (faulted p name array_index) (λ old. if takes_value p n.class v then changing (SetsElement n (unsigned_abs i) v ∷ []) None else faulted p name array_store) o).makes
      by_element None = boot_within p whole 15 (omega arith)
      by_element (Some old) = either_deed (takes_value p n.class v) (changing (SetsElement n (unsigned_abs i) v ∷ []) None) (faulted p name array_store) tt (boot_within p whole 18 (omega arith))

  len_within : (o : Option ObjectBody) → MakesWithin p (len o)
  len_within None = tt
  len_within (Some (Fields vs)) = tt
  len_within (Some (Text us)) = tt
  len_within (Some (Array vs)) = tt

  buffer_within : (name n : Name) (k : ℕ) (us : List ℕ) (o : Option ObjectBody) → MakesWithin p (buffer name n k us o)
  buffer_within name n k us None = tt
  buffer_within name n k us (Some (Fields vs)) = tt
  buffer_within name n k us (Some (Array vs)) = tt
  buffer_within name n k us (Some (Text ts)) = either (is_buffer n.class) _ None (either_deed (k == new_buffer) _ _ tt (either_deed (k == buffer_text) _ _ (boot_within p whole 2 (omega arith)) (either_deed (k == buffer_length) _ _ tt tt))) tt

  -- ---- objects

  -- the first one is of the class that was asked for
  made_within : (name : Name) (c : ℕ) (sizes : List ℕ) → c < length p.classes → FirstWithin p (map (λ (o : Name × ObjectBody). o.0.class) (made_objects p name c sizes))
  made_within name c [] h = h
  made_within name c (s ∷ ss) h = h

  -- ---- locks, classes and threads

  enter_within : (t : ℕ) (n : Name) (o : Option MonitorState) → MakesWithin p (enter t n o)
  enter_within t n None = tt
  enter_within t n (Some o) = either (o.owner == t) _ None tt tt

  -- what the owner does, or what comes of a thread that isn't
  owner_within : (t : ℕ) (o : Option MonitorState) (d : Deed) (f : MonitorState → Deed) → FirstWithin p d.makes → ((s : MonitorState) → FirstWithin p (f s).makes) → FirstWithin p (by_owner t o d f).makes
  owner_within t None d f g h = g
  owner_within t (Some o) d f g h = either_deed (o.owner == t) (f o) d (h o) g

  notifies_within : (n : Name) (pick : ℕ) (ws : List ℕ) → FirstWithin p (notifies n pick ws).makes
  notifies_within n pick [] = tt
  notifies_within n pick (w ∷ ws) = tt

  pub retakes_within : (t : ℕ) (n : Name) (k : ℕ) (o : Option MonitorState) (ws : List ℕ) → MakesWithin p (retakes t n k o ws)
  retakes_within t n k None ws = either (has ws t) None _ tt tt
  retakes_within t n k (Some o) ws = tt

  begins_within : (t c : ℕ) (s : Option ClassState) → MakesWithin p (begins t c s)
  begins_within t c None = tt
  begins_within t c (Some class_state.Untouched) = tt
  begins_within t c (Some (class_state.Running u)) = tt
  begins_within t c (Some class_state.Done) = tt
  begins_within t c (Some class_state.Failed) = tt

  runner_within : (t : ℕ) (s : Option ClassState) (d : Deed) → FirstWithin p d.makes → MakesWithin p (by_runner t s d)
  runner_within t None d h = tt
  runner_within t (Some class_state.Untouched) d h = tt
  runner_within t (Some (class_state.Running u)) d h = either (u == t) (Some d) None h tt
  runner_within t (Some class_state.Done) d h = tt
  runner_within t (Some class_state.Failed) d h = tt

  fails_within : (name : Name) (c : ℕ) (made : Bool) → FirstWithin p (fails p name c made).makes
  fails_within name c true = boot_within p whole 26 (omega arith)
  fails_within name c false = tt

  starts_within : (name n : Name) (o : Option Bool) → FirstWithin p (starts p name n o).makes
  starts_within name n None = tt
  starts_within name n (Some b) = boot_within p whole 22 (omega arith)

  joins_within : (o : Option Bool) → MakesWithin p (joins o)
  joins_within None = tt
  joins_within (Some true) = tt
  joins_within (Some false) = tt

  ends_within : (t : ℕ) (e : Option Name) → FirstWithin p (ends t e).makes
  ends_within t None = tt
  ends_within t (Some e) = tt

  -- a lock that another thread owns
  unowned : 20 < length p.classes
  unowned = boot_within p whole 20 (omega arith)

  -- by request
  pub served_within : (t : ℕ) (m : State) (c : Choice) (r : Request) → AsksWithin p r → MakesWithin p (serve p t c r (cell m (key_of r)))
  unfolding serve
  served_within t m c (Get n i) h = get_within n i _
  served_within t m c (Put n i v) h = put_within n i v _
  served_within t m c (Load n i) h = load_within c.name n i _
  served_within t m c (Store n i v) h = store_within c.name n i v _
  served_within t m c (Len n) h = len_within _
  served_within t m c (Make k sizes) h = made_within c.name k sizes h
  served_within t m c (MakeText us) h = boot_within p whole 2 (omega arith)
  served_within t m c (Fault k) h = h
  served_within t m c (Enter n) h = enter_within t n _
  served_within t m c (Exit n raising) h = owner_within t (owner_at m.monitors n) _ _ (either_deed raising _ _ tt unowned) (λ o. tt)
  served_within t m c (Wait n) h = owner_within t (owner_at m.monitors n) _ _ unowned (λ o. tt)
  served_within t m c (Notify n) h = owner_within t (owner_at m.monitors n) _ _ unowned (λ o. notifies_within n c.pick (waiters_of n m.waiting))
  served_within t m c (NotifyAll n) h = owner_within t (owner_at m.monitors n) _ _ unowned (λ o. tt)
  served_within t m c (Begin k) h = begins_within t k _
  served_within t m c (InitDone k) h = runner_within t _ _ tt
  served_within t m c (InitFail k made) h = runner_within t _ _ (fails_within c.name k made)
  served_within t m c (Start n) h = starts_within c.name n _
  served_within t m c (Join n) h = joins_within _
  served_within t m c (Finish e) h = ends_within t e
  served_within t m c (Buffer n k us) h = buffer_within c.name n k us _
  served_within t m c (Print us) h = tt
