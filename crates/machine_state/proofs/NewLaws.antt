-- What a step makes is new, so other bodies stay.
use Rattle.std.proofs.Common.{◌≡◌, ℕ, zero, suc, ◌+◌, ◌-◌, ◌*◌, ◌^◌, Bool, true, false, ◌&&◌, ◌==◌, if◌then◌else◌, List, [], ◌∷◌, ◌++◌, map, length, Option, Some, None, refl, sym, ap, ◌∙◌, subst, arith}
use Rattle.std.specs.Prelude.{slice_get, nat_lt, nat_le, ℤ, unsigned_abs, is_none}
use Rattle.std.proofs.lemmas.Bool.Decides.{Decides-eqb}
use Rattle.jvm_base.specs.declared.name.Name.{Name}
use Rattle.jvm_base.specs.declared.value.Value.{Value}
use Rattle.jvm_base.specs.declared.value.ObjectBody.{ObjectBody}
use Rattle.jvm_base.specs.declared.value.ObjectBody.TheVariants.{Fields, Array, Text}
use Rattle.machine_state.specs.declared.state.Choice.{Choice}
use Rattle.machine_state.specs.declared.state.MonitorState.{MonitorState}
use Rattle.machine_state.specs.declared.state.ClassState.{ClassState}
use Rattle.machine_state.specs.declared.state.ClassState.TheVariants as class_state
use Rattle.program_image.specs.Program.{Program}
use Rattle.jvm_base.specs.Words.{from}
use Rattle.hierarchy.specs.Walks.{has}
use Rattle.jvm_base.specs.Names.{named}
use Rattle.program_image.specs.Buffers.{is_buffer}
use Rattle.machine_state.specs.State.{State, Heap, body_at, owner_at, waiters_of}
use Rattle.machine_state.specs.declared.request.Request.{Request}
use Rattle.machine_state.specs.declared.request.Request.TheVariants.{Get, Put, Load, Store, Len, Make, MakeText, Fault, Enter, Exit, Wait, Notify, NotifyAll, Begin, InitDone, InitFail, Start, Join, Finish, Buffer, Print}
use Rattle.machine_state.specs.Requests.{key_of, cell}
use Rattle.machine_state.specs.Changes.{Change, Made, SetsElement, Owned, Freed}
use Rattle.machine_state.specs.Events.{FieldOf, ElementOf, One}
use Rattle.machine_state.specs.Deeds.{Deed, faulted, reading, changing}
use Rattle.machine_state.specs.Serve.{begins, by_runner, serve, fails, starts, joins, ends, name_fits, all_new}
use Rattle.machine_state.specs.Bodies.{get, put, load, store, len, buffer, element_at, takes_value}
use Rattle.machine_state.specs.Making.{making, made_objects, levels, arrays, part_class}
use Rattle.machine_state.specs.Locks.{enter, by_owner, leaves, notifies, retakes, owned}
use Rattle.machine_state.proofs.NameTests.{some_is}
use Rattle.machine_state.specs.BootClasses.{array_index, array_store}
use Rattle.machine_state.specs.Intrinsics.{new_buffer, buffer_text, buffer_length}

-- a name that a step makes: the choice's own, or the i-th from it, of the i-th class
pub data IsMade (name : Name) (makes : List ℕ) (q : Name) : Type 0 where
  own : (k : ℕ) (ks : List ℕ) → makes ≡ k ∷ ks → q ≡ name → IsMade name makes q
  later : (i k : ℕ) → slice_get makes i ≡ Some k → q ≡ named name.node k (name.index + i) → IsMade name makes q

-- made objects are among the demands
abbrev pub AreMade : Name → List ℕ → List Change → Type 0
AreMade name makes [] = Unit {0}
AreMade name makes (Made q b ∷ hs) = IsMade name makes q × AreMade name makes hs
AreMade name makes (h ∷ hs) = AreMade name makes hs

-- of what is served
abbrev pub MadeIf : Name → Option Deed → Type 0
MadeIf name o = (d : Deed) → o ≡ Some d → AreMade name d.makes d.changes

-- where nothing is
empty : (name : Name) → MadeIf name None
empty name d e = absurd cc

-- where a deed is
some : (name : Name) (d : Deed) → AreMade name d.makes d.changes → MadeIf name (Some d)
some name d l e h = subst (λ (x : Deed). AreMade name x.makes x.changes) (some_is h) l

-- by a test
either : (name : Name) (b : Bool) (x y : Option Deed) → MadeIf name x → MadeIf name y → MadeIf name (if b then x else y)
either name true x y l k = l
either name false x y l k = k

-- of a deed
abbrev Fine : Name → Deed → Type 0
Fine name d = AreMade name d.makes d.changes

-- deeds by a test
either_deed : (name : Name) (b : Bool) (x y : Deed) → Fine name x → Fine name y → Fine name (if b then x else y)
either_deed name true x y l k = l
either_deed name false x y l k = k

-- one object
one : (name : Name) (k : ℕ) → IsMade name (k ∷ []) name
one name k = own k [] refl refl

-- ---- objects of a make, one after the other

-- the objects' names are those from an index on
abbrev Runs : ℕ → ℕ → List (Name × ObjectBody) → Type 0
Runs node index [] = Unit {0}
Runs node index (o ∷ os) = (o.0 ≡ named node o.0.class index) × Runs node (index + 1) os

-- names that follow one another, in two lists
runs-append : (node index n : ℕ) (xs ys : List (Name × ObjectBody)) → length xs ≡ n → Runs node index xs → Runs node (index + n) ys → Runs node index (xs ++ ys)
runs-append node index n [] ys e a b = subst (λ (i : ℕ). Runs node i ys) (omega (arith, e)) b
runs-append node index n (x ∷ xs) ys e a b = (a.0, runs-append node (index + 1) (length xs) xs ys refl a.1 (subst (λ (i : ℕ). Runs node i ys) (omega (arith, e)) b))

-- how many arrays a level has
length-arrays : (image : Program) (node c n index first s : ℕ) (below : List ℕ) → length (arrays image node c n index first (s ∷ below)) ≡ n
length-arrays image node c zero index first s below = refl
length-arrays image node c (suc n) index first s below = ap suc (length-arrays image node c n (index + 1) (first + s) s below)

-- their names follow one another
runs-arrays : (image : Program) (node c n index first s : ℕ) (below : List ℕ) → Runs node index (arrays image node c n index first (s ∷ below))
runs-arrays image node c zero index first s below = tt
runs-arrays image node c (suc n) index first s below = (refl, runs-arrays image node c n (index + 1) (first + s) s below)

-- so do those of all levels
runs-levels : (image : Program) (node c count index : ℕ) (sizes : List ℕ) → Runs node index (levels image node c count index sizes)
runs-levels image node c count index [] = tt
runs-levels image node c count index (s ∷ ss) = runs-append node index count (arrays image node c count index (index + count) (s ∷ ss)) _ (length-arrays image node c count index (index + count) s ss) (runs-arrays image node c count index (index + count) s ss)
    (runs-levels image node (part_class image c) (count * s) (index + count) ss)

-- so do those of what is made
runs-made : (image : Program) (name : Name) (c : ℕ) (sizes : List ℕ) → Runs name.node name.index (made_objects image name c sizes)
runs-made image name c [] = (refl, tt)
runs-made image name c (s ∷ ss) = runs-levels image name.node c 1 name.index (s ∷ ss)

-- the objects from the i-th on are made, where their classes are the list's from the i-th on
made_on : (name : Name) (makes : List ℕ) (i : ℕ) (os : List (Name × ObjectBody)) → ((j k : ℕ) → slice_get (map (λ o. o.0.class) os) j ≡ Some k → slice_get makes (i + j) ≡ Some k) → Runs name.node (name.index + i) os → AreMade name makes (map (λ o. Made o.0 o.1) os)
made_on name makes i [] f r = tt
made_on name makes i (o ∷ os) f r = (
  later i o.0.class (subst (λ (x : ℕ). slice_get makes x ≡ Some o.0.class) (omega arith) (f 0 o.0.class refl)) r.0,
  made_on name makes (i + 1) os (λ j k e. subst (λ (x : ℕ). slice_get makes x ≡ Some k) (omega arith) (f (suc j) k e)) (subst (λ (x : ℕ). Runs name.node x os) (omega arith) r.1),
)

-- so all of them join the demands
made_all : (name : Name) (os : List (Name × ObjectBody)) → Runs name.node name.index os → AreMade name (map (λ o. o.0.class) os) (map (λ o. Made o.0 o.1) os)
made_all name os r = made_on name (map (λ o. o.0.class) os) 0 os (λ j k e. subst (λ (x : ℕ). slice_get (map (λ o. o.0.class) os) x ≡ Some k) (omega arith) e) (subst (λ (x : ℕ). Runs name.node x os) (omega arith) r)

-- ---- requests

module _ (image : Program) (name : Name) where
  made_get : (n : Name) (i : ℕ) (o : Option ObjectBody) → MadeIf name (get n i o)
  made_get n i None = (empty name)
  made_get n i (Some (Array vs)) = (empty name)
  made_get n i (Some (Text us)) = (empty name)
  made_get n i (Some (Fields vs)) = by_value (slice_get vs i)
    where
      by_value : (v : Option Value) → MadeIf name (from None (λ v. Some (reading (FieldOf n i) (One v) (Some v))) v)
      by_value None = (empty name)
      by_value (Some v) = some name _ tt

  made_put : (n : Name) (i : ℕ) (v : Value) (o : Option ObjectBody) → MadeIf name (put n i v o)
  made_put n i v None = (empty name)
  made_put n i v (Some (Array vs)) = (empty name)
  made_put n i v (Some (Text us)) = (empty name)
  made_put n i v (Some (Fields vs)) = either name (nat_lt i (length vs)) _ _ (some name _ tt) (empty name)

  made_load : (n : Name) (i : ℤ) (o : Option ObjectBody) → MadeIf name (load image name n i o)
  made_load n i None = (empty name)
  made_load n i (Some (Fields vs)) = (empty name)
  made_load n i (Some (Text us)) = (empty name)
  made_load n i (Some (Array vs)) = some name _ (by_value (element_at i vs))
    where
      by_value : (v : Option Value) → Fine name (from (faulted image name array_index) (λ v. reading (ElementOf n (unsigned_abs i)) (One v) (Some v)) v)
      by_value None = (one name 15, tt)
      by_value (Some v) = tt

  made_store : (n : Name) (i : ℤ) (v : Value) (o : Option ObjectBody) → MadeIf name (store image name n i v o)
  made_store n i v None = (empty name)
  made_store n i v (Some (Fields vs)) = (empty name)
  made_store n i v (Some (Text us)) = (empty name)
  made_store n i v (Some (Array vs)) = some name _ (by_value (element_at i vs))
    where
      by_value : (o : Option Value) → Fine name (from (faulted image name array_index) (λ old. if takes_value image n.class v then changing (SetsElement n (unsigned_abs i) v ∷ []) None else faulted image name array_store) o)
      by_value None = (one name 15, tt)
      by_value (Some w) = either_deed name (takes_value image n.class v) _ _ tt (one name 18, tt)

  made_len : (o : Option ObjectBody) → MadeIf name (len o)
  made_len None = (empty name)
  made_len (Some (Fields vs)) = (empty name)
  made_len (Some (Text us)) = (empty name)
  made_len (Some (Array vs)) = some name _ tt

  made_buffer : (n : Name) (k : ℕ) (us : List ℕ) (o : Option ObjectBody) → MadeIf name (buffer name n k us o)
  made_buffer n k us None = (empty name)
  made_buffer n k us (Some (Fields vs)) = (empty name)
  made_buffer n k us (Some (Array vs)) = (empty name)
  made_buffer n k us (Some (Text ts)) = either name (is_buffer n.class) _ _ (some name _ (either_deed name (k == new_buffer) _ _ tt (either_deed name (k == buffer_text) _ _ (one name 2, tt) (either_deed name (k == buffer_length) _ _ tt tt)))) (empty name)

  made_enter : (t : ℕ) (n : Name) (o : Option MonitorState) → MadeIf name (enter t n o)
  made_enter t n None = some name _ tt
  made_enter t n (Some o) = either name (o.owner == t) _ _ (some name _ tt) (empty name)

  made_owner : (t : ℕ) (o : Option MonitorState) (x : Deed) (f : MonitorState → Deed) → Fine name x → ((s : MonitorState) → Fine name (f s)) → Fine name (by_owner t o x f)
  made_owner t None x f l k = l
  made_owner t (Some o) x f l k = either_deed name (o.owner == t) _ _ (k o) l

  made_leaves : (n : Name) (o : MonitorState) → Fine name (leaves n o)
  made_leaves n o = by_test (o.count == 1)
    where
      by_test : (b : Bool) → AreMade name [] ((if b then Freed n else Owned n (owned o.owner (o.count - 1))) ∷ [])
      by_test true = tt
      by_test false = tt

  made_notifies : (n : Name) (pick : ℕ) (ws : List ℕ) → Fine name (notifies n pick ws)
  made_notifies n pick [] = tt
  made_notifies n pick (w ∷ ws) = tt

  made_fails : (c : ℕ) (made : Bool) → Fine name (fails image name c made)
  made_fails c true = (one name 26, tt)
  made_fails c false = tt

  made_starts : (n : Name) (o : Option Bool) → Fine name (starts image name n o)
  made_starts n None = tt
  made_starts n (Some b) = (one name 22, tt)

  made_joins : (o : Option Bool) → MadeIf name (joins o)
  made_joins None = some name _ tt
  made_joins (Some true) = some name _ tt
  made_joins (Some false) = (empty name)

  made_ends : (t : ℕ) (e : Option Name) → Fine name (ends t e)
  made_ends t None = tt
  made_ends t (Some e) = tt

-- a lock that is taken again
pub made_retakes : (name : Name) (t : ℕ) (n : Name) (k : ℕ) (o : Option MonitorState) (ws : List ℕ) → MadeIf name (retakes t n k o ws)
made_retakes name t n k None ws = either name (has ws t) _ _ (empty name) (some name _ tt)
made_retakes name t n k (Some o) ws = (empty name)

-- the begin of an initialisation
made_begins : (name : Name) (t c : ℕ) (s : Option ClassState) → MadeIf name (begins t c s)
made_begins name t c (Some class_state.Untouched) = some name _ tt
made_begins name t c (Some (class_state.Running u)) = λ d e. absurd cc
made_begins name t c (Some class_state.Done) = λ d e. absurd cc
made_begins name t c (Some class_state.Failed) = λ d e. absurd cc
made_begins name t c None = λ d e. absurd cc

-- the end of one
made_runner : (name : Name) (t : ℕ) (s : Option ClassState) (d : Deed) → AreMade name d.makes d.changes → MadeIf name (by_runner t s d)
made_runner name t (Some (class_state.Running u)) d l = either name (u == t) _ _ (some name _ l) (λ d e. absurd cc)
made_runner name t (Some class_state.Untouched) d l = λ d e. absurd cc
made_runner name t (Some class_state.Done) d l = λ d e. absurd cc
made_runner name t (Some class_state.Failed) d l = λ d e. absurd cc
made_runner name t None d l = λ d e. absurd cc

-- every request
pub made_served : (image : Program) (t : ℕ) (m : State) (c : Choice) (r : Request) → MadeIf c.name (serve image t c r (cell m (key_of r)))
unfolding serve
made_served image t m c (Get n i) = made_get image c.name n i _
made_served image t m c (Put n i v) = made_put image c.name n i v _
made_served image t m c (Load n i) = made_load image c.name n i _
made_served image t m c (Store n i v) = made_store image c.name n i v _
made_served image t m c (Len n) = made_len image c.name _
made_served image t m c (Make k sizes) = some c.name (making c.name (made_objects image c.name k sizes)) (made_all c.name (made_objects image c.name k sizes) (runs-made image c.name k sizes))
made_served image t m c (MakeText us) = some c.name _ (one c.name 2, tt)
made_served image t m c (Fault k) = some c.name _ (one c.name k, tt)
made_served image t m c (Enter n) = made_enter image c.name t n _
made_served image t m c (Exit n raising) = some c.name _ (made_owner image c.name t (owner_at m.monitors n) _ _ (either_deed c.name raising _ _ tt (one c.name 20, tt)) (made_leaves image c.name n))
made_served image t m c (Wait n) = some c.name _ (made_owner image c.name t (owner_at m.monitors n) _ _ (one c.name 20, tt) (λ o. tt))
made_served image t m c (Notify n) = some c.name _ (made_owner image c.name t (owner_at m.monitors n) _ _ (one c.name 20, tt) (λ o. made_notifies image c.name n c.pick (waiters_of n m.waiting)))
made_served image t m c (NotifyAll n) = some c.name _ (made_owner image c.name t (owner_at m.monitors n) _ _ (one c.name 20, tt) (λ o. tt))
made_served image t m c (Begin k) = made_begins c.name t k _
made_served image t m c (InitDone k) = made_runner c.name t _ _ tt
made_served image t m c (InitFail k made) = made_runner c.name t _ _ (made_fails image c.name k made)
made_served image t m c (Start n) = some c.name _ (made_starts image c.name n _)
made_served image t m c (Join n) = made_joins image c.name _
made_served image t m c (Finish e) = some c.name _ (made_ends image c.name t e)
made_served image t m c (Buffer n k us) = made_buffer image c.name n k us _
made_served image t m c (Print us) = some c.name _ tt

-- ---- a name that fits is new

-- the first of two tests that pass
first : (a b : Bool) → (a && b) ≡ true → a ≡ true
first true b e = refl
first false b e = e

-- and the second
second : (a b : Bool) → (a && b) ≡ true → b ≡ true
second true b e = e
second false b e = absurd cc

-- what is tested empty is
nothing_there : (o : Option ObjectBody) → is_none o ≡ true → o ≡ None
nothing_there None e = refl
nothing_there (Some b) e = absurd cc

-- the names that were tested new are
new_at : (heap : Heap) (node index : ℕ) (cs : List ℕ) (i k : ℕ) → all_new heap node index cs ≡ true → slice_get cs i ≡ Some k → body_at heap (named node k (index + i)) ≡ None
new_at heap node index [] i k e g = absurd cc
new_at heap node index (c ∷ cs) zero k e g = ap (body_at heap) (ap (λ (x : ℕ). named node x (index + 0)) (sym (some_is g)) ∙ ap (λ (x : ℕ). named node c x) (omega arith)) ∙ nothing_there (body_at heap (named node c index)) (first _ _ e)
new_at heap node index (c ∷ cs) (suc i) k e g = ap (λ (x : ℕ). body_at heap (named node k x)) (omega arith) ∙ new_at heap node (index + 1) cs i k (second _ _ e) g

-- so what is made is new
pub made_is_new : (heap : Heap) (name : Name) (makes : List ℕ) (q : Name) → name_fits heap name makes ≡ true → IsMade name makes q → body_at heap q ≡ None
made_is_new heap name [] q f (own k ks e h) = absurd cc
made_is_new heap name [] q f (later i k e h) = absurd cc
made_is_new heap name (c ∷ cs) q f (own k ks e h) =
    let a : (name.class == c && (nat_le (name.index + (1 + length cs)) (2 ^ 32) && all_new heap name.node name.index (c ∷ cs))) ≡ true = second _ _ f in
    let n : all_new heap name.node name.index (c ∷ cs) ≡ true = second _ _ (second _ _ a) in
    let s : name.class ≡ c = (Decides-eqb name.class c).0 (first _ _ a) in
    ap (body_at heap) (h ∙ ap (λ (x : ℕ). named name.node x name.index) s) ∙ nothing_there (body_at heap (named name.node c name.index)) (first _ _ n)
made_is_new heap name (c ∷ cs) q f (later i k e h) =
    let a : (name.class == c && (nat_le (name.index + (1 + length cs)) (2 ^ 32) && all_new heap name.node name.index (c ∷ cs))) ≡ true = second _ _ f in
    ap (body_at heap) h ∙ new_at heap name.node name.index (c ∷ cs) i k (second _ _ (second _ _ a)) e
