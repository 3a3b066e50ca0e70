-- A step's own demands don't depend on the choice's name and pick.
use Rattle.std.proofs.Common.{◌≡◌, ℕ, zero, suc, ◌+◌, ◌*◌, Bool, true, false, ◌==◌, if◌then◌else◌, List, [], ◌∷◌, ◌++◌, map, Option, Some, None, refl, sym, ap, ◌∙◌, subst}
use Rattle.std.specs.Prelude.{slice_get, ℤ, unsigned_abs}
use Rattle.jvm_base.specs.declared.name.Name.{Name}
use Rattle.jvm_base.specs.declared.value.Value.{Value}
use Rattle.jvm_base.specs.declared.value.ObjectBody.{ObjectBody}
use Rattle.jvm_base.specs.declared.value.ObjectBody.TheVariants.{Fields, Array, Text}
use Rattle.jvm_base.specs.declared.frame.Level.{Level}
use Rattle.machine_state.specs.declared.state.Choice.{Choice}
use Rattle.machine_state.specs.declared.state.Mode.{Mode}
use Rattle.machine_state.specs.declared.state.Mode.TheVariants.{Entry, Running, Raising, Waiting, Ended}
use Rattle.machine_state.specs.declared.state.MonitorState.{MonitorState}
use Rattle.machine_state.specs.declared.state.ThreadState.{ThreadState}
use Rattle.machine_state.specs.declared.state.ClassState.{ClassState}
use Rattle.machine_state.specs.declared.state.ClassState.TheVariants as class_state
use Rattle.program_image.specs.Program.{Program}
use Rattle.jvm_base.specs.Words.{from}
use Rattle.program_image.specs.Buffers.{is_buffer}
use Rattle.machine_state.specs.State.{State, owner_at, waiters_of}
use Rattle.machine_state.specs.declared.request.Request.{Request}
use Rattle.machine_state.specs.declared.request.Request.TheVariants.{Get, Put, Load, Store, Len, Make, MakeText, Fault, Enter, Exit, Wait, Notify, NotifyAll, Begin, InitDone, InitFail, Start, Join, Finish, Buffer, Print}
use Rattle.machine_state.specs.Requests.{key_of, cell}
use Rattle.machine_state.specs.Events.{ElementOf, One}
use Rattle.machine_state.specs.Changes.{SetsElement}
use Rattle.machine_state.specs.Deeds.{Deed, faulted, reading, changing}
use Rattle.machine_state.specs.Next.{Next, Alone, Throws, Calls, Leaves, Drops, Needs, Wants, Stuck, Plan}
use Rattle.machine_state.specs.Plan.{plan}
use Rattle.machine_state.specs.Serve.{begins, by_runner, serve, fails, starts}
use Rattle.machine_state.specs.Bodies.{load, store, buffer, element_at, takes_value}
use Rattle.machine_state.specs.Making.{made_objects, levels, arrays, part_class}
use Rattle.machine_state.specs.Locks.{by_owner, notifies, retakes}
use Rattle.machine_state.specs.Step.{Taken, taken, alone, served, performed, asked, planned, awake, retaken, by_mode, attempt, who}
use Rattle.machine_state.specs.Frames.{called}
use Rattle.machine_state.specs.Laws.Likeness.{DemandsAlike, Alike, OneNextLaw}
use Rattle.machine_state.specs.BootClasses.{array_index, array_store, no_class_found}
use Rattle.machine_state.specs.Intrinsics.{new_buffer, buffer_text}

-- a deed is like itself
same : (a : Deed) → DemandsAlike a a
same a = record { makes = refl; waiters = refl }

-- two requests are served alike
abbrev pub Both : Option Deed → Option Deed → Type 0
Both None None = Unit {0}
Both (Some a) (Some b) = DemandsAlike a b
Both _ _ = ⊥

-- one is served like itself
both_same : (o : Option Deed) → Both o o
both_same None = tt
both_same (Some a) = same a

-- by a test
both_if : (b : Bool) (x y u v : Option Deed) → Both x u → Both y v → Both (if b then x else y) (if b then u else v)
both_if true x y u v p q = p
both_if false x y u v p q = q

-- deeds by a test
demands_if : (b : Bool) (x y u v : Deed) → DemandsAlike x u → DemandsAlike y v → DemandsAlike (if b then x else y) (if b then u else v)
demands_if true x y u v p q = p
demands_if false x y u v p q = q

-- ---- the classes of made objects

-- the classes of objects one behind the other
classes-append : (xs ys us vs : List (Name × ObjectBody)) → map (λ o. o.0.class) xs ≡ map (λ o. o.0.class) us → map (λ o. o.0.class) ys ≡ map (λ o. o.0.class) vs → map (λ o. o.0.class) (xs ++ ys) ≡ map (λ o. o.0.class) (us ++ vs)
classes-append xs ys us vs p q = spread xs ys ∙ (ap (λ z. z ++ map (λ o. o.0.class) ys) p ∙ (ap (λ z. map (λ o. o.0.class) us ++ z) q ∙ sym (spread us vs)))
  where
    spread : (xs ys : List (Name × ObjectBody)) → map (λ o. o.0.class) (xs ++ ys) ≡ map (λ o. o.0.class) xs ++ map (λ o. o.0.class) ys
    spread [] ys = refl
    spread (x ∷ xs) ys = ap (λ z. x.0.class ∷ z) (spread xs ys)

-- the classes of arrays of one level depend on no name
classes-arrays : (image : Program) (node other c n index place first start : ℕ) (sizes : List ℕ) → map (λ o. o.0.class) (arrays image node c n index first sizes) ≡ map (λ o. o.0.class) (arrays image other c n place start sizes)
classes-arrays image node other c zero index place first start sizes = refl
classes-arrays image node other c (suc n) index place first start [] = refl
classes-arrays image node other c (suc n) index place first start (s ∷ ss) = ap (λ z. c ∷ z) (classes-arrays image node other c n (index + 1) (place + 1) (first + s) (start + s) (s ∷ ss))

-- nor do those of all levels
classes-levels : (image : Program) (node other c count index place : ℕ) (sizes : List ℕ) → map (λ o. o.0.class) (levels image node c count index sizes) ≡ map (λ o. o.0.class) (levels image other c count place sizes)
classes-levels image node other c count index place [] = refl
classes-levels image node other c count index place (s ∷ ss) = classes-append (arrays image node c count index (index + count) (s ∷ ss)) _ (arrays image other c count place (place + count) (s ∷ ss)) _ (classes-arrays image node other c count index place (index + count) (place + count) (s ∷ ss)) (classes-levels image node other (part_class image c) (count * s) (index + count) (place + count) ss)

-- nor those of what is made
classes-made : (image : Program) (a b : Name) (k : ℕ) (sizes : List ℕ) → map (λ o. o.0.class) (made_objects image a k sizes) ≡ map (λ o. o.0.class) (made_objects image b k sizes)
classes-made image a b k [] = refl
classes-made image a b k (s ∷ ss) = classes-levels image a.node b.node k 1 a.index b.index (s ∷ ss)

-- ---- requests

-- a read of an element
both_load : (image : Program) (a b n : Name) (i : ℤ) (o : Option ObjectBody) → Both (load image a n i o) (load image b n i o)
both_load image a b n i None = tt
both_load image a b n i (Some (Fields vs)) = tt
both_load image a b n i (Some (Text us)) = tt
both_load image a b n i (Some (Array vs)) = by_value (element_at i vs)
  where
    by_value : (v : Option Value) → DemandsAlike (from (faulted image a array_index) (λ v. reading (ElementOf n (unsigned_abs i)) (One v) (Some v)) v) (from (faulted image b array_index) (λ v. reading (ElementOf n (unsigned_abs i)) (One v) (Some v)) v)
    by_value None = record { makes = refl; waiters = refl }
    by_value (Some v) = same _

-- a write of an element
both_store : (image : Program) (a b n : Name) (i : ℤ) (v : Value) (o : Option ObjectBody) → Both (store image a n i v o) (store image b n i v o)
both_store image a b n i v None = tt
both_store image a b n i v (Some (Fields vs)) = tt
both_store image a b n i v (Some (Text us)) = tt
both_store image a b n i v (Some (Array vs)) = by_value (element_at i vs)
  where
    by_value : (o : Option Value) → DemandsAlike (from (faulted image a array_index) (λ old. if takes_value image n.class v then changing (SetsElement n (unsigned_abs i) v ∷ []) None else faulted image a array_store) o)
        (from (faulted image b array_index) (λ old. if takes_value image n.class v then changing (SetsElement n (unsigned_abs i) v ∷ []) None else faulted image b array_store) o)
    by_value None = record { makes = refl; waiters = refl }
    by_value (Some w) = demands_if (takes_value image n.class v) _ _ _ _ (same _) (record { makes = refl; waiters = refl })

-- a call of a buffer
both_buffer : (a b n : Name) (k : ℕ) (us : List ℕ) (o : Option ObjectBody) → Both (buffer a n k us o) (buffer b n k us o)
both_buffer a b n k us None = tt
both_buffer a b n k us (Some (Fields vs)) = tt
both_buffer a b n k us (Some (Array vs)) = tt
both_buffer a b n k us (Some (Text ts)) = both_if (is_buffer n.class) _ _ _ _ (demands_if (k == new_buffer) _ _ _ _ (same _) (demands_if (k == buffer_text) _ _ _ _ (record { makes = refl; waiters = refl }) (same _))) tt

-- what an owner does
asks_owner : (t : ℕ) (o : Option MonitorState) (x y : Deed) (f g : MonitorState → Deed) → DemandsAlike x y → ((s : MonitorState) → DemandsAlike (f s) (g s)) → DemandsAlike (by_owner t o x f) (by_owner t o y g)
asks_owner t None x y f g p q = p
asks_owner t (Some o) x y f g p q = demands_if (o.owner == t) _ _ _ _ (q o) p

-- a notify
asks_notifies : (n : Name) (a b : ℕ) (ws : List ℕ) → DemandsAlike (notifies n a ws) (notifies n b ws)
asks_notifies n a b [] = same _
asks_notifies n a b (w ∷ ws) = record { makes = refl; waiters = refl }

-- a failed initialisation
asks_fails : (image : Program) (a b : Name) (c : ℕ) (made : Bool) → DemandsAlike (fails image a c made) (fails image b c made)
asks_fails image a b c true = record { makes = refl; waiters = refl }
asks_fails image a b c false = same _

-- a start
asks_starts : (image : Program) (a b n : Name) (o : Option Bool) → DemandsAlike (starts image a n o) (starts image b n o)
asks_starts image a b n None = same _
asks_starts image a b n (Some x) = record { makes = refl; waiters = refl }

-- the end of an initialisation
both_runner : (t : ℕ) (s : Option ClassState) (a b : Deed) → DemandsAlike a b → Both (by_runner t s a) (by_runner t s b)
both_runner t (Some (class_state.Running u)) a b l = both_if (u == t) _ _ _ _ l tt
both_runner t (Some class_state.Untouched) a b l = tt
both_runner t (Some class_state.Done) a b l = tt
both_runner t (Some class_state.Failed) a b l = tt
both_runner t None a b l = tt

-- every request
pub both_served : (image : Program) (t : ℕ) (m : State) (c d : Choice) (r : Request) → Both (serve image t c r (cell m (key_of r))) (serve image t d r (cell m (key_of r)))
unfolding serve
both_served image t m c d (Get n i) = both_same _
both_served image t m c d (Put n i v) = both_same _
both_served image t m c d (Load n i) = both_load image c.name d.name n i _
both_served image t m c d (Store n i v) = both_store image c.name d.name n i v _
both_served image t m c d (Len n) = both_same _
both_served image t m c d (Make k sizes) = record { makes = classes-made image c.name d.name k sizes; waiters = refl }
both_served image t m c d (MakeText us) = record { makes = refl; waiters = refl }
both_served image t m c d (Fault k) = record { makes = refl; waiters = refl }
both_served image t m c d (Enter n) = both_same _
both_served image t m c d (Exit n raising) = asks_owner t (owner_at m.monitors n) _ _ _ _ (demands_if raising _ _ _ _ (same _) (record { makes = refl; waiters = refl })) (λ s. same _)
both_served image t m c d (Wait n) = asks_owner t (owner_at m.monitors n) _ _ _ _ (record { makes = refl; waiters = refl }) (λ s. same _)
both_served image t m c d (Notify n) = asks_owner t (owner_at m.monitors n) _ _ _ _ (record { makes = refl; waiters = refl }) (λ s. asks_notifies n c.pick d.pick (waiters_of n m.waiting))
both_served image t m c d (NotifyAll n) = asks_owner t (owner_at m.monitors n) _ _ _ _ (record { makes = refl; waiters = refl }) (λ s. same _)
both_served image t m c d (Begin k) = both_same (begins t k (slice_get m.classes k))
both_served image t m c d (InitDone k) = both_same (by_runner t (slice_get m.classes k) _)
both_served image t m c d (InitFail k made) = both_runner t (slice_get m.classes k) _ _ (asks_fails image c.name d.name k made)
both_served image t m c d (Start n) = asks_starts image c.name d.name n _
both_served image t m c d (Join n) = both_same _
both_served image t m c d (Finish e) = record { makes = refl; waiters = refl }
both_served image t m c d (Buffer n k us) = both_buffer c.name d.name n k us _
both_served image t m c d (Print us) = record { makes = refl; waiters = refl }

-- ---- the step

-- a step is like itself
alike_itself : (o : Option Taken) → Alike o o
alike_itself None = tt
alike_itself (Some k) = same k.deed

-- steps of requests that are served alike
alike_by : (image : Program) (mode : Mode) (ls : List Level) (r : Request) (o p : Option Deed) → Both o p → Alike (from None (λ d. Some (taken image r mode ls d)) o) (from None (λ d. Some (taken image r mode ls d)) p)
alike_by image mode ls r None None b = tt
alike_by image mode ls r (Some x) (Some y) b = b
alike_by image mode ls r None (Some y) b = absurd b
alike_by image mode ls r (Some x) None b = absurd b

-- a served request
alike_served : (image : Program) (m : State) (c d : Choice) (mode : Mode) (ls : List Level) (r : Request) → c.thread ≡ d.thread → Alike (served image m c mode ls r) (served image m d mode ls r)
unfolding served
alike_served image m c d mode ls r e = alike_by image mode ls r _ _ (subst (λ (t : ℕ). Both (serve image c.thread c r (cell m (key_of r))) (serve image t d r (cell m (key_of r)))) e (both_served image c.thread m c d r))

-- what comes next
alike_performed : (image : Program) (m : State) (c d : Choice) (mode : Mode) (ls : List Level) (n : Next) → c.thread ≡ d.thread → Alike (performed image m c mode ls n) (performed image m d mode ls n)
alike_performed image m c d mode ls (Needs r) e = alike_served image m c d mode ls r e
alike_performed image m c d mode ls (Alone f) e = alike_itself (performed image m c mode ls (Alone f))
alike_performed image m c d mode ls (Throws x) e = alike_itself (performed image m c mode ls (Throws x))
alike_performed image m c d mode ls (Calls k vs) e = alike_itself (alone (called image k vs ls))
alike_performed image m c d mode ls (Leaves v) e = alike_itself (performed image m c mode ls (Leaves v))
alike_performed image m c d mode ls Drops e = alike_itself (performed image m c mode ls Drops)
alike_performed image m c d mode ls (Wants n) e = tt
alike_performed image m c d mode ls Stuck e = tt

-- after a class was asked for
alike_asked : (image : Program) (m : State) (c d : Choice) (mode : Mode) (ls : List Level) (n : Next) (q : ℕ) (o : Option ClassState) → c.thread ≡ d.thread → Alike (asked image m c mode ls n q o) (asked image m d mode ls n q o)
alike_asked image m c d mode ls n q None e = tt
alike_asked image m c d mode ls n q (Some class_state.Done) e = alike_performed image m c d mode ls n e
alike_asked image m c d mode ls n q (Some (class_state.Running u)) e = subst (λ (t : ℕ). Alike (if u == c.thread then performed image m c mode ls n else None) (if u == t then performed image m d mode ls n else None)) e (by_test (u == c.thread))
  where
    by_test : (b : Bool) → Alike (if b then performed image m c mode ls n else None) (if b then performed image m d mode ls n else None)
    by_test true = alike_performed image m c d mode ls n e
    by_test false = tt
alike_asked image m c d mode ls n q (Some class_state.Untouched) e = alike_served image m c d mode ls (Begin q) e
alike_asked image m c d mode ls n q (Some class_state.Failed) e = alike_served image m c d mode ls (Fault no_class_found) e

-- a plan
alike_planned : (image : Program) (m : State) (c d : Choice) (mode : Mode) (ls : List Level) (p : Plan) → c.thread ≡ d.thread → Alike (planned image m c mode ls p) (planned image m d mode ls p)
alike_planned image m c d mode ls p e = by_ask p.asks
  where
    by_ask : (o : Option ℕ) → Alike (from (performed image m c mode ls p.next) (λ k. asked image m c mode ls p.next k (slice_get m.classes k)) o) (from (performed image m d mode ls p.next) (λ k. asked image m d mode ls p.next k (slice_get m.classes k)) o)
    by_ask None = alike_performed image m c d mode ls p.next e
    by_ask (Some q) = alike_asked image m c d mode ls p.next q (slice_get m.classes q) e

-- a thread that is awake
alike_awake : (image : Program) (m : State) (c d : Choice) (th : ThreadState) → c.thread ≡ d.thread → Alike (awake image m c th) (awake image m d th)
alike_awake image m c d th e = subst (λ (t : ℕ). Alike (awake image m c th) (planned image m d th.mode th.levels (plan image (who m.heap t th) th.mode th.levels))) e (alike_planned image m c d th.mode th.levels (plan image (who m.heap c.thread th) th.mode th.levels) e)

-- by mode
alike_mode : (image : Program) (m : State) (c d : Choice) (th : ThreadState) (mode : Mode) → c.thread ≡ d.thread → Alike (by_mode image m c th mode) (by_mode image m d th mode)
alike_mode image m c d th Entry e = alike_awake image m c d th e
alike_mode image m c d th Running e = alike_awake image m c d th e
alike_mode image m c d th (Raising x) e = alike_awake image m c d th e
alike_mode image m c d th (Waiting n k) e = subst (λ (t : ℕ). Alike (retaken m c th.levels n k) (from None (λ d. Some (record { deed = d; stand = (Running, th.levels) })) (retakes t n k (owner_at m.monitors n) (waiters_of n m.waiting)))) e (alike_itself (retaken m c th.levels n k))
alike_mode image m c d th Ended e = tt

-- the law
pub one_next : OneNextLaw
unfolding attempt
one_next image m c d th e = alike_mode image m c d th th.mode e
