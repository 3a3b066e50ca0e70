-- Each served request: what it changes suits the bodies, and its answer is of the types that were asked for.
use Rattle.std.proofs.Common.{Bool, List, None, Option, Some, [], ap, false, if◌then◌else◌, length, nat_lt, not, pos, refl, slice_get, subst, suc, sym, true, zero, ℕ, ℤ, ◌&&◌, ◌++◌, ◌+◌, ◌-◌, ◌==◌, ◌||◌, ◌∙◌, ◌∷◌, ◌≡◌}
use Rattle.std.proofs.lemmas.Bool.{eqb-true, not-true}
use Rattle.std.specs.Option.{option_to_list}
use Rattle.std.specs.Prelude.{int_lt, is_none, unsigned_abs}
use Rattle.jvm_base.specs.Names.{named}
use Rattle.jvm_base.specs.Words.{from}
use Rattle.jvm_base.specs.declared.name.Name.{Name}
use Rattle.jvm_base.specs.declared.value.ObjectBody.{ObjectBody}
use Rattle.jvm_base.specs.declared.value.ObjectBody.TheVariants.{Array, Fields, Text}
use Rattle.jvm_base.specs.declared.value.Value.{Value}
use Rattle.jvm_base.specs.declared.value.Value.TheVariants.{Ref}
use Rattle.hierarchy.specs.Walks.{has}
use Rattle.program_image.specs.Buffers.{is_buffer}
use Rattle.program_image.specs.Program.{Program}
use Rattle.program_image.specs.Words.{zeros_of}
use Rattle.program_image.specs.declared.info.ArrayInfo.{ArrayInfo}
use Rattle.flow_types.proofs.ListLaws.{and_both, and_parts}
use Rattle.flow_types.proofs.TypeLaws.{type-trans}
use Rattle.flow_types.specs.Tree.{superclasses}
use Rattle.flow_types.specs.Types.{type_fits}
use Rattle.flow_types.specs.declared.flow_type.FlowType.{FlowType}
use Rattle.flow_types.specs.declared.flow_type.FlowType.TheVariants as flow
use Rattle.instruction_table.specs.ClassTypes.{array_at, class_type, value_type}
use Rattle.instruction_table.specs.Rows.{throwable}
use Rattle.machine_state.proofs.NameTests.{some_is}
use Rattle.machine_state.specs.Bodies.{appending, buffer, buffer_by, element_at, get, len, load, measuring, put, store, takes_value}
use Rattle.machine_state.specs.BootClasses.{array_index, array_store, initializer_error, monitor_state, string, thread_state}
use Rattle.machine_state.specs.Changes.{Change, Freed, Made, Owned, SetsContent, SetsElement, SetsField, change, changed}
use Rattle.machine_state.specs.Deeds.{Deed, changing, faulted, locking, making_text, quiet, reading}
use Rattle.machine_state.specs.Events.{Content, ContentOf, ElementOf, Enters, FieldOf, Held, Leaves, One, Place, Retakes}
use Rattle.machine_state.specs.Intrinsics.{buffer_length, buffer_of, buffer_text, new_buffer}
use Rattle.machine_state.specs.Locks.{by_owner, enter, leaves, notifies, owned, retakes}
use Rattle.machine_state.specs.Making.{made_objects, making, new_body}
use Rattle.machine_state.specs.PreMade.{no_node}
use Rattle.machine_state.specs.Requests.{cell, key_of}
use Rattle.machine_state.specs.Serve.{begins, by_runner, ends, fails, joins, name_fits, serve, starts}
use Rattle.machine_state.specs.State.{Heap, State, body_at, waiters_of}
use Rattle.machine_state.specs.declared.request.Answer.{Answer}
use Rattle.machine_state.specs.declared.request.Answer.TheVariants.{Gives, Raises, Slept}
use Rattle.machine_state.specs.declared.request.Request.{Request}
use Rattle.machine_state.specs.declared.request.Request.TheVariants.{Begin, Buffer, Enter, Exit, Fault, Finish, Get, InitDone, InitFail, Join, Len, Load, Make, MakeText, Notify, NotifyAll, Print, Put, Start, Store, Wait}
use Rattle.machine_state.specs.declared.state.Choice.{Choice}
use Rattle.machine_state.specs.declared.state.ClassState.{ClassState}
use Rattle.machine_state.specs.declared.state.ClassState.TheVariants as class_state
use Rattle.machine_state.specs.declared.state.MonitorState.{MonitorState}
use Rattle.frame_soundness.specs.AcceptedProgram.{AreArrays, Classes, IsFault, Subs, faults}
use Rattle.frame_soundness.specs.Holding.{component_type, field_types, has_fields, is_text, slots_of}
use Rattle.frame_soundness.specs.Moving.{IsThrown}
use Rattle.frame_soundness.specs.Natives.{buffer_type, string_type}
use Rattle.machine_soundness.proofs.HeapLaws.{BodiesFit, ChangesFit, change-grows, changes-grow, ref-suits, there-made, zeros-suit}
use Rattle.machine_soundness.proofs.LevelGrowth.{suit-one}
use Rattle.machine_soundness.specs.Asks.{Asks}
use Rattle.machine_soundness.specs.Bodies.{all_suit, body_fits, each_suits, kind_fits, suits, there_in}

-- an answer is of the types that were asked for
abbrev pub AnswerFits : Program → (Name → Bool) → Answer → List FlowType → Type 0
AnswerFits image more (Gives v) ts = all_suit image more (option_to_list v) ts ≡ true
AnswerFits image more (Raises e) ts = IsThrown image more e
AnswerFits image more (Slept k) ts = ts ≡ []

-- what a deed changes and answers, in the heap after
pub record DeedFits (image : Program) (m : State) (d : Deed) (ts : List FlowType) : Type 0 where
  pub changes : ChangesFit image (there_in (changed d.changes m).heap) d.changes
  pub answer : AnswerFits image (there_in (changed d.changes m).heap) d.answer ts

-- a value at a place suits the type there
suit-get : (image : Program) (there : Name → Bool) (i : ℕ) (v : Value) (t : FlowType) (vs : List Value) (ts : List FlowType) → all_suit image there vs ts ≡ true → slice_get vs i ≡ Some v → slice_get ts i ≡ Some t → suits image there v t ≡ true
suit-get image there i v t [] [] h e k = absurd cc
suit-get image there zero v t (x ∷ vs) (s ∷ ts) h e k = let p : x ≡ v = cc in let q : s ≡ t = cc in subst (λ z. suits image there z t ≡ true) p (subst (λ z. suits image there x z ≡ true) q ((and_parts _ _ h).0))
suit-get image there (suc i) v t (x ∷ vs) (s ∷ ts) h e k = suit-get image there i v t vs ts ((and_parts _ _ h).1) e k
suit-get image there i v t [] (s ∷ ts) h e k = absurd cc
suit-get image there i v t (x ∷ vs) [] h e k = absurd cc

-- an element suits the elements' type
each-get : (image : Program) (there : Name → Bool) (i : ℕ) (v : Value) (t : FlowType) (vs : List Value) → each_suits image there vs t ≡ true → slice_get vs i ≡ Some v → suits image there v t ≡ true
each-get image there i v t [] h e = absurd cc
each-get image there zero v t (x ∷ vs) h e = let p : x ≡ v = cc in subst (λ z. suits image there z t ≡ true) p ((and_parts _ _ h).0)
each-get image there (suc i) v t (x ∷ vs) h e = each-get image there i v t vs ((and_parts _ _ h).1) e

-- the body of an object with fields, and of an array
pub fields-of : (image : Program) (there : Name → Bool) (n : Name) (b : ObjectBody) → has_fields image n.class ≡ true → body_fits image there n b ≡ true → (vs : List Value) × (b ≡ Fields vs) × (all_suit image there vs (slots_of image n) ≡ true)
fields-of image there n b h k = by_kind (array_at image n.class) (is_text n.class) b h k
  where
    by_kind : (o : Option ArrayInfo) (text : Bool) (b : ObjectBody) → (is_none o && not text) ≡ true → kind_fits image there n o text b ≡ true → (vs : List Value) × (b ≡ Fields vs) × (all_suit image there vs (slots_of image n) ≡ true)
    by_kind None false (Fields vs) h k = (vs, refl, k)
    by_kind None false (Array vs) h k = absurd cc
    by_kind None false (Text us) h k = absurd cc
    by_kind None true b h k = absurd cc
    by_kind (Some a) text b h k = absurd cc

-- the body of an array
pub array-body : (image : Program) (there : Name → Bool) (n : Name) (a : ArrayInfo) (b : ObjectBody) → array_at image n.class ≡ Some a → body_fits image there n b ≡ true → (vs : List Value) × (b ≡ Array vs) × (each_suits image there vs (component_type image a) ≡ true)
array-body image there n a b e k = by_body b (subst (λ o. kind_fits image there n o (is_text n.class) b ≡ true) e k)
  where
    by_body : (b : ObjectBody) → kind_fits image there n (Some a) (is_text n.class) b ≡ true → (vs : List Value) × (b ≡ Array vs) × (each_suits image there vs (component_type image a) ≡ true)
    by_body (Array vs) h = (vs, refl, h)
    by_body (Fields vs) h = absurd cc
    by_body (Text us) h = absurd cc

-- a text is a body of a class of texts
pub text-body : (image : Program) (there : Name → Bool) (n : Name) (us : List ℕ) → array_at image n.class ≡ None → is_text n.class ≡ true → body_fits image there n (Text us) ≡ true
text-body image there n us e h = rw (e, h) refl

-- values that suit the places are a body of a class with fields
pub fields-body : (image : Program) (there : Name → Bool) (n : Name) (vs : List Value) → has_fields image n.class ≡ true → all_suit image there vs (slots_of image n) ≡ true → body_fits image there n (Fields vs) ≡ true
fields-body image there n vs h k = by_kind (array_at image n.class) (is_text n.class) h
  where
    by_kind : (o : Option ArrayInfo) (text : Bool) → (is_none o && not text) ≡ true → kind_fits image there n o text (Fields vs) ≡ true
    by_kind None false h = k
    by_kind None true h = absurd cc
    by_kind (Some a) text h = absurd cc

-- elements that suit an array are its body
pub elements-body : (image : Program) (there : Name → Bool) (n : Name) (a : ArrayInfo) (vs : List Value) → array_at image n.class ≡ Some a → each_suits image there vs (component_type image a) ≡ true → body_fits image there n (Array vs) ≡ true
elements-body image there n a vs e h = rw e h

-- a class that is no array, String or StringBuffer has fields
fields-if : (o : Option ArrayInfo) (x y : Bool) → o ≡ None → x ≡ false → y ≡ false → (is_none o && not (x || y)) ≡ true
fields-if o x y p q r = rw (p, q, r) refl

-- ---- made objects

-- what the test of a name says of the first object
pub record NameOf (name : Name) (c : ℕ) : Type 0 where
  pub class : name.class ≡ c
  pub node : (name.node == no_node) ≡ false

-- a name that was tested is of the class, and no holder
pub name-of : (heap : Heap) (name : Name) (c : ℕ) (cs : List ℕ) → name_fits heap name (c ∷ cs) ≡ true → NameOf name c
name-of heap name c cs h = let (p, q) = and_parts _ _ h in let (x, y) = and_parts _ _ q in record { class = eqb-true name.class c x; node = not-true _ p }

-- its places are the class's fields
no-holder : (image : Program) (name : Name) → (name.node == no_node) ≡ false → slots_of image name ≡ field_types image name.class
no-holder image name h = rw h refl

-- first values are a body of a new object
new-object : (image : Program) (there : Name → Bool) (name : Name) (c : ℕ) → NameOf name c → has_fields image c ≡ true → body_fits image there name (Fields (zeros_of image c)) ≡ true
new-object image there name c n h =
    fields-body image there name (zeros_of image c) (subst (λ x. has_fields image x ≡ true) (sym n.class) h)
    (subst (λ x. all_suit image there (zeros_of image c) x ≡ true) (sym (no-holder image name n.node ∙ ap (field_types image) n.class)) (zeros-suit image there c))

module _ (image : Program) (classes : Classes image) (m : State) (c : Choice) where
  -- each deed of a choice whose name fits is right
  abbrev pub Served : Option Deed → List FlowType → Type 0
  Served o ts = (d : Deed) → o ≡ Some d → name_fits m.heap c.name d.makes ≡ true → DeedFits image m d ts

  -- nothing is served
  none : (ts : List FlowType) → Served None ts
  none ts d e h = absurd cc

  -- a deed is
  some : (d : Deed) (ts : List FlowType) → (name_fits m.heap c.name d.makes ≡ true → DeedFits image m d ts) → Served (Some d) ts
  some d ts k e q h = subst (λ x. DeedFits image m x ts) (some_is q) (k (subst (λ x. name_fits m.heap c.name x.makes ≡ true) (sym (some_is q)) h))

  -- a deed that changes no body and answers nothing
  still : (d : Deed) (ts : List FlowType) → d.changes ≡ [] → d.answer ≡ Gives None → ts ≡ [] → DeedFits image m d ts
  still d ts e k q = record { changes = rw e tt; answer = rw (k, q) refl }

  -- an exception is made and raised, before changes that fit
  fault-fits : (k : ℕ) (extra : List Change) (ts : List FlowType) → has faults k ≡ true → ((more : Name → Bool) → ChangesFit image more extra) → name_fits m.heap c.name (k ∷ []) ≡ true → DeedFits image m (record (faulted image c.name k) { changes = Made c.name (Fields (zeros_of image k)) ∷ extra }) ts
  fault-fits k extra ts f x h =
      let n : NameOf c.name k = name-of m.heap c.name k [] h in
      let s : IsFault image k = classes.fault k f in
      record {
        changes = (new-object image _ c.name k n s.kind, x _);
        answer = record {
          is_here = changes-grow extra (change (Made c.name (Fields (zeros_of image k))) m) c.name (there-made m.heap c.name (Fields (zeros_of image k)));
          fits = subst (λ z. type_fits (superclasses image) (class_type image z) (flow.Class throwable) ≡ true) (sym n.class) s.thrown;
        };
      }

  -- an exception is made and raised
  plain-fault : (k : ℕ) (ts : List FlowType) → has faults k ≡ true → name_fits m.heap c.name (k ∷ []) ≡ true → DeedFits image m (faulted image c.name k) ts
  plain-fault k ts f h = fault-fits k [] ts f (λ more. tt) h

  -- a String is made
  text-fits : (subs : Subs image) (reads : List (Place × Held)) (us : List ℕ) → name_fits m.heap c.name (string ∷ []) ≡ true → DeedFits image m (making_text c.name reads us) (string_type ∷ [])
  text-fits subs reads us h =
      let n : NameOf c.name string = name-of m.heap c.name string [] h in
      record {
        changes = (text-body image _ c.name us (ap (array_at image) n.class ∙ classes.string_class.0) (ap is_text n.class), tt);
        answer = and_both _ _ (ref-suits image subs (there_in (change (Made c.name (Text us)) m).heap) c.name string_type (there-made m.heap c.name (Text us)) (ap (class_type image) n.class ∙ classes.string_class.1)) refl;
      }

  module _ (subs : Subs image) (fit : BodiesFit image (there_in m.heap) m.heap) where
    -- a field is read
    served-get : (n : Name) (i : ℕ) (ts : List FlowType) → Asks image (there_in m.heap) (Get n i) ts → (b : Option ObjectBody) → body_at m.heap n ≡ b → Served (get n i b) ts
    served-get n i ts (t, x, q) None u = none ts
    served-get n i ts (t, x, q) (Some b) u =
        let (vs, p, s) = fields-of image (there_in m.heap) n b x.kind (fit n b u) in
        subst (λ z. Served (get n i (Some z)) ts) (sym p) (by_value vs s (slice_get vs i) refl)
      where
        by_value : (vs : List Value) → all_suit image (there_in m.heap) vs (slots_of image n) ≡ true → (o : Option Value) → slice_get vs i ≡ o → Served (from None (λ v. Some (reading (FieldOf n i) (One v) (Some v))) o) ts
        by_value vs s None w = none ts
        by_value vs s (Some v) w = some _ ts (λ h. record { changes = tt; answer = rw q (and_both _ _ (suit-get image (there_in m.heap) i v t vs (slots_of image n) s w x.slot) refl) })

    -- a field is written
    served-put : (n : Name) (i : ℕ) (v : Value) (ts : List FlowType) → Asks image (there_in m.heap) (Put n i v) ts → (b : Option ObjectBody) → Served (put n i v b) ts
    served-put n i v ts (t, x, s, q) (Some (Fields vs)) = by_test (nat_lt i (length vs))
      where
        by_test : (z : Bool) → Served (if z then Some (changing (SetsField n i v ∷ []) None) else None) ts
        by_test false = none ts
        by_test true = some _ ts (λ h. record { changes = ((t, x.slot, suit-one image (there_in m.heap) (there_in (change (SetsField n i v) m).heap) (change-grows (SetsField n i v) m) v t s), tt); answer = rw q refl })
    served-put n i v ts a (Some (Array vs)) = none ts
    served-put n i v ts a (Some (Text us)) = none ts
    served-put n i v ts a None = none ts

    -- an element is read
    served-load : (n : Name) (i : ℤ) (ts : List FlowType) → Asks image (there_in m.heap) (Load n i) ts → (b : Option ObjectBody) → body_at m.heap n ≡ b → Served (load image c.name n i b) ts
    served-load n i ts (a, t, x, e, q) None u = none ts
    served-load n i ts (a, t, x, e, q) (Some b) u =
        let (vs, p, s) = array-body image (there_in m.heap) n a b x.array (fit n b u) in
        subst (λ z. Served (load image c.name n i (Some z)) ts) (sym p) (some _ ts (by_element vs s (element_at i vs) refl))
      where
        at-index : (vs : List Value) (v : Value) → element_at i vs ≡ Some v → slice_get vs (unsigned_abs i) ≡ Some v
        at-index vs v w = by_sign (int_lt i (pos 0)) w
          where
            by_sign : (z : Bool) → (if z then None else slice_get vs (unsigned_abs i)) ≡ Some v → slice_get vs (unsigned_abs i) ≡ Some v
            by_sign true w = absurd cc
            by_sign false w = w

        by_element : (vs : List Value) → each_suits image (there_in m.heap) vs (component_type image a) ≡ true → (o : Option Value) → element_at i vs ≡ o → name_fits m.heap c.name (from (faulted image c.name array_index) (λ v. reading (ElementOf n (unsigned_abs i)) (One v) (Some v)) o).makes ≡ true → DeedFits image m (from (faulted image c.name array_index) (λ v. reading (ElementOf n (unsigned_abs i)) (One v) (Some v)) o) ts
        by_element vs s None w h = plain-fault array_index ts refl h
        by_element vs s (Some v) w h =
            let (p, r) = and_parts _ _ (each-get image (there_in m.heap) (unsigned_abs i) v (component_type image a) vs s (at-index vs v w)) in
            record { changes = tt; answer = rw q (and_both _ _ (and_both _ _ p (type-trans (superclasses image) subs.tree (value_type image v) (component_type image a) t r e)) refl) }

    -- an element is written
    served-store : (n : Name) (i : ℤ) (v : Value) (ts : List FlowType) → Asks image (there_in m.heap) (Store n i v) ts → (b : Option ObjectBody) → Served (store image c.name n i v b) ts
    served-store n i v ts (a, x, e, q) (Some (Array vs)) = some _ ts (by_element (element_at i vs))
      where
        by_test : (z : Bool) → takes_value image n.class v ≡ z → name_fits m.heap c.name (if z then changing (SetsElement n (unsigned_abs i) v ∷ []) None else faulted image c.name array_store).makes ≡ true → DeedFits image m (if z then changing (SetsElement n (unsigned_abs i) v ∷ []) None else faulted image c.name array_store) ts
        by_test false w h = plain-fault array_store ts refl h
        by_test true w h = record {
          changes = ((λ b p. let r : a ≡ b = some_is (sym x.array ∙ p) in subst (λ z. suits image (there_in (change (SetsElement n (unsigned_abs i) v) m).heap) v (component_type image z) ≡ true) r (suit-one image (there_in m.heap) _ (change-grows (SetsElement n (unsigned_abs i) v) m) v (component_type image a) (and_both _ _ e.is_here (e.suits w)))), tt);
          answer = rw q refl;
        }

        by_element : (o : Option Value) → name_fits m.heap c.name (from (faulted image c.name array_index) (λ old. if takes_value image n.class v then changing (SetsElement n (unsigned_abs i) v ∷ []) None else faulted image c.name array_store) o).makes ≡ true → DeedFits image m (from (faulted image c.name array_index) (λ old. if takes_value image n.class v then changing (SetsElement n (unsigned_abs i) v ∷ []) None else faulted image c.name array_store) o) ts
        by_element None h = plain-fault array_index ts refl h
        by_element (Some old) h = by_test (takes_value image n.class v) refl h
    served-store n i v ts a (Some (Fields vs)) = none ts
    served-store n i v ts a (Some (Text us)) = none ts
    served-store n i v ts a None = none ts

    -- an array is measured
    served-len : (n : Name) (ts : List FlowType) → Asks image (there_in m.heap) (Len n) ts → (b : Option ObjectBody) → Served (len b) ts
    served-len n ts (a, x, q) (Some (Array vs)) = some _ ts (λ h. record { changes = tt; answer = rw q refl })
    served-len n ts a (Some (Fields vs)) = none ts
    served-len n ts a (Some (Text us)) = none ts
    served-len n ts a None = none ts

    -- a method of a StringBuffer is called
    served-buffer : (n : Name) (k : ℕ) (us : List ℕ) (ts : List FlowType) → Asks image (there_in m.heap) (Buffer n k us) ts → (b : Option ObjectBody) → Served (buffer c.name n k us b) ts
    served-buffer n k us ts (x, e, q) (Some (Text bs)) = by_class (is_buffer n.class)
      where
        append-suits : (z : Bool) → ts ≡ (if z then [] else buffer_type ∷ []) → all_suit image (there_in (change (SetsContent n (bs ++ us)) m).heap) (option_to_list (if z then None else Some (Ref n))) ts ≡ true
        append-suits true q = rw q refl
        append-suits false q = rw q (and_both _ _ (ref-suits image subs (there_in (change (SetsContent n (bs ++ us)) m).heap) n buffer_type (change-grows (SetsContent n (bs ++ us)) m n x) (ap (class_type image) e ∙ classes.buffer_class.1)) refl)

        by_number : (new of text size : Bool) → (k == buffer_of) ≡ of → ts ≡ (if new || of then [] else (if text then string_type ∷ [] else (if size then flow.Int ∷ [] else buffer_type ∷ []))) → (text ≡ true → of ≡ false) → (size ≡ true → of ≡ false) → name_fits m.heap c.name (if new then quiet None else (if text then making_text c.name ((ContentOf n, Content bs) ∷ []) bs else (if size then measuring n bs else appending n k us bs))).makes ≡ true → DeedFits image m (if new then quiet None else (if text then making_text c.name ((ContentOf n, Content bs) ∷ []) bs else (if size then measuring n bs else appending n k us bs))) ts
        by_number true of text size w q a b h = record { changes = tt; answer = rw q refl }
        by_number false of true size w q a b h = let g : of ≡ false = a refl in let r : ts ≡ string_type ∷ [] = rw g at q in subst (λ z. DeedFits image m (making_text c.name ((ContentOf n, Content bs) ∷ []) bs) z) (sym r) (text-fits subs ((ContentOf n, Content bs) ∷ []) bs h)
        by_number false of false true w q a b h = let g : of ≡ false = b refl in let r : ts ≡ flow.Int ∷ [] = rw g at q in record { changes = tt; answer = rw r refl }
        by_number false true false false w q a b h = record { changes = (tt, tt); answer = rw w (append-suits true q) }
        by_number false false false false w q a b h = record { changes = (tt, tt); answer = rw w (append-suits false q) }

        apart : (j : ℕ) → (j == buffer_of) ≡ false → (k == j) ≡ true → (k == buffer_of) ≡ false
        apart j e h = subst (λ z. (z == buffer_of) ≡ false) (sym (eqb-true k j h)) e

        by_class : (z : Bool) → Served (if z then Some (buffer_by c.name n k us bs) else None) ts
        by_class false = none ts
        by_class true = some _ ts (by_number (k == new_buffer) (k == buffer_of) (k == buffer_text) (k == buffer_length) refl q (apart buffer_text refl) (apart buffer_length refl))
    served-buffer n k us ts a (Some (Fields vs)) = none ts
    served-buffer n k us ts a (Some (Array vs)) = none ts
    served-buffer n k us ts a None = none ts

    -- ---- makes

    -- the name is the choice's
    name-same : (k : ℕ) → c.name.class ≡ k → named c.name.node k c.name.index ≡ c.name
    name-same k e = subst (λ z. named c.name.node z c.name.index ≡ c.name) e refl

    -- an object that is no array is made
    object-fits : (k : ℕ) (ts : List FlowType) → Asks image (there_in m.heap) (Make k []) ts → name_fits m.heap c.name (k ∷ []) ≡ true → DeedFits image m (making c.name ((named c.name.node k c.name.index, new_body image k) ∷ [])) ts
    object-fits k ts (e, q) h =
        let n : NameOf c.name k = name-of m.heap c.name k [] h in
        subst (λ z. DeedFits image m (making c.name ((z, new_body image k) ∷ [])) ts) (sym (name-same k n.class)) (record {
          changes = (by_text n (is_buffer k) (k == string) refl refl, tt);
          answer = rw q (and_both _ _ (ref-suits image subs (there_in (change (Made c.name (new_body image k)) m).heap) c.name (class_type image k) (there-made m.heap c.name (new_body image k)) (ap (class_type image) n.class)) refl);
        })
      where
        by_text : NameOf c.name k → (is_one is_text_class : Bool) → is_buffer k ≡ is_one → (k == string) ≡ is_text_class → body_fits image (there_in (change (Made c.name (new_body image k)) m).heap) c.name (if is_one || is_text_class then Text [] else Fields (zeros_of image k)) ≡ true
        by_text n true is_text_class a b = text-body image _ c.name [] (ap (array_at image) n.class ∙ e) (ap is_text n.class ∙ rw a refl)
        by_text n false true a b = text-body image _ c.name [] (ap (array_at image) n.class ∙ e) (ap is_text n.class ∙ rw (a, b) refl)
        by_text n false false a b = new-object image _ c.name k n (fields-if (array_at image k) (is_buffer k) (k == string) e a b)

    -- ---- monitors

    -- a lock is entered
    served-enter : (t : ℕ) (n : Name) (ts : List FlowType) → Asks image (there_in m.heap) (Enter n) ts → (o : Option MonitorState) → Served (enter t n o) ts
    served-enter t n ts (x, q) None = some _ ts (λ h. record { changes = (x, tt); answer = rw q refl })
    served-enter t n ts (x, q) (Some o) = by_test (o.owner == t)
      where
        by_test : (z : Bool) → Served (if z then Some (locking (Enters n) (Owned n (owned t (o.count + 1)) ∷ [])) else None) ts
        by_test true = some _ ts (λ h. record { changes = (x, tt); answer = rw q refl })
        by_test false = none ts

    -- what the owner does, or what comes of a thread that isn't
    owner-fits : (t : ℕ) (ts : List FlowType) (o : Option MonitorState) (d : Deed) (f : MonitorState → Deed) → (name_fits m.heap c.name d.makes ≡ true → DeedFits image m d ts) → ((s : MonitorState) → name_fits m.heap c.name (f s).makes ≡ true → DeedFits image m (f s) ts) → Served (Some (by_owner t o d f)) ts
    owner-fits t ts None d f k g = some _ ts k
    owner-fits t ts (Some o) d f k g = some _ ts (by_test (o.owner == t))
      where
        by_test : (z : Bool) → name_fits m.heap c.name (if z then f o else d).makes ≡ true → DeedFits image m (if z then f o else d) ts
        by_test true h = g o h
        by_test false h = k h

    -- a lock is left by its owner
    leaves-fit : (n : Name) (ts : List FlowType) → there_in m.heap n ≡ true → ts ≡ [] → (o : MonitorState) → DeedFits image m (leaves n o) ts
    leaves-fit n ts x q o = by_test (o.count == 1)
      where
        by_test : (z : Bool) → DeedFits image m (locking (Leaves n) ((if z then Freed n else Owned n (owned o.owner (o.count - 1))) ∷ [])) ts
        by_test true = record { changes = (tt, tt); answer = rw q refl }
        by_test false = record { changes = (x, tt); answer = rw q refl }

    -- a lock is left by another thread
    exit-fits : (n : Name) (raising : Bool) (ts : List FlowType) → ts ≡ [] → name_fits m.heap c.name (if raising then quiet None else faulted image c.name monitor_state).makes ≡ true → DeedFits image m (if raising then quiet None else faulted image c.name monitor_state) ts
    exit-fits n true ts q h = record { changes = tt; answer = rw q refl }
    exit-fits n false ts q h = plain-fault monitor_state ts refl h

    -- a waiter wakes
    notifies-fit : (n : Name) (pick : ℕ) (ws : List ℕ) (ts : List FlowType) → ts ≡ [] → DeedFits image m (notifies n pick ws) ts
    notifies-fit n pick [] ts q = record { changes = tt; answer = rw q refl }
    notifies-fit n pick (w ∷ ws) ts q = record { changes = (tt, tt); answer = rw q refl }

    -- a thread is started
    starts-fit : (n : Name) (ts : List FlowType) → Asks image (there_in m.heap) (Start n) ts → (o : Option Bool) → name_fits m.heap c.name (starts image c.name n o).makes ≡ true → DeedFits image m (starts image c.name n o) ts
    starts-fit n ts (x, q) None h = record { changes = (x, tt); answer = rw q refl }
    starts-fit n ts (x, q) (Some b) h = plain-fault thread_state ts refl h

    -- a thread is waited for
    joins-fit : (ts : List FlowType) → ts ≡ [] → (o : Option Bool) → Served (joins o) ts
    joins-fit ts q None = some _ ts (λ h. record { changes = tt; answer = rw q refl })
    joins-fit ts q (Some true) = some _ ts (λ h. record { changes = tt; answer = rw q refl })
    joins-fit ts q (Some false) = none ts

    -- the initialisation of a class begins
    begins-fit : (t k : ℕ) (ts : List FlowType) → ts ≡ [] → (o : Option ClassState) → Served (begins t k o) ts
    begins-fit t k ts q (Some class_state.Untouched) = some _ ts (λ h. record { changes = (tt, tt); answer = rw q refl })
    begins-fit t k ts q (Some (class_state.Running u)) = none ts
    begins-fit t k ts q (Some class_state.Done) = none ts
    begins-fit t k ts q (Some class_state.Failed) = none ts
    begins-fit t k ts q None = none ts

    -- what the thread does that began it
    runner-fits : (t : ℕ) (d : Deed) (ts : List FlowType) → (name_fits m.heap c.name d.makes ≡ true → DeedFits image m d ts) → (o : Option ClassState) → Served (by_runner t o d) ts
    runner-fits t d ts f (Some (class_state.Running u)) = by_test (u == t)
      where
        by_test : (z : Bool) → Served (if z then Some d else None) ts
        by_test true = some d ts f
        by_test false = none ts
    runner-fits t d ts f (Some class_state.Untouched) = none ts
    runner-fits t d ts f (Some class_state.Done) = none ts
    runner-fits t d ts f (Some class_state.Failed) = none ts
    runner-fits t d ts f None = none ts

    -- it fails
    fails-fit : (k : ℕ) (made : Bool) (ts : List FlowType) → ts ≡ [] → name_fits m.heap c.name (fails image c.name k made).makes ≡ true → DeedFits image m (fails image c.name k made) ts
    fails-fit k true ts q h = fault-fits initializer_error _ ts refl (λ more. (tt, tt)) h
    fails-fit k false ts q h = record { changes = (tt, tt); answer = rw q refl }

    -- a thread ends
    ends-fit : (t : ℕ) (e : Option Name) (ts : List FlowType) → ts ≡ [] → DeedFits image m (ends t e) ts
    ends-fit t None ts q = record { changes = (tt, tt); answer = rw q refl }
    ends-fit t (Some e) ts q = record { changes = (tt, (tt, tt)); answer = rw q refl }

    -- a thread that woke takes its lock again
    pub retakes-fit : (t : ℕ) (n : Name) (k : ℕ) (o : Option MonitorState) (ws : List ℕ) → there_in m.heap n ≡ true → Served (retakes t n k o ws) []
    retakes-fit t n k None ws x = by_test (has ws t)
      where
        by_test : (z : Bool) → Served (if z then None else Some (locking (Retakes n) (Owned n (owned t k) ∷ []))) []
        by_test true = none []
        by_test false = some _ [] (λ h. record { changes = (x, tt); answer = refl })
    retakes-fit t n k (Some o) ws x = none []

    -- ---- all requests; arrays of arrays apart

    -- arrays of arrays are made
    abbrev pub ArraysFit : Type 0
    ArraysFit = (k n : ℕ) (ns : List ℕ) → AreArrays image (suc (length ns)) k → name_fits m.heap c.name (making c.name (made_objects image c.name k (n ∷ ns))).makes ≡ true → DeedFits image m (making c.name (made_objects image c.name k (n ∷ ns))) (class_type image k ∷ [])

    -- by request
    pub serve-fits : ArraysFit → (t : ℕ) (r : Request) (ts : List FlowType) → Asks image (there_in m.heap) r ts → Served (serve image t c r (cell m (key_of r))) ts
    unfolding serve
    serve-fits ar t (Get n i) ts a = served-get n i ts a _ refl
    serve-fits ar t (Put n i v) ts a = served-put n i v ts a _
    serve-fits ar t (Load n i) ts a = served-load n i ts a _ refl
    serve-fits ar t (Store n i v) ts a = served-store n i v ts a _
    serve-fits ar t (Len n) ts a = served-len n ts a _
    serve-fits ar t (Make k []) ts a = some _ ts (object-fits k ts a)
    serve-fits ar t (Make k (n ∷ ns)) ts (a, q) = some _ ts (λ h. subst (λ z. DeedFits image m (making c.name (made_objects image c.name k (n ∷ ns))) z) (sym q) (ar k n ns a h))
    serve-fits ar t (MakeText us) ts q = some _ ts (λ h. subst (λ z. DeedFits image m (making_text c.name [] us) z) (sym q) (text-fits subs [] us h))
    serve-fits ar t (Fault k) ts a = some _ ts (plain-fault k ts a)
    serve-fits ar t (Enter n) ts a = served-enter t n ts a _
    serve-fits ar t (Exit n raising) ts (x, q) = owner-fits t ts _ _ _ (exit-fits n raising ts q) (λ o h. leaves-fit n ts x q o)
    serve-fits ar t (Wait n) ts (x, q) = owner-fits t ts _ _ _ (plain-fault monitor_state ts refl) (λ o h. record { changes = (tt, (x, tt)); answer = q })
    serve-fits ar t (Notify n) ts (x, q) = owner-fits t ts _ _ _ (plain-fault monitor_state ts refl) (λ o h. notifies-fit n c.pick (waiters_of n m.waiting) ts q)
    serve-fits ar t (NotifyAll n) ts (x, q) = owner-fits t ts _ _ _ (plain-fault monitor_state ts refl) (λ o h. record { changes = (tt, tt); answer = rw q refl })
    serve-fits ar t (Begin k) ts q = begins-fit t k ts q _
    serve-fits ar t (InitDone k) ts q = runner-fits t _ ts (λ h. record { changes = (tt, tt); answer = rw q refl }) _
    serve-fits ar t (InitFail k made) ts q = runner-fits t _ ts (fails-fit k made ts q) _
    serve-fits ar t (Start n) ts a = some _ ts (starts-fit n ts a _)
    serve-fits ar t (Join n) ts (x, q) = joins-fit ts q _
    serve-fits ar t (Finish e) ts q = some _ ts (λ h. ends-fit t e ts q)
    serve-fits ar t (Buffer n k us) ts a = served-buffer n k us ts a _
    serve-fits ar t (Print us) ts q = some _ ts (λ h. record { changes = (tt, tt); answer = rw q refl })
