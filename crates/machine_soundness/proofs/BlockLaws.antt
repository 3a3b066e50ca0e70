-- A right request that isn't served waits for a lock, for a thread, or for a class.
use Rattle.std.proofs.Common.{Bool, List, None, Option, Some, [], ap, arith, if◌then◌else◌, length, nat_lt, not, refl, slice_get, subst, suc, true, zero, ℕ, ◌<◌, ◌∙◌, ◌∷◌, ◌≡◌}
use Rattle.std.proofs.lemmas.Bool.Decides.{nat_tests}
use Rattle.std.proofs.lemmas.Option.{slice_get_within}
use Rattle.std.specs.Prelude.{is_none}
use Rattle.jvm_base.specs.Words.{from}
use Rattle.jvm_base.specs.declared.name.Name.{Name}
use Rattle.jvm_base.specs.declared.value.ObjectBody.{ObjectBody}
use Rattle.jvm_base.specs.declared.value.ObjectBody.TheVariants.{Array, Fields, Text}
use Rattle.jvm_base.specs.declared.value.Value.{Value}
use Rattle.program_image.specs.Buffers.{is_buffer, string_buffer}
use Rattle.program_image.specs.Program.{Program}
use Rattle.program_image.specs.declared.info.ArrayInfo.{ArrayInfo}
use Rattle.flow_types.proofs.ListLaws.{and_parts}
use Rattle.flow_types.specs.declared.flow_type.FlowType.{FlowType}
use Rattle.instruction_table.specs.ClassTypes.{array_at}
use Rattle.machine_state.specs.Bodies.{buffer, buffer_by, get, len, load, put, store}
use Rattle.machine_state.specs.Changes.{SetsField}
use Rattle.machine_state.specs.Deeds.{changing, reading}
use Rattle.machine_state.specs.Events.{FieldOf, One}
use Rattle.machine_state.specs.Requests.{cell, key_of}
use Rattle.machine_state.specs.Serve.{serve}
use Rattle.machine_state.specs.State.{State, body_at}
use Rattle.machine_state.specs.declared.request.Request.{Request}
use Rattle.machine_state.specs.declared.request.Request.TheVariants.{Begin, Buffer, Enter, Exit, Fault, Finish, Get, InitDone, InitFail, Join, Len, Load, Make, MakeText, Notify, NotifyAll, Print, Put, Start, Store, Wait}
use Rattle.machine_state.specs.declared.state.Choice.{Choice}
use Rattle.frame_soundness.specs.AcceptedProgram.{Classes}
use Rattle.frame_soundness.specs.Holding.{is_text, slots_of}
use Rattle.machine_soundness.proofs.HeapLaws.{BodiesFit}
use Rattle.machine_soundness.proofs.ServeLaws.{array-body, fields-of}
use Rattle.machine_soundness.specs.Asks.{Asks, IsArray}
use Rattle.machine_soundness.specs.Bodies.{all_suit, kind_fits, there_in}
use Rattle.machine_soundness.specs.Laws.{MayWait, RefusedLaw}

-- what is there isn't missing
some-none : {A : Type 0} (x : A) → Some x ≡ None → ⊥
some-none x e = cc

-- where values suit types, each place of a type has a value
suit-some : (image : Program) (there : Name → Bool) (i : ℕ) (t : FlowType) (vs : List Value) (ts : List FlowType) → all_suit image there vs ts ≡ true → slice_get ts i ≡ Some t → (v : Value) × (slice_get vs i ≡ Some v)
suit-some image there i t [] [] h e = absurd cc
suit-some image there zero t (v ∷ vs) (s ∷ ts) h e = (v, refl)
suit-some image there (suc i) t (v ∷ vs) (s ∷ ts) h e = suit-some image there i t vs ts ((and_parts _ _ h).1) e
suit-some image there i t [] (s ∷ ts) h e = absurd cc
suit-some image there i t (v ∷ vs) [] h e = absurd cc

module _ (image : Program) (classes : Classes image) (m : State) (c : Choice) (fit : BodiesFit image (there_in m.heap) m.heap) where
  -- an object that is there has a body
  body-there : (n : Name) → there_in m.heap n ≡ true → (b : ObjectBody) × (body_at m.heap n ≡ Some b)
  body-there n h = by_body (body_at m.heap n) refl h
    where
      by_body : (o : Option ObjectBody) → body_at m.heap n ≡ o → not (is_none o) ≡ true → (b : ObjectBody) × (body_at m.heap n ≡ Some b)
      by_body None e h = absurd cc
      by_body (Some b) e h = (b, e)

  -- a right read of a field is served
  get-served : (n : Name) (i : ℕ) (ts : List FlowType) → Asks image (there_in m.heap) (Get n i) ts → get n i (body_at m.heap n) ≡ None → ⊥
  get-served n i ts (t, x, q) h =
      let (b, u) = body-there n x.is_here in
      let (vs, p, s) = fields-of image (there_in m.heap) n b x.kind (fit n b u) in
      let (v, w) = suit-some image (there_in m.heap) i t vs (slots_of image n) s x.slot in
      let g : get n i (Some (Fields vs)) ≡ None = subst (λ z. get n i z ≡ None) (u ∙ ap Some p) h in
      let g2 : from None (λ v. Some (reading (FieldOf n i) (One v) (Some v))) (Some v) ≡ None = subst (λ z. from None (λ v. Some (reading (FieldOf n i) (One v) (Some v))) z ≡ None) w g in
      some-none _ g2

  -- a right write of a field is served
  put-served : (n : Name) (i : ℕ) (v : Value) (ts : List FlowType) → Asks image (there_in m.heap) (Put n i v) ts → put n i v (body_at m.heap n) ≡ None → ⊥
  put-served n i v ts (t, x, z, q) h =
      let (b, u) = body-there n x.is_here in
      let (vs, p, s) = fields-of image (there_in m.heap) n b x.kind (fit n b u) in
      let (y, w) = suit-some image (there_in m.heap) i t vs (slots_of image n) s x.slot in
      let l : i < length vs = slice_get_within vs i y w in
      let r : nat_lt i (length vs) ≡ true = grind (arith, nat_tests, l) in
      let g : put n i v (Some (Fields vs)) ≡ None = subst (λ z. put n i v z ≡ None) (u ∙ ap Some p) h in
      let g2 : (if true then Some (changing (SetsField n i v ∷ []) None) else None) ≡ None = subst (λ z. (if z then Some (changing (SetsField n i v ∷ []) None) else None) ≡ None) r g in
      some-none _ g2

  -- an array that is there has elements
  array-there : (n : Name) (a : ArrayInfo) → IsArray image (there_in m.heap) n a → (vs : List Value) × (body_at m.heap n ≡ Some (Array vs))
  array-there n a x =
      let (b, u) = body-there n x.is_here in
      let (vs, p, s) = array-body image (there_in m.heap) n a b x.array (fit n b u) in (vs, u ∙ ap Some p)

  -- a StringBuffer that is there has a text
  text-there : (n : Name) → there_in m.heap n ≡ true → n.class ≡ string_buffer → (us : List ℕ) × (body_at m.heap n ≡ Some (Text us))
  text-there n x e =
      let (b, u) = body-there n x in
      by_body b u (subst (λ z. kind_fits image (there_in m.heap) n z true b ≡ true) (ap (array_at image) e ∙ classes.buffer_class.0) (subst (λ z. kind_fits image (there_in m.heap) n (array_at image n.class) z b ≡ true) (ap is_text e) (fit n b u)))
    where
      by_body : (b : ObjectBody) → body_at m.heap n ≡ Some b → kind_fits image (there_in m.heap) n None true b ≡ true → (us : List ℕ) × (body_at m.heap n ≡ Some (Text us))
      by_body (Text us) u h = (us, u)
      by_body (Fields vs) u h = absurd cc
      by_body (Array vs) u h = absurd cc

  -- a call on a StringBuffer with a text is served
  buffer-some : (n : Name) (k : ℕ) (us ts : List ℕ) → n.class ≡ string_buffer → buffer c.name n k us (Some (Text ts)) ≡ None → ⊥
  buffer-some n k us ts e h = some-none _ (subst (λ z. (if z then Some (buffer_by c.name n k us ts) else None) ≡ None) (ap is_buffer e) h)

  -- by request
  pub refused-waits : (t : ℕ) (r : Request) (ts : List FlowType) → Asks image (there_in m.heap) r ts → serve image t c r (cell m (key_of r)) ≡ None → MayWait r
  unfolding serve
  refused-waits t (Get n i) ts a h = absurd (get-served n i ts a h)
  refused-waits t (Put n i v) ts a h = absurd (put-served n i v ts a h)
  refused-waits t (Load n i) ts (a, u, x, e, q) h = let (vs, w) = array-there n a x in absurd (some-none _ (subst (λ z. load image c.name n i z ≡ None) w h))
  refused-waits t (Store n i v) ts (a, x, e, q) h = let (vs, w) = array-there n a x in absurd (some-none _ (subst (λ z. store image c.name n i v z ≡ None) w h))
  refused-waits t (Len n) ts (a, x, q) h = let (vs, w) = array-there n a x in absurd (some-none _ (subst (λ z. len z ≡ None) w h))
  refused-waits t (Make k ns) ts a h = absurd (some-none _ h)
  refused-waits t (MakeText us) ts a h = absurd (some-none _ h)
  refused-waits t (Fault k) ts a h = absurd (some-none _ h)
  refused-waits t (Enter n) ts a h = tt
  refused-waits t (Exit n z) ts a h = absurd (some-none _ h)
  refused-waits t (Wait n) ts a h = absurd (some-none _ h)
  refused-waits t (Notify n) ts a h = absurd (some-none _ h)
  refused-waits t (NotifyAll n) ts a h = absurd (some-none _ h)
  refused-waits t (Begin k) ts a h = tt
  refused-waits t (InitDone k) ts a h = tt
  refused-waits t (InitFail k z) ts a h = tt
  refused-waits t (Start n) ts a h = absurd (some-none _ h)
  refused-waits t (Join n) ts a h = tt
  refused-waits t (Finish e) ts a h = absurd (some-none _ h)
  refused-waits t (Buffer n k us) ts (x, e, q) h = let (us2, w) = text-there n x e in absurd (buffer-some n k us us2 e (subst (λ z. buffer c.name n k us z ≡ None) w h))
  refused-waits t (Print us) ts a h = absurd (some-none _ h)

-- of a sound machine
pub refused : RefusedLaw
refused image types accepted m c r ts s a e = refused-waits image accepted.classes m c s.bodies c.thread r ts a e
