-- Changes keep bodies fitting, and no object goes.
use Rattle.std.proofs.Common.{Bool, List, None, Option, Some, [], cond, false, if◌then◌else◌, map, not, refl, replicate, slice_get, slice_set, subst, suc, sym, true, zero, ℕ, ◌-◌, ◌==◌, ◌∙◌, ◌∷◌, ◌≡◌}
use Rattle.std.specs.Prelude.{is_none}
use Rattle.jvm_base.proofs.NameLaws.{name_eq-true}
use Rattle.jvm_base.specs.Maps.{find, put, replace}
use Rattle.jvm_base.specs.Names.{name_cmp, name_eq}
use Rattle.jvm_base.specs.Words.{from}
use Rattle.jvm_base.specs.declared.desc.Desc.{Desc}
use Rattle.jvm_base.specs.declared.desc.Elem.{Elem}
use Rattle.jvm_base.specs.declared.desc.Elem.TheVariants as elem
use Rattle.jvm_base.specs.declared.name.Name.{Name}
use Rattle.jvm_base.specs.declared.value.ObjectBody.{ObjectBody}
use Rattle.jvm_base.specs.declared.value.ObjectBody.TheVariants.{Array, Fields, Text}
use Rattle.jvm_base.specs.declared.value.Value.{Value}
use Rattle.jvm_base.specs.declared.value.Value.TheVariants.{Null, Ref}
use Rattle.program_image.specs.Program.{Program}
use Rattle.program_image.specs.Words.{zero_of, zeros_of}
use Rattle.program_image.specs.declared.info.ArrayInfo.{ArrayInfo}
use Rattle.program_image.specs.declared.info.FieldInfo.{FieldInfo}
use Rattle.flow_types.proofs.ListLaws.{and_both, and_parts}
use Rattle.flow_types.proofs.TypeLaws.{type-refl}
use Rattle.flow_types.specs.Tree.{superclasses}
use Rattle.flow_types.specs.Types.{type_fits}
use Rattle.flow_types.specs.declared.flow_type.FlowType.{FlowType}
use Rattle.flow_types.specs.declared.flow_type.FlowType.TheVariants as flow
use Rattle.instruction_table.specs.ClassTypes.{array_at, class_type, desc_type, element_type, ground_type}
use Rattle.machine_state.proofs.MapLaws.{find-put, find-replace}
use Rattle.machine_state.proofs.NameTests.{name_itself, names_total, some_is}
use Rattle.machine_state.specs.Changes.{Becomes, Change, Finished, Freed, Lost, Made, Moved, MovedAll, Owned, Printed, SetsContent, SetsElement, SetsField, Sleeps, Started, altered, change, changed, with_content, with_element, with_field}
use Rattle.machine_state.specs.Classes.{element_zero}
use Rattle.machine_state.specs.State.{Heap, State, body_at}
use Rattle.frame_soundness.proofs.GrowLaws.{Grows}
use Rattle.frame_soundness.specs.AcceptedProgram.{Subs}
use Rattle.frame_soundness.specs.Holding.{component_type, field_types, instance_fields, is_text, slots_of}
use Rattle.machine_soundness.proofs.LevelGrowth.{suit-grows, suit-one}
use Rattle.machine_soundness.specs.Bodies.{all_suit, body_fits, each_suits, kind_fits, suits, there_in}
use Rattle.machine_soundness.specs.Levels.{IsThread}

-- ---- look-ups

-- what holds of each entry still does where one is put of which it holds
pub put-holds : {X : Type 0} (P : Name → X → Type 0) (k : Name) (x : X) (es : List (Name × X)) → P k x → ((q : Name) (y : X) → find name_cmp q es ≡ Some y → P q y) → (q : Name) (y : X) → find name_cmp q (put name_cmp k x es) ≡ Some y → P q y
put-holds P k x es h all q y e = by_test (name_eq q k) refl (sym (find-put name_cmp names_total q k x es) ∙ e)
  where
    by_test : (t : Bool) → name_eq q k ≡ t → cond t (Some x) (find name_cmp q es) ≡ Some y → P q y
    by_test false u e = all q y e
    by_test true u e = subst (λ z. P z y) (sym (name_eq-true q k u)) (subst (P k) (some_is e) h)

-- what is there stays where an object is put
pub there-put : (heap : Heap) (k q : Name) (b : ObjectBody) → there_in heap q ≡ true → there_in (put name_cmp k b heap) q ≡ true
there-put heap k q b h = subst (λ x. not (is_none x) ≡ true) (sym (find-put name_cmp names_total q k b heap)) (by_test (name_eq q k))
  where
    by_test : (t : Bool) → not (is_none (cond t (Some b) (find name_cmp q heap))) ≡ true
    by_test true = refl
    by_test false = h

-- what is put is there
pub there-made : (heap : Heap) (k : Name) (b : ObjectBody) → there_in (put name_cmp k b heap) k ≡ true
there-made heap k b = subst (λ x. not (is_none x) ≡ true) (sym (find-put name_cmp names_total k k b heap)) (rw (name_itself k) refl)

-- what is there stays where a body is altered
there-altered : (heap : Heap) (n q : Name) (f : ObjectBody → ObjectBody) → there_in heap q ≡ true → there_in (altered heap n f) q ≡ true
there-altered heap n q f h = by_body (body_at heap n) refl
  where
    by_test : (b : ObjectBody) (t : Bool) → not (is_none (cond t (Some (f b)) (find name_cmp q heap))) ≡ true
    by_test b true = refl
    by_test b false = h

    by_body : (o : Option ObjectBody) → body_at heap n ≡ o → there_in (from heap (λ b. replace name_cmp n (f b) heap) o) q ≡ true
    by_body None e = h
    by_body (Some b) e = subst (λ x. not (is_none x) ≡ true) (sym (find-replace n q (f b) b heap e)) (by_test b (name_eq q n))

-- no change takes an object away
pub change-grows : (c : Change) (m : State) → Grows (there_in m.heap) (there_in (change c m).heap)
change-grows (Made n b) m q h = there-put m.heap n q b h
change-grows (SetsField n i v) m q h = there-altered m.heap n q (with_field i v) h
change-grows (SetsElement n i v) m q h = there-altered m.heap n q (with_element i v) h
change-grows (SetsContent n us) m q h = there-altered m.heap n q (with_content us) h
change-grows _ m q h = h

-- nor do changes one after the other
pub changes-grow : (cs : List Change) (m : State) → Grows (there_in m.heap) (there_in (changed cs m).heap)
changes-grow [] m q h = h
changes-grow (c ∷ cs) m q h = changes-grow cs (change c m) q (change-grows c m q h)

-- ---- bodies

-- each body of a heap fits its name
abbrev pub BodiesFit : Program → (Name → Bool) → Heap → Type 0
BodiesFit image more heap = (n : Name) (b : ObjectBody) → body_at heap n ≡ Some b → body_fits image more n b ≡ true

-- what a change puts into a body suits it
abbrev pub ChangeFits : Program → (Name → Bool) → Change → Type 0
ChangeFits image more (Made n b) = body_fits image more n b ≡ true
ChangeFits image more (SetsField n i v) = (t : FlowType) × (slice_get (slots_of image n) i ≡ Some t) × (suits image more v t ≡ true)
ChangeFits image more (SetsElement n i v) = (a : ArrayInfo) → array_at image n.class ≡ Some a → suits image more v (component_type image a) ≡ true
ChangeFits image more (Owned n o) = more n ≡ true
ChangeFits image more (Sleeps n t) = more n ≡ true
ChangeFits image more (Started n) = IsThread image more n
ChangeFits image more _ = Unit {0}

-- so it does for changes, one by one
abbrev pub ChangesFit : Program → (Name → Bool) → List Change → Type 0
ChangesFit image more [] = Unit {0}
ChangesFit image more (c ∷ cs) = ChangeFits image more c × ChangesFit image more cs

module _ (image : Program) (more : Name → Bool) where
  -- a value that suits a place may be set there
  suit-set : (i : ℕ) (v : Value) (t : FlowType) (vs : List Value) (ts : List FlowType) → slice_get ts i ≡ Some t → suits image more v t ≡ true → all_suit image more vs ts ≡ true → all_suit image more (slice_set vs i v) ts ≡ true
  suit-set i v t [] [] e h k = absurd cc
  suit-set zero v t (x ∷ vs) (s ∷ ts) e h k = let q : s ≡ t = cc in and_both _ _ (subst (λ z. suits image more v z ≡ true) (sym q) h) ((and_parts _ _ k).1)
  suit-set (suc i) v t (x ∷ vs) (s ∷ ts) e h k = let (p, q) = and_parts _ _ k in and_both _ _ p (suit-set i v t vs ts e h q)
  suit-set i v t [] (s ∷ ts) e h k = absurd cc
  suit-set i v t (x ∷ vs) [] e h k = absurd cc

  -- so it may among elements
  each-set : (i : ℕ) (v : Value) (t : FlowType) (vs : List Value) → suits image more v t ≡ true → each_suits image more vs t ≡ true → each_suits image more (slice_set vs i v) t ≡ true
  each-set i v t [] h k = k
  each-set zero v t (x ∷ vs) h k = and_both _ _ h ((and_parts _ _ k).1)
  each-set (suc i) v t (x ∷ vs) h k = let (p, q) = and_parts _ _ k in and_both _ _ p (each-set i v t vs h q)

  -- a body still fits with another value in a field
  field-kept : (n : Name) (i : ℕ) (v : Value) (t : FlowType) → slice_get (slots_of image n) i ≡ Some t → suits image more v t ≡ true → (o : Option ArrayInfo) (text : Bool) (b : ObjectBody) → kind_fits image more n o text b ≡ true → kind_fits image more n o text (with_field i v b) ≡ true
  field-kept n i v t e h None false (Fields vs) k = suit-set i v t vs (slots_of image n) e h k
  field-kept n i v t e h (Some a) text (Fields vs) k = absurd cc
  field-kept n i v t e h None true (Fields vs) k = absurd cc
  field-kept n i v t e h o text (Array vs) k = k
  field-kept n i v t e h o text (Text us) k = k

  -- a body still fits with another value in an element
  element-kept : (n : Name) (i : ℕ) (v : Value) (o : Option ArrayInfo) (text : Bool) (b : ObjectBody) → ((a : ArrayInfo) → o ≡ Some a → suits image more v (component_type image a) ≡ true) → kind_fits image more n o text b ≡ true → kind_fits image more n o text (with_element i v b) ≡ true
  element-kept n i v (Some a) text (Array vs) h k = each-set i v (component_type image a) vs (h a refl) k
  element-kept n i v None true (Array vs) h k = absurd cc
  element-kept n i v None false (Array vs) h k = absurd cc
  element-kept n i v o text (Fields vs) h k = k
  element-kept n i v o text (Text us) h k = k

  -- a body still fits with another content
  content-kept : (n : Name) (us : List ℕ) (o : Option ArrayInfo) (text : Bool) (b : ObjectBody) → kind_fits image more n o text b ≡ true → kind_fits image more n o text (with_content us b) ≡ true
  content-kept n us None true (Text ts) k = refl
  content-kept n us (Some a) text (Text ts) k = absurd cc
  content-kept n us None false (Text ts) k = absurd cc
  content-kept n us o text (Fields vs) k = k
  content-kept n us o text (Array vs) k = k

  -- bodies fit where one is altered and still fits
  altered-kept : (heap : Heap) (n : Name) (f : ObjectBody → ObjectBody) → ((b : ObjectBody) → body_fits image more n b ≡ true → body_fits image more n (f b) ≡ true) → BodiesFit image more heap → BodiesFit image more (altered heap n f)
  altered-kept heap n f h fit q b e = by_body (body_at heap n) refl e
    where
      by_test : (x : ObjectBody) → body_at heap n ≡ Some x → (t : Bool) → name_eq q n ≡ t → cond t (Some (f x)) (find name_cmp q heap) ≡ Some b → body_fits image more q b ≡ true
      by_test x u false w e = fit q b e
      by_test x u true w e = let p : f x ≡ b = cc in subst (λ z. body_fits image more z b ≡ true) (sym (name_eq-true q n w)) (subst (λ z. body_fits image more n z ≡ true) p (h x (fit n x u)))

      by_body : (o : Option ObjectBody) → body_at heap n ≡ o → body_at (from heap (λ b. replace name_cmp n (f b) heap) o) q ≡ Some b → body_fits image more q b ≡ true
      by_body None u e = fit q b e
      by_body (Some x) u e = by_test x u (name_eq q n) refl (sym (find-replace n q (f x) x heap u) ∙ e)

  -- bodies fit after a change that fits
  change-keeps : (c : Change) (m : State) → ChangeFits image more c → BodiesFit image more m.heap → BodiesFit image more (change c m).heap
  change-keeps (Made n b) m h fit = put-holds (λ q x. body_fits image more q x ≡ true) n b m.heap h fit
  change-keeps (SetsField n i v) m (t, e, h) fit = altered-kept m.heap n (with_field i v) (λ b k. field-kept n i v t e h (array_at image n.class) (is_text n.class) b k) fit
  change-keeps (SetsElement n i v) m h fit = altered-kept m.heap n (with_element i v) (λ b k. element-kept n i v (array_at image n.class) (is_text n.class) b h k) fit
  change-keeps (SetsContent n us) m h fit = altered-kept m.heap n (with_content us) (λ b k. content-kept n us (array_at image n.class) (is_text n.class) b k) fit
  change-keeps (Owned n o) m h fit = fit
  change-keeps (Freed n) m h fit = fit
  change-keeps (Sleeps n t) m h fit = fit
  change-keeps (Moved n t) m h fit = fit
  change-keeps (MovedAll n) m h fit = fit
  change-keeps (Becomes k s) m h fit = fit
  change-keeps (Started n) m h fit = fit
  change-keeps (Finished t) m h fit = fit
  change-keeps (Lost u) m h fit = fit
  change-keeps (Printed us) m h fit = fit

  -- and after changes that fit
  pub changes-keep : (cs : List Change) (m : State) → ChangesFit image more cs → BodiesFit image more m.heap → BodiesFit image more (changed cs m).heap
  changes-keep [] m h fit = fit
  changes-keep (c ∷ cs) m h fit = changes-keep cs (change c m) h.1 (change-keeps c m h.0 fit)

-- ---- bodies as objects are made

module _ (image : Program) (there more : Name → Bool) (g : Grows there more) where
  -- elements
  each-grows : (vs : List Value) (t : FlowType) → each_suits image there vs t ≡ true → each_suits image more vs t ≡ true
  each-grows [] t h = refl
  each-grows (v ∷ vs) t h =
      let (p, q) = and_parts _ _ h in
      and_both _ _ (suit-one image there more g v t p) (each-grows vs t q)

  -- a body, by what its class says
  kind-grows : (n : Name) (o : Option ArrayInfo) (text : Bool) (b : ObjectBody) → kind_fits image there n o text b ≡ true → kind_fits image more n o text b ≡ true
  kind-grows n (Some a) text (Array vs) h = each-grows vs (component_type image a) h
  kind-grows n None true (Text us) h = refl
  kind-grows n None false (Fields vs) h = suit-grows image there more g vs (slots_of image n) h
  kind-grows n (Some a) text (Fields vs) h = absurd cc
  kind-grows n (Some a) text (Text us) h = absurd cc
  kind-grows n None true (Fields vs) h = absurd cc
  kind-grows n None true (Array vs) h = absurd cc
  kind-grows n None false (Array vs) h = absurd cc
  kind-grows n None false (Text us) h = absurd cc

  -- all bodies
  pub bodies-grow : (heap : Heap) → BodiesFit image there heap → BodiesFit image more heap
  bodies-grow heap fit n b e = kind-grows n (array_at image n.class) (is_text n.class) b (fit n b e)

-- ---- values of a class

-- a type fits one that it is equal to
pub same-fits : (image : Program) → Subs image → (t u : FlowType) → t ≡ u → type_fits (superclasses image) t u ≡ true
same-fits image subs t u e = subst (λ z. type_fits (superclasses image) t z ≡ true) e (type-refl (superclasses image) subs.tree t)

-- an object suits a place of its class's type
pub ref-suits : (image : Program) → Subs image → (there : Name → Bool) (n : Name) (t : FlowType) → there n ≡ true → class_type image n.class ≡ t → suits image there (Ref n) t ≡ true
ref-suits image subs there n t h e = and_both _ _ h (same-fits image subs (class_type image n.class) t e)

-- ---- first values

-- what an element or a field without dimensions holds at first
zero-ground : (image : Program) (there : Name → Bool) (e : Elem) → suits image there (zero_of (record { dims = 0; elem = e })) (ground_type image e) ≡ true
zero-ground image there elem.Byte = refl
zero-ground image there elem.Char = refl
zero-ground image there elem.Double = refl
zero-ground image there elem.Float = refl
zero-ground image there elem.Int = refl
zero-ground image there elem.Long = refl
zero-ground image there elem.Short = refl
zero-ground image there elem.Boolean = refl
zero-ground image there (elem.Object n) = refl

-- what a value of a descriptor is at first suits its type
pub zero-suits : (image : Program) (there : Name → Bool) (d : Desc) → suits image there (zero_of d) (desc_type image d) ≡ true
zero-suits image there d = by_test (d.dims == 0)
  where
    by_test : (b : Bool) → suits image there (if b then zero_of (record { dims = 0; elem = d.elem }) else Null) (if b then ground_type image d.elem else flow.Array d.dims (element_type image d.elem)) ≡ true
    by_test true = zero-ground image there d.elem
    by_test false = refl

-- so do those of fields, one by one
zeros-of : (image : Program) (there : Name → Bool) (fs : List FieldInfo) → all_suit image there (map (λ f. zero_of f.desc) fs) (map (λ f. desc_type image f.desc) fs) ≡ true
zeros-of image there [] = refl
zeros-of image there (f ∷ fs) = and_both _ _ (zero-suits image there f.desc) (zeros-of image there fs)

-- a new object's fields
pub zeros-suit : (image : Program) (there : Name → Bool) (c : ℕ) → all_suit image there (zeros_of image c) (field_types image c) ≡ true
zeros-suit image there c = zeros-of image there (instance_fields image c)

-- what an element of a new array holds is of the type of its elements
pub element-zero : (image : Program) (there : Name → Bool) (c : ℕ) (a : ArrayInfo) → array_at image c ≡ Some a → suits image there (element_zero image c) (component_type image a) ≡ true
element-zero image there c a e = rw e (by_test (a.dims == 1))
  where
    by_test : (b : Bool) → suits image there (if b then zero_of (record { dims = 0; elem = a.elem }) else Null) (if b then ground_type image a.elem else flow.Array (a.dims - 1) (element_type image a.elem)) ≡ true
    by_test true = zero-ground image there a.elem
    by_test false = refl

-- copies of a value that suits
pub each-replicate : (image : Program) (there : Name → Bool) (n : ℕ) (v : Value) (t : FlowType) → suits image there v t ≡ true → each_suits image there (replicate n v) t ≡ true
each-replicate image there zero v t h = refl
each-replicate image there (suc n) v t h = and_both _ _ h (each-replicate image there n v t h)
