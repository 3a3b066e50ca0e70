-- Fields and elements that are read: what is asked is right, and the frame fits after.
use Rattle.std.proofs.Common.{◌≡◌, ◌∙◌, sym, ap, subst, refl, ℕ, suc, ◌-◌, Bool, true, false, List, [], ◌∷◌, ◌++◌, drop, length, Option, Some, None, ◌⊎◌, inl, inr, arith}
use Rattle.std.specs.Prelude.{◌&&◌, ◌==◌, if◌then◌else◌, nat_lt, slice_get, ℤ}
use Rattle.std.specs.Option.{option_to_list}
use Rattle.std.proofs.lemmas.Bool.{eqb-true}
use Rattle.std.proofs.lemmas.Bool.Decides.{nat_tests}
use Rattle.jvm_base.specs.Words.{from}
use Rattle.jvm_base.specs.declared.desc.Desc.{Desc}
use Rattle.jvm_base.specs.declared.desc.Elem.{Elem}
use Rattle.jvm_base.specs.declared.desc.Elem.TheVariants as elem
use Rattle.jvm_base.specs.declared.frame.Frame.{Frame}
use Rattle.jvm_base.specs.declared.name.Name.{Name}
use Rattle.jvm_base.specs.declared.value.Value.{Value}
use Rattle.jvm_base.specs.declared.value.Value.TheVariants.{Int, Long, Ref, Null}
use Rattle.code_table.specs.declared.code.Placed.{Placed}
use Rattle.code_table.specs.declared.op.Op.{Op}
use Rattle.code_table.specs.declared.op.Op.TheVariants as op
use Rattle.program_image.specs.declared.info.ArrayInfo.{ArrayInfo}
use Rattle.program_image.specs.declared.info.Target.{Target}
use Rattle.program_image.specs.declared.info.Target.TheVariants as target
use Rattle.program_image.specs.Program.{Program, target_of}
use Rattle.program_image.specs.Words.{instruction_at}
use Rattle.flow_types.specs.Tree.{superclasses}
use Rattle.flow_types.specs.Types.{type_fits}
use Rattle.flow_types.specs.TypeLists.{is_operand}
use Rattle.flow_types.specs.declared.element.Element.{Element}
use Rattle.flow_types.specs.declared.element.Element.TheVariants.{Primitive, Object}
use Rattle.flow_types.specs.declared.element.Primitive.{Primitive as PrimitiveType}
use Rattle.flow_types.specs.declared.element.Primitive.TheVariants as primitive
use Rattle.flow_types.specs.declared.flow_type.FlowType.{FlowType}
use Rattle.flow_types.specs.declared.flow_type.FlowType.TheVariants as flow
use Rattle.flow_types.proofs.ListLaws.{and_parts, and_both}
use Rattle.flow_types.proofs.TypeLaws.{type-refl}
use Rattle.instruction_table.specs.ClassTypes.{plain, class_type, desc_type, ground_type, element_type, array_at, value_type, owner_of, field_class_in}
use Rattle.instruction_table.specs.Needs.{holds, has_part, is_array_of, is_reference_array, judged, need_rules, needs_rules}
use Rattle.instruction_table.specs.Rows.{row, falls, value, object_of, array_loads, array_load}
use Rattle.instruction_table.specs.Working.{site_of, part_of, given, row_rules, next}
use Rattle.instruction_table.specs.declared.row.Need.{Need}
use Rattle.instruction_table.specs.declared.row.Need.TheVariants as need
use Rattle.instruction_table.specs.declared.row.Gives.{Gives}
use Rattle.instruction_table.specs.declared.row.Gives.TheVariants as gives
use Rattle.instruction_table.specs.declared.row.Row.{Row}
use Rattle.instruction_table.specs.declared.row.Row.TheVariants as row_of
use Rattle.instruction_table.specs.declared.rule.TheConstants as rule
use Rattle.instruction_table.proofs.FitLists.{append_empty}
use Rattle.instruction_table.proofs.NeedLaws.{judged-view}
use Rattle.frame_ops.specs.Moves.{Asks as AsksIt, frame_moved}
use Rattle.frame_ops.specs.Operands.{with_reference}
use Rattle.frame_ops.specs.Stepping.{operand_count}
use Rattle.machine_state.specs.Instructions.{put_value, loads, gets, puts, field_next}
use Rattle.machine_state.specs.Next.{answered}
use Rattle.frame_soundness.specs.AcceptedProgram.{Types, FlowsTo, Instruction, Accepted, IsLinked, HasField, next_at}
use Rattle.frame_soundness.specs.Fitting.{Both, Fits}
use Rattle.frame_soundness.specs.Frames.{FrameFits}
use Rattle.frame_soundness.specs.Holding.{field_types, slots_of, component_type}
use Rattle.frame_soundness.specs.Meeting.{met, all_met}
use Rattle.frame_soundness.specs.Values.{is_there, erased}
use Rattle.frame_soundness.proofs.HeldLaws.{ClassShape, a_class, an_array, class-shape, all-met, Reference, nothing_there, object, reference as reference_is, part-below, null-shape}
use Rattle.frame_soundness.proofs.RowLaws.{all_there, all-there, held-append, held-drop, inits-held, uncons}
use Rattle.frame_soundness.proofs.MoveLaws.{in-table}
use Rattle.machine_soundness.specs.Bodies.{suits}
use Rattle.step_soundness.proofs.FrameLaws.{Answers, arrives-held}
use Rattle.step_soundness.proofs.NextLaws.{some_is, asked}
use Rattle.step_soundness.proofs.Requests.{Owes}

-- ---- types of descriptors

-- a type that a value has by itself: an int, a long, or an initialised reference
abbrev pub is_own : FlowType → Bool
is_own flow.Int = true
is_own flow.Long = true
is_own flow.Null = true
is_own (flow.Class c) = true
is_own (flow.Array d e) = true
is_own _ = false

ground-own : (image : Program) (e : Elem) → is_own (ground_type image e) ≡ true
ground-own image elem.Byte = refl
ground-own image elem.Char = refl
ground-own image elem.Double = refl
ground-own image elem.Float = refl
ground-own image elem.Int = refl
ground-own image elem.Long = refl
ground-own image elem.Short = refl
ground-own image elem.Boolean = refl
ground-own image (elem.Object n) = refl

pub desc-own : (image : Program) (d : Desc) → is_own (desc_type image d) ≡ true
desc-own image d = by_test (d.dims == 0)
  where
    by_test : (b : Bool) → is_own (if b then ground_type image d.elem else flow.Array d.dims (element_type image d.elem)) ≡ true
    by_test true = ground-own image d.elem
    by_test false = refl

pub own-erased : (image : Program) (method : ℕ) (t : FlowType) → is_own t ≡ true → erased image method t ≡ t
own-erased image method flow.Int h = refl
own-erased image method flow.Long h = refl
own-erased image method flow.Null h = refl
own-erased image method (flow.Class c) h = refl
own-erased image method (flow.Array d e) h = refl
own-erased image method _ h = absurd cc

pub own-operand : (t : FlowType) → is_own t ≡ true → is_operand t ≡ true
own-operand flow.Int h = refl
own-operand flow.Long h = refl
own-operand flow.Null h = refl
own-operand (flow.Class c) h = refl
own-operand (flow.Array d e) h = refl
own-operand _ h = absurd cc

-- a value that meets the need of a descriptor's type suits it
pub need-suits : (image : Program) (there : Name → Bool) (r : ℕ) (t : FlowType) (v : Value) → is_own t ≡ true → is_there there v ≡ true → met image (value r t) v ≡ true → suits image there v t ≡ true
need-suits image there r flow.Int (Int a) o h m = refl
need-suits image there r flow.Int _ o h m = absurd cc
need-suits image there r flow.Long (Long a) o h m = refl
need-suits image there r flow.Long _ o h m = absurd cc
need-suits image there r (flow.Class c) Null o h m = refl
need-suits image there r (flow.Class c) (Ref n) o h m = and_both _ _ h m
need-suits image there r (flow.Class c) _ o h m = absurd cc
need-suits image there r (flow.Array d e) Null o h m = refl
need-suits image there r (flow.Array d e) (Ref n) o h m = and_both _ _ h m
need-suits image there r (flow.Array d e) _ o h m = absurd cc
need-suits image there r flow.Null Null o h m = refl
need-suits image there r flow.Null (Ref n) o h m = and_both _ _ h m
need-suits image there r flow.Null _ o h m = absurd cc
need-suits image there r _ v o h m = absurd cc

-- narrowing keeps an int an int
pub narrowed-suits : (image : Program) (there : Name → Bool) (d : Desc) (v : Value) (t : FlowType) → suits image there v t ≡ true → suits image there (put_value d v) t ≡ true
narrowed-suits image there d (Int a) t h = by_test (d.dims == 0)
  where
    by_test : (b : Bool) → suits image there (if b then put_value (record { dims = 0; elem = d.elem }) (Int a) else Int a) t ≡ true
    by_test true = h
    by_test false = h
narrowed-suits image there d (Long a) t h = h
narrowed-suits image there d (Ref n) t h = h
narrowed-suits image there d Null t h = h

and_false : (b : Bool) → (b && false) ≡ false
and_false true = refl
and_false false = refl

slots-plain : (image : Program) (n : Name) → (n.class == 1) ≡ false → slots_of image n ≡ field_types image n.class
slots-plain image n h = rw (h, and_false (n.node == 255)) refl

pub slot-field : (image : Program) (n : Name) (place : ℕ) (t : FlowType) → HasField image n.class place t → slice_get (slots_of image n) place ≡ Some t
slot-field image n place t h = ap (λ x. slice_get x place) (slots-plain image n h.no_holder) ∙ h.slot

-- ---- elements

-- the type of the values of a primitive type that arrays hold
abbrev pub primitive_value : PrimitiveType → FlowType
primitive_value primitive.Long = flow.Long
primitive_value _ = flow.Int

primitive-ground : (image : Program) (k : PrimitiveType) (e : Elem) → holds k (element_type image e) ≡ true → ground_type image e ≡ primitive_value k
primitive-ground image primitive.Long elem.Long h = refl
primitive-ground image primitive.Long (elem.Object n) h = absurd cc
primitive-ground image primitive.Long _ h = absurd cc
primitive-ground image _ elem.Long h = absurd cc
primitive-ground image _ (elem.Object n) h = absurd cc
primitive-ground image _ _ h = refl

-- an array class has a type of arrays, and no other class has
pub array-of-type : (image : Program) (c d : ℕ) (e : Element) → class_type image c ≡ flow.Array d e → (a : ArrayInfo) × (array_at image c ≡ Some a) × (a.dims ≡ d) × (element_type image a.elem ≡ e)
array-of-type image c d e = by_array (array_at image c) refl
  where
    array-parts : {d u : ℕ} {e f : Element} → flow.Array d e ≡ flow.Array u f → (d ≡ u) × (e ≡ f)
    array-parts h = (cc, cc)

    by_array : (o : Option ArrayInfo) → array_at image c ≡ o → from (flow.Class (plain image c)) (λ a. flow.Array a.dims (element_type image a.elem)) o ≡ flow.Array d e → (a : ArrayInfo) × (array_at image c ≡ Some a) × (a.dims ≡ d) × (element_type image a.elem ≡ e)
    by_array None q h = absurd cc
    by_array (Some a) q h = let (x, y) = array-parts h in (a, q, x, y)

-- the elements of an array of a primitive type
pub filled-element : (image : Program) (k : PrimitiveType) (c : ℕ) → is_array_of k (class_type image c) ≡ true → (a : ArrayInfo) × (array_at image c ≡ Some a) × (component_type image a ≡ primitive_value k)
filled-element image k c h = by_shape (class-shape image c)
  where
    by_shape : ClassShape (class_type image c) → (a : ArrayInfo) × (array_at image c ≡ Some a) × (component_type image a ≡ primitive_value k)
    by_shape (a_class x q) = let g : false ≡ true = rw q at h in absurd cc
    by_shape (an_array d e q) =
        let g : (d == 1 && holds k e) ≡ true = rw q at h in
        let (x, y) = and_parts _ _ g in
        let (a, p, u, v) = array-of-type image c d e q in
        let z : holds k (element_type image a.elem) ≡ true = subst (λ z. holds k z ≡ true) (sym v) y in
        let o : (a.dims == 1) ≡ true = subst (λ z. (z == 1) ≡ true) (sym u) x in
        (a, p, rw o (primitive-ground image k a.elem z))

-- the part of an array's type is the type of its elements
pub part-component : (image : Program) (a : ArrayInfo) → has_part a.dims (element_type image a.elem) ≡ true → component_type image a ≡ part_of a.dims (element_type image a.elem)
part-component image a h = by_test (a.dims == 1) refl
  where
    one-deep : (n : ℕ) (e : Elem) → n ≡ 1 → has_part n (element_type image e) ≡ true → ground_type image e ≡ part_of n (element_type image e)
    one-deep n (elem.Object x) q h = rw q refl
    one-deep n _ q h = absurd (grind (arith, nat_tests))

    deep : (n : ℕ) (x : Element) → (n == 1) ≡ false → has_part n x ≡ true → flow.Array (n - 1) x ≡ part_of n x
    deep n (Primitive k) q h = refl
    deep n (Object c) q h = let l : nat_lt 1 n ≡ true = grind (arith, nat_tests) in rw l refl

    by_test : (b : Bool) → (a.dims == 1) ≡ b → (if b then ground_type image a.elem else flow.Array (a.dims - 1) (element_type image a.elem)) ≡ part_of a.dims (element_type image a.elem)
    by_test true q = one-deep a.dims a.elem (eqb-true a.dims 1 q) h
    by_test false q = deep a.dims (element_type image a.elem) q h

-- the operand of an array load that gives references
second-array : (t : FlowType) → judged t (is_reference_array t) 9 ++ [] ≡ [] → (t ≡ flow.Null) ⊎ ((d : ℕ) × (e : Element) × (t ≡ flow.Array d e) × (has_part d e ≡ true))
second-array t h = by_type t ((judged-view t (is_reference_array t) 9 ((append_empty (judged t (is_reference_array t) 9) [] h).0)).1)
  where
    by_type : (t : FlowType) → is_reference_array t ≡ true → (t ≡ flow.Null) ⊎ ((d : ℕ) × (e : Element) × (t ≡ flow.Array d e) × (has_part d e ≡ true))
    by_type flow.Null h = inl refl
    by_type (flow.Array d e) h = inr (d, e, refl, h)
    by_type _ h = absurd cc

-- ---- a frame at an instruction

module _ (image : Program) (types : Types) (accepted : Accepted image types) (there : Name → Bool) (f : Frame) (s : FrameFits image types there f) where
  -- the instruction is this one
  pub record Stands (o : Op) : Type 0 where
    pub placed : Placed
    pub is_placed : instruction_at image f.method f.at ≡ Some placed
    pub is_op : placed.op ≡ o
    pub keeps : row_rules (site_of image f.method) (row image f.method f.at o) s.work ≡ []
    pub after : falls o ≡ true → FlowsTo image (next_at image f.method f.at o s.work) (types f.method placed.next)
    pub linked : IsLinked image o (target_of image f.method f.at)

  pub stands : (i : Instruction image types f.method f.at s.work) (o : Op) → i.placed.op ≡ o → Stands o
  stands i o e = record {
    placed = i.placed;
    is_placed = i.is_placed;
    is_op = e;
    keeps = subst (λ x. row_rules (site_of image f.method) (row image f.method f.at x) s.work ≡ []) e i.keeps;
    after = subst (λ x. falls x ≡ true → FlowsTo image (next_at image f.method f.at x s.work) (types f.method i.placed.next)) e i.after;
    linked = subst (λ x. IsLinked image x (target_of image f.method f.at)) e (accepted.links f.method f.at i.placed i.is_placed);
  }

  same-work : (more : Name → Bool) (k : FrameFits image types more f) → k.work ≡ s.work
  same-work more k = some_is (sym k.is_typed ∙ s.is_typed)

  answered-is : (p : Placed) (n : ℕ) (v : Option Value) → instruction_at image f.method f.at ≡ Some p → operand_count p.op ≡ n → answered image v f ≡ frame_moved f p.next (option_to_list v ++ drop n f.stack.values)
  answered-is p n v e t = rw (e, t) refl

  -- an answer of the types that the instruction gives
  pub answers : (o : Op) (needs : List Need) (g : Gives) → Stands o → falls o ≡ true → row image f.method f.at o ≡ row_of.Acts needs g → operand_count o ≡ length needs → Answers image types accepted there f (given g s.work.stack)
  answers o needs g i fl r t more k v b =
      let h : Frame = frame_moved f i.placed.next (option_to_list v ++ drop (length needs) f.stack.values) in
      let w : Fits image f.method more f.locals f.stack.values s.work = subst (λ x. Fits image f.method more f.locals f.stack.values x) (same-work more k) k.fits in
      let to : FlowsTo image (next (site_of image f.method) (row_of.Acts needs g) s.work) (types f.method i.placed.next) = subst (λ x. FlowsTo image (next (site_of image f.method) x s.work) (types f.method i.placed.next)) r (i.after fl) in
      let fit : FrameFits image types more h = arrives-held image types accepted more f h (next (site_of image f.method) (row_of.Acts needs g) s.work) k refl refl refl w.locals_held (held-append image f.method more (option_to_list v) (drop (length needs) f.stack.values) (given g s.work.stack) (drop (length needs) s.work.stack) b (held-drop image f.method more (length needs) f.stack.values s.work.stack w.stack.held)) to in
      subst (λ x. FrameFits image types more x) (sym (answered-is i.placed (length needs) v i.is_placed (ap operand_count i.is_op ∙ t))) fit

  -- the same of an initialiser's call
  pub answers-init : (o : Op) (needs : List Need) (c : ℕ) (g : Gives) → Stands o → falls o ≡ true → row image f.method f.at o ≡ row_of.Inits needs c g → operand_count o ≡ suc (length needs) → Answers image types accepted there f (given g s.work.stack)
  answers-init o needs c g i fl r t more k v b =
      let h : Frame = frame_moved f i.placed.next (option_to_list v ++ drop (suc (length needs)) f.stack.values) in
      let w : Fits image f.method more f.locals f.stack.values s.work = subst (λ x. Fits image f.method more f.locals f.stack.values x) (same-work more k) k.fits in
      let to : FlowsTo image (next (site_of image f.method) (row_of.Inits needs c g) s.work) (types f.method i.placed.next) = subst (λ x. FlowsTo image (next (site_of image f.method) x s.work) (types f.method i.placed.next)) r (i.after fl) in
      let z = inits-held image f.method more needs c g f.locals f.stack.values (option_to_list v) s.work w (subst (λ x. row_rules (site_of image f.method) x s.work ≡ []) r i.keeps) b in
      let fit : FrameFits image types more h = arrives-held image types accepted more f h (next (site_of image f.method) (row_of.Inits needs c g) s.work) k refl refl refl (z.0) (z.1) to in
      subst (λ x. FrameFits image types more x) (sym (answered-is i.placed (suc (length needs)) v i.is_placed (ap operand_count i.is_op ∙ t))) fit

  -- the operands meet the needs
  pub operands : (o : Op) (needs : List Need) (g : Gives) → Stands o → row image f.method f.at o ≡ row_of.Acts needs g → all_met image needs f.stack.values ≡ true
  operands o needs g i r =
      let h : row_rules (site_of image f.method) (row_of.Acts needs g) s.work ≡ [] = subst (λ x. row_rules (site_of image f.method) x s.work ≡ []) r i.keeps in
      all-met image accepted.subs.tree f.method there needs f.stack.values s.work.stack s.fits.stack.held h

  pub values-there : all_there there f.stack.values ≡ true
  values-there = all-there image f.method there f.stack.values s.work.stack s.fits.stack.held

  -- ---- fields

  pub field-get : (k i0 : ℕ) (d : Desc) → (k == 180) ≡ true → Stands (op.Field k i0 d) → Owes image types accepted there f (asked (field_next k d (target_of image f.method f.at) f.stack.values) (with_reference 0 AsksIt f.stack.values))
  field-get k i0 d e i = by_target (target_of image f.method f.at) refl i.linked
    where
      needs-of : Option Target → List Need
      needs-of t = object_of image (field_class_in t) ∷ []

      is-row : row image f.method f.at (op.Field k i0 d) ≡ row_of.Acts (needs-of (target_of image f.method f.at)) (gives.One (desc_type image d))
      is-row = rw e refl

      is-takes : operand_count (op.Field k i0 d) ≡ 1
      is-takes = rw e refl

      by_values : (c place : ℕ) (vs : List Value) → all_there there vs ≡ true → all_met image (need.Fitting rule.REFERENCE (flow.Class c) ∷ []) vs ≡ true → ((k : ℕ) → type_fits (superclasses image) (class_type image k) (flow.Class c) ≡ true → HasField image k place (desc_type image d)) → Owes image types accepted there f (asked (gets place vs) (with_reference 0 AsksIt vs))
      by_values c place [] h m l = absurd cc
      by_values c place (Int a ∷ vs) h m l = absurd cc
      by_values c place (Long a ∷ vs) h m l = absurd cc
      by_values c place (Null ∷ vs) h m l = refl
      by_values c place (Ref n ∷ vs) h m l =
          let hf : HasField image n.class place (desc_type image d) = l n.class ((and_parts _ _ m).0) in
          record {
            types_of = desc_type image d ∷ [];
            asks = (desc_type image d, record { is_here = (and_parts _ _ h).0; kind = hf.kind; slot = slot-field image n place (desc_type image d) hf }, refl);
            answers = answers (op.Field k i0 d) (needs-of (target_of image f.method f.at)) (gives.One (desc_type image d)) i refl is-row is-takes;
          }

      by_target : (t : Option Target) → target_of image f.method f.at ≡ t → IsLinked image (op.Field k i0 d) t → Owes image types accepted there f (asked (field_next k d t f.stack.values) (with_reference 0 AsksIt f.stack.values))
      by_target t q (c, place, u, pc, l) =
          let m : all_met image (needs-of t) f.stack.values ≡ true = subst (λ x. all_met image (needs-of x) f.stack.values ≡ true) q (operands (op.Field k i0 d) _ _ i is-row) in
          let m2 : all_met image (needs-of (Some (target.Field c place false))) f.stack.values ≡ true = subst (λ x. all_met image (needs-of x) f.stack.values ≡ true) u m in
          let m3 : all_met image (need.Fitting rule.REFERENCE (flow.Class c) ∷ []) f.stack.values ≡ true = subst (λ x. all_met image (need.Fitting rule.REFERENCE (flow.Class x) ∷ []) f.stack.values ≡ true) pc m2 in
          subst (λ x. Owes image types accepted there f (asked (field_next k d x f.stack.values) (with_reference 0 AsksIt f.stack.values))) (sym u) (subst (λ b. Owes image types accepted there f (asked (if b then gets place f.stack.values else puts d place f.stack.values) (with_reference 0 AsksIt f.stack.values))) (sym e) (by_values c place f.stack.values values-there m3 l))

  -- ---- array loads

  abbrev LoadOwes : ℕ → Row → Type 0
  LoadOwes o r = array_load o ≡ r → Owes image types accepted there f (asked (loads f.stack.values) (with_reference 1 AsksIt f.stack.values))

  load-filled : (o : ℕ) → Stands (op.ArrayLoad o) → (j : PrimitiveType) (t : FlowType) → t ≡ primitive_value j → LoadOwes o (row_of.Acts (need.Int ∷ need.Primitives j ∷ []) (gives.One t))
  load-filled o i j t p r = by_values f.stack.values values-there (operands (op.ArrayLoad o) (need.Int ∷ need.Primitives j ∷ []) (gives.One t) i r)
    where
      by_values : (vs : List Value) → all_there there vs ≡ true → all_met image (need.Int ∷ need.Primitives j ∷ []) vs ≡ true → Owes image types accepted there f (asked (loads vs) (with_reference 1 AsksIt vs))
      by_values (Int a ∷ Null ∷ vs) h m = refl
      by_values (Int a ∷ Ref n ∷ vs) h m =
          let (x, q, y) = filled-element image j n.class ((and_parts _ _ m).0) in
          record {
            types_of = t ∷ [];
            asks = (x, t, record { is_here = (and_parts _ _ h).0; array = q }, subst (λ z. type_fits (superclasses image) (component_type image x) z ≡ true) (y ∙ sym p) (type-refl (superclasses image) accepted.subs.tree (component_type image x)), refl);
            answers = answers (op.ArrayLoad o) (need.Int ∷ need.Primitives j ∷ []) (gives.One t) i refl r refl;
          }
      by_values (Int a ∷ Int b ∷ vs) h m = absurd cc
      by_values (Int a ∷ Long b ∷ vs) h m = absurd cc
      by_values (Int a ∷ []) h m = absurd cc
      by_values _ h m = absurd cc

  -- ---- arrays of references

  pub array-below : (c d : ℕ) (e : Element) → type_fits (superclasses image) (class_type image c) (flow.Array d e) ≡ true → (a : ArrayInfo) × (array_at image c ≡ Some a) × (type_fits (superclasses image) (flow.Array a.dims (element_type image a.elem)) (flow.Array d e) ≡ true)
  array-below c d e h = by_shape (class-shape image c)
    where
      by_shape : ClassShape (class_type image c) → (a : ArrayInfo) × (array_at image c ≡ Some a) × (type_fits (superclasses image) (flow.Array a.dims (element_type image a.elem)) (flow.Array d e) ≡ true)
      by_shape (a_class x q) = let g : false ≡ true = rw q at h in absurd cc
      by_shape (an_array u x q) =
          let (a, p, y, z) = array-of-type image c u x q in
          let g : type_fits (superclasses image) (flow.Array u x) (flow.Array d e) ≡ true = rw q at h in
          (a, p, rw (y, z) g)

  load-parts : (o : ℕ) → Stands (op.ArrayLoad o) → LoadOwes o (row_of.Acts (need.Int ∷ need.References ∷ []) gives.Part)
  load-parts o i r = by_both f.stack.values s.work.stack refl s.fits.stack keeps-here (operands (op.ArrayLoad o) (need.Int ∷ need.References ∷ []) gives.Part i r)
    where
      keeps-here : needs_rules (superclasses image) (owner_of image f.method) (need.Int ∷ need.References ∷ []) s.work.stack ≡ []
      keeps-here = subst (λ x. row_rules (site_of image f.method) x s.work ≡ []) r i.keeps

      given-is : (t : FlowType) (d : ℕ) (e : Element) (ts : List FlowType) → s.work.stack ≡ t ∷ flow.Array d e ∷ ts → given gives.Part s.work.stack ≡ part_of d e ∷ []
      given-is t d e ts q = rw q refl

      with_array : (t : FlowType) (d : ℕ) (e : Element) (ts : List FlowType) (u : Value) (a : ℤ) (vs : List Value) → s.work.stack ≡ t ∷ flow.Array d e ∷ ts → is_there there u ≡ true → has_part d e ≡ true → Reference image accepted.subs.tree f.method there (flow.Array d e) u → Owes image types accepted there f (asked (loads (Int a ∷ u ∷ vs)) (with_reference 1 AsksIt (Int a ∷ u ∷ vs)))
      with_array t d e ts u a vs w h k (nothing_there x) = rw x refl
      with_array t d e ts u a vs w h k (object n x g) =
          let (b, p, y) = array-below n.class d e g in
          let (y1, y3) = part-below image accepted.subs.tree b.dims (element_type image b.elem) d e y k in
          let z : component_type image b ≡ part_of b.dims (element_type image b.elem) = part-component image b y1 in
          let hn : there n ≡ true = subst (λ v. is_there there v ≡ true) x h in
          let given2 : given gives.Part s.work.stack ≡ part_of d e ∷ [] = given-is t d e ts w in
          rw x (record {
            types_of = part_of d e ∷ [];
            asks = (b, part_of d e, record { is_here = hn; array = p }, subst (λ v. type_fits (superclasses image) v (part_of d e) ≡ true) (sym z) y3, refl);
            answers = subst (λ v. Answers image types accepted there f v) given2 (answers (op.ArrayLoad o) (need.Int ∷ need.References ∷ []) gives.Part i refl r refl);
          })

      by_null : (u : Value) (a : ℤ) (vs : List Value) → Reference image accepted.subs.tree f.method there flow.Null u → Owes image types accepted there f (asked (loads (Int a ∷ u ∷ vs)) (with_reference 1 AsksIt (Int a ∷ u ∷ vs)))
      by_null u a vs (nothing_there x) = rw x refl
      by_null u a vs (object n x g) = absurd (null-shape image accepted.subs.tree f.method there _ (class-shape image n.class) g)

      by_type : (a : ℤ) (u : Value) (vs : List Value) (t r : FlowType) (ts : List FlowType) → s.work.stack ≡ t ∷ r ∷ ts → Both image f.method there (Int a ∷ u ∷ vs) (t ∷ r ∷ ts) → (r ≡ flow.Null) ⊎ ((d : ℕ) × (e : Element) × (r ≡ flow.Array d e) × (has_part d e ≡ true)) → Owes image types accepted there f (asked (loads (Int a ∷ u ∷ vs)) (with_reference 1 AsksIt (Int a ∷ u ∷ vs)))
      by_type a u vs t r ts w b (inl q) =
          let x = uncons image f.method there (Int a) (u ∷ vs) t (r ∷ ts) b in
          let y = uncons image f.method there u vs r ts x.rest in
          by_null u a vs (reference_is image accepted.subs.tree f.method there u flow.Null (refl, refl) (subst (λ z. type_fits (superclasses image) (value_type image u) (erased image f.method z) ≡ true) q ((and_parts _ _ y.one).1)))
      by_type a u vs t r ts w b (inr (d, e, q, k)) =
          let x = uncons image f.method there (Int a) (u ∷ vs) t (r ∷ ts) b in
          let y = uncons image f.method there u vs r ts x.rest in
          with_array t d e ts u a vs (w ∙ ap (λ z. t ∷ z ∷ ts) q) ((and_parts _ _ y.one).0) k (reference_is image accepted.subs.tree f.method there u (flow.Array d e) (refl, refl) (subst (λ z. type_fits (superclasses image) (value_type image u) (erased image f.method z) ≡ true) q ((and_parts _ _ y.one).1)))

      by_both : (vs : List Value) (ts : List FlowType) → s.work.stack ≡ ts → Both image f.method there vs ts → needs_rules (superclasses image) (owner_of image f.method) (need.Int ∷ need.References ∷ []) ts ≡ [] → all_met image (need.Int ∷ need.References ∷ []) vs ≡ true → Owes image types accepted there f (asked (loads vs) (with_reference 1 AsksIt vs))
      by_both (Int a ∷ u ∷ vs) (t ∷ r ∷ ts) w b m k =
          let (x, y) = append_empty (need_rules (superclasses image) (owner_of image f.method) need.Int t) _ m in
          by_type a u vs t r ts w b (second-array r y)
      by_both (Int a ∷ u ∷ vs) (t ∷ []) w b m k = let (x, y) = append_empty (need_rules (superclasses image) (owner_of image f.method) need.Int t) _ m in absurd cc
      by_both (Int a ∷ u ∷ vs) [] w b m k = absurd cc
      by_both (Int a ∷ []) ts w b m k = absurd cc
      by_both _ ts w b m k = absurd cc

  pub load : (o : ℕ) → Stands (op.ArrayLoad o) → Owes image types accepted there f (asked (loads f.stack.values) (with_reference 1 AsksIt f.stack.values))
  load o i = in-table (LoadOwes o) array_loads (row_of.Acts (need.Int ∷ need.References ∷ []) gives.Part) o (load-filled o i primitive.Int flow.Int refl, (load-filled o i primitive.Long flow.Long refl, (load-filled o i primitive.Byte flow.Int refl, (load-filled o i primitive.Char flow.Int refl, (load-filled o i primitive.Short flow.Int refl, tt))))) (load-parts o i) refl
