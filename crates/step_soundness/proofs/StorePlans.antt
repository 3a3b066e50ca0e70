-- Fields, statics and elements that are written, and statics that are read: what is asked is right, and
-- the frame fits after.
use Rattle.std.proofs.Common.{◌≡◌, sym, ap, subst, refl, ℕ, ◌-◌, ◌<◌, Bool, true, false, List, [], ◌∷◌, length, Option, Some, None}
use Rattle.std.specs.Prelude.{◌==◌, if◌then◌else◌, nat_lt, slice_get}
use Rattle.std.specs.Prelude.{ℤ, pos}
use Rattle.jvm_base.specs.Words.{from}
use Rattle.jvm_base.specs.declared.desc.Desc.{Desc}
use Rattle.jvm_base.specs.declared.frame.Frame.{Frame}
use Rattle.jvm_base.specs.declared.name.Name.{Name}
use Rattle.jvm_base.specs.declared.value.Value.{Value}
use Rattle.jvm_base.specs.declared.value.Value.TheVariants.{Int, Long, Ref, Null}
use Rattle.code_table.specs.declared.op.Op.{Op}
use Rattle.code_table.specs.declared.op.Op.TheVariants as op
use Rattle.code_table.specs.declared.opcode.TheConstants as code
use Rattle.program_image.specs.declared.info.ArrayInfo.{ArrayInfo}
use Rattle.program_image.specs.declared.info.ClassInfo.{ClassInfo}
use Rattle.program_image.specs.declared.info.Target.{Target}
use Rattle.program_image.specs.declared.info.Target.TheVariants as target
use Rattle.program_image.specs.Program.{Program, target_of}
use Rattle.program_image.specs.Subclass.{is_sub_of, part_in, part_of as part_class}
use Rattle.flow_types.specs.Tree.{superclasses}
use Rattle.flow_types.specs.Types.{type_fits}
use Rattle.flow_types.specs.declared.element.Element.{Element}
use Rattle.flow_types.specs.declared.element.Element.TheVariants.{Primitive, Object}
use Rattle.flow_types.specs.declared.element.Primitive.{Primitive as PrimitiveType}
use Rattle.flow_types.specs.declared.element.Primitive.TheVariants as primitive
use Rattle.flow_types.specs.declared.flow_type.FlowType.TheVariants as flow
use Rattle.flow_types.proofs.ListLaws.{and_parts}
use Rattle.instruction_table.specs.ClassTypes.{class_type, desc_type, element_type, array_at, value_type, field_class_in}
use Rattle.instruction_table.specs.Needs.{has_part, is_reference_array}
use Rattle.instruction_table.specs.Rows.{row, falls, value, reference, array_stores, array_store}
use Rattle.instruction_table.specs.Working.{part_of, given}
use Rattle.instruction_table.specs.declared.row.Need.{Need}
use Rattle.instruction_table.specs.declared.row.Need.TheVariants as need
use Rattle.instruction_table.specs.declared.row.Gives.{Gives}
use Rattle.instruction_table.specs.declared.row.Gives.TheVariants as gives
use Rattle.instruction_table.specs.declared.row.Row.{Row}
use Rattle.instruction_table.specs.declared.row.Row.TheVariants as row_of
use Rattle.instruction_table.specs.declared.rule.TheConstants as rule
use Rattle.frame_ops.specs.Moves.{Asks as AsksIt}
use Rattle.frame_ops.specs.Narrowing.{as_byte, as_unit, as_short}
use Rattle.frame_ops.specs.Operands.{with_reference}
use Rattle.frame_ops.specs.Stepping.{operand_count}
use Rattle.machine_state.specs.declared.request.Request.TheVariants.{Get}
use Rattle.machine_state.specs.Bodies.{takes_value}
use Rattle.machine_state.specs.Instructions.{stored_value, stores, gets, puts, puts_static, static_plan, field_next}
use Rattle.machine_state.specs.Next.{Next, Needs}
use Rattle.machine_state.specs.PreMade.{holder}
use Rattle.frame_soundness.specs.AcceptedProgram.{Types, Accepted, IsLinked, HasField}
use Rattle.frame_soundness.specs.Frames.{FrameFits}
use Rattle.frame_soundness.specs.Holding.{static_types, component_type}
use Rattle.frame_soundness.specs.Meeting.{met, all_met}
use Rattle.frame_soundness.specs.Values.{is_there}
use Rattle.frame_soundness.proofs.HeldLaws.{class-shape, ClassShape, a_class, an_array}
use Rattle.frame_soundness.proofs.RowLaws.{all_there}
use Rattle.frame_soundness.proofs.MoveLaws.{in-table}
use Rattle.step_soundness.proofs.FrameLaws.{Answers}
use Rattle.step_soundness.proofs.HeapPlans.{desc-own, need-suits, narrowed-suits, slot-field, primitive_value, filled-element, part-component, array-of-type, Stands, answers, operands, values-there}
use Rattle.step_soundness.proofs.NextLaws.{asked}
use Rattle.step_soundness.proofs.Requests.{Owes}

-- a part is a reference
part-null : (image : Program) (d : ℕ) (e : Element) → type_fits (superclasses image) flow.Null (part_of d e) ≡ true
part-null image d (Primitive k) = refl
part-null image d (Object c) = by_less (nat_lt 1 d)
  where
    by_less : (l : Bool) → type_fits (superclasses image) flow.Null (if l then flow.Array (d - 1) (Object c) else flow.Class c) ≡ true
    by_less true = refl
    by_less false = refl

-- an array of references
pub list-array : (image : Program) (c : ℕ) → is_reference_array (class_type image c) ≡ true → (a : ArrayInfo) × (array_at image c ≡ Some a) × (has_part a.dims (element_type image a.elem) ≡ true)
list-array image c h = by_shape (class-shape image c)
  where
    by_shape : ClassShape (class_type image c) → (a : ArrayInfo) × (array_at image c ≡ Some a) × (has_part a.dims (element_type image a.elem) ≡ true)
    by_shape (a_class x q) = let g : false ≡ true = rw q at h in absurd cc
    by_shape (an_array d e q) =
        let (a, p, u, v) = array-of-type image c d e q in
        let g : has_part d e ≡ true = rw q at h in
        (a, p, rw (u, v) g)

-- the class of an array's parts
pub part-of-array : (image : Program) (c : ℕ) (a : ArrayInfo) → array_at image c ≡ Some a → part_class image.classes c ≡ a.part
part-of-array image c a e = by_class (slice_get image.classes c) e
  where
    by_array : (o : Option ArrayInfo) → o ≡ Some a → from None (λ x. x.part) o ≡ a.part
    by_array o e = ap (λ z. from None (λ (x : ArrayInfo). x.part) z) e

    by_class : (o : Option ClassInfo) → from None (λ k. k.array) o ≡ Some a → from None part_in o ≡ a.part
    by_class None e = absurd cc
    by_class (Some k) e = by_array k.array e

module _ (image : Program) (types : Types) (accepted : Accepted image types) (there : Name → Bool) (f : Frame) (s : FrameFits image types there f) where
  abbrev pub AtOp : Op → Type 0
  AtOp o = Stands image types accepted there f s o

  abbrev pub Ok : Next → Type 0
  Ok n = Owes image types accepted there f n

  pub answers_of : (o : Op) (needs : List Need) (g : Gives) → AtOp o → falls o ≡ true → row image f.method f.at o ≡ row_of.Acts needs g → operand_count o ≡ length needs → Answers image types accepted there f (given g s.work.stack)
  answers_of = answers image types accepted there f s

  pub operands_of : (o : Op) (needs : List Need) (g : Gives) → AtOp o → row image f.method f.at o ≡ row_of.Acts needs g → all_met image needs f.stack.values ≡ true
  operands_of = operands image types accepted there f s

  pub there_all : all_there there f.stack.values ≡ true
  there_all = values-there image types accepted there f s

  -- ---- puts into fields

  pub field-put : (k i0 : ℕ) (d : Desc) → (k == 180) ≡ false → AtOp (op.Field k i0 d) → Ok (asked (field_next k d (target_of image f.method f.at) f.stack.values) (with_reference 1 AsksIt f.stack.values))
  field-put k i0 d e i = by_target (target_of image f.method f.at) refl i.linked
    where
      needs-of : Option Target → List Need
      needs-of t = value rule.REFERENCE (desc_type image d) ∷ need.Own (field_class_in t) ∷ []

      is-row : row image f.method f.at (op.Field k i0 d) ≡ row_of.Acts (needs-of (target_of image f.method f.at)) gives.Nothing
      is-row = rw e refl

      is-takes : operand_count (op.Field k i0 d) ≡ 2
      is-takes = rw e refl

      by_values : (c place : ℕ) (vs : List Value) → all_there there vs ≡ true → all_met image (value rule.REFERENCE (desc_type image d) ∷ need.Own c ∷ []) vs ≡ true → ((k : ℕ) → type_fits (superclasses image) (class_type image k) (flow.Class c) ≡ true → HasField image k place (desc_type image d)) → Ok (asked (puts d place vs) (with_reference 1 AsksIt vs))
      by_values c place [] h m l = absurd cc
      by_values c place (v ∷ []) h m l = let (x, y) = and_parts (met image (value rule.REFERENCE (desc_type image d)) v) false m in absurd cc
      by_values c place (v ∷ Int a ∷ vs) h m l = let (x, y) = and_parts (met image (value rule.REFERENCE (desc_type image d)) v) false m in absurd cc
      by_values c place (v ∷ Long a ∷ vs) h m l = let (x, y) = and_parts (met image (value rule.REFERENCE (desc_type image d)) v) false m in absurd cc
      by_values c place (v ∷ Null ∷ vs) h m l = refl
      by_values c place (v ∷ Ref n ∷ vs) h m l =
          let (x, y) = and_parts _ _ m in
          let (p, q) = and_parts _ _ h in
          let hf : HasField image n.class place (desc_type image d) = l n.class ((and_parts _ _ y).0) in
          record {
            types_of = [];
            asks = (desc_type image d, record { is_here = (and_parts _ _ q).0; kind = hf.kind; slot = slot-field image n place (desc_type image d) hf }, narrowed-suits image there d v (desc_type image d) (need-suits image there rule.REFERENCE (desc_type image d) v (desc-own image d) p x), refl);
            answers = answers_of (op.Field k i0 d) (needs-of (target_of image f.method f.at)) gives.Nothing i refl is-row is-takes;
          }

      by_target : (t : Option Target) → target_of image f.method f.at ≡ t → IsLinked image (op.Field k i0 d) t → Ok (asked (field_next k d t f.stack.values) (with_reference 1 AsksIt f.stack.values))
      by_target t q (c, place, u, pc, l) =
          let m : all_met image (needs-of t) f.stack.values ≡ true = subst (λ x. all_met image (needs-of x) f.stack.values ≡ true) q (operands_of (op.Field k i0 d) _ _ i is-row) in
          let m2 : all_met image (needs-of (Some (target.Field c place false))) f.stack.values ≡ true = subst (λ x. all_met image (needs-of x) f.stack.values ≡ true) u m in
          subst (λ x. Ok (asked (field_next k d x f.stack.values) (with_reference 1 AsksIt f.stack.values))) (sym u) (subst (λ b. Ok (asked (if b then gets place f.stack.values else puts d place f.stack.values) (with_reference 1 AsksIt f.stack.values))) (sym e) (by_values c place f.stack.values there_all m2 l))

  -- ---- statics

  module _ (premade : (c : ℕ) → c < length image.classes → there (holder c) ≡ true) where
    pub static : (k i0 : ℕ) (d : Desc) → AtOp (op.Static k i0 d) → Ok (static_plan image k d (target_of image f.method f.at) f.stack.values).next
    static k i0 d i = by_target (target_of image f.method f.at) i.linked
      where
        get : (c place : ℕ) → (k == 178) ≡ true → c < length image.classes → slice_get (static_types image c) place ≡ Some (desc_type image d) → Ok (Needs (Get (holder c) place))
        get c place e b l = record {
          types_of = desc_type image d ∷ [];
          asks = (desc_type image d, record { is_here = premade c b; kind = accepted.classes.holders; slot = l }, refl);
          answers = answers_of (op.Static k i0 d) [] (gives.One (desc_type image d)) i refl (rw e refl) (rw e refl);
        }

        put : (c place : ℕ) (vs : List Value) → (k == 178) ≡ false → c < length image.classes → slice_get (static_types image c) place ≡ Some (desc_type image d) → all_there there vs ≡ true → all_met image (value rule.REFERENCE (desc_type image d) ∷ []) vs ≡ true → Ok (puts_static d (holder c) place vs)
        put c place [] e b l h m = absurd cc
        put c place (v ∷ vs) e b l h m = record {
          types_of = [];
          asks = (desc_type image d, record { is_here = premade c b; kind = accepted.classes.holders; slot = l }, narrowed-suits image there d v (desc_type image d) (need-suits image there rule.REFERENCE (desc_type image d) v (desc-own image d) ((and_parts _ _ h).0) ((and_parts _ _ m).0)), refl);
          answers = answers_of (op.Static k i0 d) (value rule.REFERENCE (desc_type image d) ∷ []) gives.Nothing i refl (rw e refl) (rw e refl);
        }

        by_kind : (c place : ℕ) → c < length image.classes → slice_get (static_types image c) place ≡ Some (desc_type image d) → (b : Bool) → (k == 178) ≡ b → Ok (if b then Needs (Get (holder c) place) else puts_static d (holder c) place f.stack.values)
        by_kind c place b l true e = get c place e b l
        by_kind c place b l false e = put c place f.stack.values e b l there_all (operands_of (op.Static k i0 d) (value rule.REFERENCE (desc_type image d) ∷ []) gives.Nothing i (rw e refl))

        by_target : (t : Option Target) → IsLinked image (op.Static k i0 d) t → Ok (static_plan image k d t f.stack.values).next
        by_target t (c, place, u, b, l) = subst (λ x. Ok (static_plan image k d x f.stack.values).next) (sym u) (by_kind c place b l (k == 178) refl)

  -- ---- array stores

  abbrev StoreOwes : ℕ → Row → Type 0
  StoreOwes o r = array_store o ≡ r → Ok (asked (stores o f.stack.values) (with_reference 2 AsksIt f.stack.values))

  -- a value of a kind stays one when it is stored
  stored-int : (o : ℕ) (a : ℤ) → type_fits (superclasses image) (value_type image (stored_value o (Int a))) flow.Int ≡ true
  stored-int o a = by_test (o == code.BASTORE) (o == code.CASTORE) (o == code.SASTORE)
    where
      by_test : (x y z : Bool) → type_fits (superclasses image) (value_type image (if x then Int (as_byte a) else (if y then Int (pos (as_unit a)) else (if z then Int (as_short a) else Int a)))) flow.Int ≡ true
      by_test true y z = refl
      by_test false true z = refl
      by_test false false true = refl
      by_test false false false = refl

  stored-there : (o : ℕ) (v : Value) → is_there there v ≡ true → is_there there (stored_value o v) ≡ true
  stored-there o (Int a) h = by_test (o == code.BASTORE) (o == code.CASTORE) (o == code.SASTORE)
    where
      by_test : (x y z : Bool) → is_there there (if x then Int (as_byte a) else (if y then Int (pos (as_unit a)) else (if z then Int (as_short a) else Int a))) ≡ true
      by_test true y z = refl
      by_test false true z = refl
      by_test false false true = refl
      by_test false false false = refl
  stored-there o (Long a) h = refl
  stored-there o (Ref n) h = h
  stored-there o Null h = refl

  -- what is stored, by its need
  abbrev kind_need : PrimitiveType → Need
  kind_need primitive.Long = need.Long
  kind_need _ = need.Int

  filled-suits : (o : ℕ) (j : PrimitiveType) (v : Value) → met image (kind_need j) v ≡ true → type_fits (superclasses image) (value_type image (stored_value o v)) (primitive_value j) ≡ true
  filled-suits o primitive.Long (Long a) m = refl
  filled-suits o primitive.Long _ m = absurd cc
  filled-suits o primitive.Boolean (Int a) m = stored-int o a
  filled-suits o primitive.Char (Int a) m = stored-int o a
  filled-suits o primitive.Float (Int a) m = stored-int o a
  filled-suits o primitive.Double (Int a) m = stored-int o a
  filled-suits o primitive.Byte (Int a) m = stored-int o a
  filled-suits o primitive.Short (Int a) m = stored-int o a
  filled-suits o primitive.Int (Int a) m = stored-int o a
  filled-suits o _ _ m = absurd cc

  store-filled : (o : ℕ) → AtOp (op.ArrayStore o) → (j : PrimitiveType) → StoreOwes o (row_of.Acts (kind_need j ∷ need.Int ∷ need.Primitives j ∷ []) gives.Nothing)
  store-filled o i j r = by_values f.stack.values there_all (operands_of (op.ArrayStore o) (kind_need j ∷ need.Int ∷ need.Primitives j ∷ []) gives.Nothing i r)
    where
      by_values : (vs : List Value) → all_there there vs ≡ true → all_met image (kind_need j ∷ need.Int ∷ need.Primitives j ∷ []) vs ≡ true → Ok (asked (stores o vs) (with_reference 2 AsksIt vs))
      by_values [] h m = absurd cc
      by_values (v ∷ []) h m = let (x, y) = and_parts (met image (kind_need j) v) false m in absurd cc
      by_values (v ∷ Int k ∷ Ref n ∷ vs) h m =
          let (x, y) = and_parts _ _ m in
          let (t1, t2) = and_parts _ _ h in
          let (a, p, z) = filled-element image j n.class ((and_parts _ _ y).0) in
          record {
            types_of = [];
            asks = (a, record { is_here = (and_parts _ _ t2).0; array = p }, record { is_here = stored-there o v t1; suits = λ g. subst (λ w. type_fits (superclasses image) (value_type image (stored_value o v)) w ≡ true) (sym z) (filled-suits o j v x) }, refl);
            answers = answers_of (op.ArrayStore o) (kind_need j ∷ need.Int ∷ need.Primitives j ∷ []) gives.Nothing i refl r refl;
          }
      by_values (v ∷ Int k ∷ Null ∷ vs) h m = refl
      by_values (v ∷ Int k ∷ Int b ∷ vs) h m = let (x, y) = and_parts (met image (kind_need j) v) false m in absurd cc
      by_values (v ∷ Int k ∷ Long b ∷ vs) h m = let (x, y) = and_parts (met image (kind_need j) v) false m in absurd cc
      by_values (v ∷ Int k ∷ []) h m = let (x, y) = and_parts (met image (kind_need j) v) false m in absurd cc
      by_values (v ∷ _ ∷ vs) h m = let (x, y) = and_parts (met image (kind_need j) v) false m in absurd cc

  store-parts : (o : ℕ) → AtOp (op.ArrayStore o) → StoreOwes o (row_of.Acts (reference ∷ need.Int ∷ need.References ∷ []) gives.Nothing)
  store-parts o i r = by_values f.stack.values there_all (operands_of (op.ArrayStore o) (reference ∷ need.Int ∷ need.References ∷ []) gives.Nothing i r)
    where
      suited : (c : ℕ) (a : ArrayInfo) (v : Value) → array_at image c ≡ Some a → has_part a.dims (element_type image a.elem) ≡ true → met image reference v ≡ true → takes_value image c (stored_value o v) ≡ true → type_fits (superclasses image) (value_type image (stored_value o v)) (component_type image a) ≡ true
      suited c a Null p l m g = subst (λ x. type_fits (superclasses image) flow.Null x ≡ true) (sym (part-component image a l)) (part-null image a.dims (element_type image a.elem))
      suited c a (Ref w) p l m g = by_part a.part refl (subst (λ x. from false (λ q. is_sub_of image.classes w.class q) x ≡ true) (part-of-array image c a p) g)
        where
          by_part : (x : Option ℕ) → a.part ≡ x → from false (λ q. is_sub_of image.classes w.class q) x ≡ true → type_fits (superclasses image) (class_type image w.class) (component_type image a) ≡ true
          by_part None x y = absurd cc
          by_part (Some q) x y = subst (λ t. type_fits (superclasses image) (class_type image w.class) t ≡ true) (accepted.classes.parts c q a p x) (accepted.subs.sub_fits w.class q y)
      suited c a _ p l m g = absurd cc

      by_values : (vs : List Value) → all_there there vs ≡ true → all_met image (reference ∷ need.Int ∷ need.References ∷ []) vs ≡ true → Ok (asked (stores o vs) (with_reference 2 AsksIt vs))
      by_values [] h m = absurd cc
      by_values (v ∷ []) h m = let (x, y) = and_parts (met image reference v) false m in absurd cc
      by_values (v ∷ Int j ∷ Ref n ∷ vs) h m =
          let (x, y) = and_parts _ _ m in
          let (t1, t2) = and_parts _ _ h in
          let (a, p, z) = list-array image n.class ((and_parts _ _ y).0) in
          record {
            types_of = [];
            asks = (a, record { is_here = (and_parts _ _ t2).0; array = p }, record { is_here = stored-there o v t1; suits = suited n.class a v p z x }, refl);
            answers = answers_of (op.ArrayStore o) (reference ∷ need.Int ∷ need.References ∷ []) gives.Nothing i refl r refl;
          }
      by_values (v ∷ Int j ∷ Null ∷ vs) h m = refl
      by_values (v ∷ Int j ∷ Int b ∷ vs) h m = let (x, y) = and_parts (met image reference v) false m in absurd cc
      by_values (v ∷ Int j ∷ Long b ∷ vs) h m = let (x, y) = and_parts (met image reference v) false m in absurd cc
      by_values (v ∷ Int j ∷ []) h m = let (x, y) = and_parts (met image reference v) false m in absurd cc
      by_values (v ∷ _ ∷ vs) h m = let (x, y) = and_parts (met image reference v) false m in absurd cc

  pub store : (o : ℕ) → AtOp (op.ArrayStore o) → Ok (asked (stores o f.stack.values) (with_reference 2 AsksIt f.stack.values))
  store o i = in-table (StoreOwes o) array_stores (row_of.Acts (reference ∷ need.Int ∷ need.References ∷ []) gives.Nothing) o (store-filled o i primitive.Int, (store-filled o i primitive.Long, (store-filled o i primitive.Byte, (store-filled o i primitive.Char, (store-filled o i primitive.Short, tt))))) (store-parts o i) refl
