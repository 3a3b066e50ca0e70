-- Makes, lengths, monitors and returns: what is asked is right, and the frame fits after.
use Rattle.std.proofs.Common.{◌≡◌, ◌∙◌, sym, ap, subst, refl, ℕ, zero, suc, ◌<◌, Bool, true, false, List, [], ◌∷◌, map, take, length, Option, Some, None, inl, inr, arith}
use Rattle.std.specs.Prelude.{◌==◌, if◌then◌else◌, replicate, slice_get, is_none}
use Rattle.std.specs.List.{list_any}
use Rattle.std.specs.Option.{option_to_list}
use Rattle.std.proofs.lemmas.List.{length-reverse, length-replicate, length-map}
use Rattle.jvm_base.specs.Words.{from}
use Rattle.jvm_base.specs.declared.desc.Desc.{Desc}
use Rattle.jvm_base.specs.declared.frame.Frame.{Frame}
use Rattle.jvm_base.specs.declared.frame.Phase.TheVariants as phase
use Rattle.jvm_base.specs.declared.name.Name.{Name}
use Rattle.jvm_base.specs.declared.value.Value.{Value}
use Rattle.jvm_base.specs.declared.value.Value.TheVariants.{Int, Long, Ref, Null}
use Rattle.code_table.specs.declared.code.Placed.{Placed}
use Rattle.code_table.specs.declared.op.Op.{Op}
use Rattle.code_table.specs.declared.op.Op.TheVariants as op
use Rattle.code_table.specs.declared.opcode.TheConstants as code
use Rattle.program_image.specs.declared.info.MethodInfo.{MethodInfo}
use Rattle.program_image.specs.Program.{Program, target_of}
use Rattle.program_image.specs.Words.{instruction_at}
use Rattle.flow_types.specs.Tree.{superclasses}
use Rattle.flow_types.specs.declared.flow_type.FlowType.{FlowType}
use Rattle.flow_types.specs.declared.flow_type.FlowType.TheVariants as flow
use Rattle.flow_types.proofs.ListLaws.{and_parts, and_both}
use Rattle.instruction_table.specs.ClassTypes.{class_type, desc_type, method_at, owner_of, result_of, class_in}
use Rattle.instruction_table.specs.Needs.{is_int, is_long, is_reference, is_array, needs_rules}
use Rattle.instruction_table.specs.Rows.{row, falls, value, reference, return_need, returned_object, is_of_kind}
use Rattle.instruction_table.specs.Working.{site_of, end_rules, row_rules}
use Rattle.instruction_table.specs.declared.row.Need.TheVariants as need
use Rattle.instruction_table.specs.declared.row.Gives.TheVariants as gives
use Rattle.instruction_table.specs.declared.row.Row.TheVariants as row_of
use Rattle.instruction_table.specs.declared.rule.TheConstants as rule
use Rattle.instruction_table.proofs.FitLists.{append_empty, if_empty}
use Rattle.frame_ops.specs.declared.answer.Fault.TheVariants as kind
use Rattle.frame_ops.specs.Moves.{Raises, Asks as AsksIt}
use Rattle.frame_ops.specs.Operands.{with_reference, with_sizes, is_negative_size, returned}
use Rattle.frame_ops.specs.Stepping.{operand_count, call_values}
use Rattle.machine_state.specs.declared.request.Request.TheVariants.{Len, Make, Enter, Exit}
use Rattle.machine_state.specs.Complete.{left_by}
use Rattle.machine_state.specs.Instructions.{makes_array, size_of, of_reference, returns}
use Rattle.machine_state.specs.Next.{Next, Needs, answered}
use Rattle.frame_soundness.specs.AcceptedProgram.{Types, Accepted, AreArrays}
use Rattle.frame_soundness.specs.Frames.{FrameFits}
use Rattle.frame_soundness.specs.Meeting.{all_met}
use Rattle.frame_soundness.specs.Values.{all_held}
use Rattle.frame_soundness.proofs.HeldLaws.{all-met, class-shape, ClassShape, a_class, an_array}
use Rattle.frame_soundness.proofs.RowLaws.{all_there}
use Rattle.machine_soundness.specs.Asks.{Asks}
use Rattle.machine_soundness.specs.Bodies.{all_suit}
use Rattle.step_soundness.proofs.FrameLaws.{Answers}
use Rattle.step_soundness.proofs.HeapPlans.{is_own, desc-own, need-suits, array-of-type, Stands}
use Rattle.step_soundness.proofs.NextLaws.{some_is, asked}
use Rattle.step_soundness.proofs.Requests.{Owes}
use Rattle.step_soundness.proofs.StorePlans.{answers_of, operands_of, there_all}

met-length : (image : Program) (n : ℕ) (vs : List Value) → all_met image (replicate n need.Int) vs ≡ true → length (take n vs) ≡ n
met-length image zero vs h = refl
met-length image (suc n) [] h = absurd cc
met-length image (suc n) (v ∷ vs) h = ap suc (met-length image n vs ((and_parts _ _ h).1))

-- the type of a method's result is a descriptor's
result-own : (image : Program) (m : ℕ) (t : FlowType) → result_of image m ≡ Some t → is_own t ≡ true
result-own image m t e = by_method (method_at image m) e
  where
    by_desc : (o : Option Desc) → from None (λ d. Some (desc_type image d)) o ≡ Some t → is_own t ≡ true
    by_desc None e = absurd cc
    by_desc (Some d) e = subst (λ x. is_own x ≡ true) (some_is e) (desc-own image d)

    by_method : (o : Option MethodInfo) → from None (λ i. from None (λ d. Some (desc_type image d)) i.desc.ret) o ≡ Some t → is_own t ≡ true
    by_method None e = absurd cc
    by_method (Some i) e = by_desc i.desc.ret e

-- what a return of the result's kind needs is a value of the result
return-value : (x y : Bool) (t : FlowType) → is_own t ≡ true → (if x then is_int t else (if y then is_long t else is_reference t)) ≡ true → (if x then need.Int else (if y then need.Long else (if is_reference t then need.Fitting rule.RETURN t else returned_object))) ≡ value rule.RETURN t
return-value true y flow.Int o h = refl
return-value true y _ o h = absurd cc
return-value false true flow.Long o h = refl
return-value false true _ o h = absurd cc
return-value false false flow.Null o h = refl
return-value false false (flow.Class c) o h = refl
return-value false false (flow.Array d e) o h = refl
return-value false false _ o h = absurd cc

none-is : (o : Option FlowType) → is_none o ≡ true → o ≡ None
none-is None h = refl
none-is (Some t) h = absurd cc

module _ (image : Program) (types : Types) (accepted : Accepted image types) (there : Name → Bool) (f : Frame) (s : FrameFits image types there f) where
  abbrev pub At : Op → Type 0
  At o = Stands image types accepted there f s o

  abbrev pub Fine : Next → Type 0
  Fine n = Owes image types accepted there f n

  pub array-length : At op.ArrayLength → Fine (asked (of_reference (λ n. Needs (Len n)) f.stack.values) (with_reference 0 AsksIt f.stack.values))
  array-length i = by_values f.stack.values (there_all image types accepted there f s) (operands_of image types accepted there f s op.ArrayLength (need.Array ∷ []) (gives.One flow.Int) i refl)
    where
      by_shape : (n : Name) → there n ≡ true → ClassShape (class_type image n.class) → is_array (class_type image n.class) ≡ true → Fine (Needs (Len n))
      by_shape n h (a_class x q) m = let g : false ≡ true = rw q at m in absurd cc
      by_shape n h (an_array d e q) m =
          let (a, p, u, v) = array-of-type image n.class d e q in
          record { types_of = flow.Int ∷ []; asks = (a, record { is_here = h; array = p }, refl); answers = answers_of image types accepted there f s op.ArrayLength (need.Array ∷ []) (gives.One flow.Int) i refl refl refl }

      by_values : (vs : List Value) → all_there there vs ≡ true → all_met image (need.Array ∷ []) vs ≡ true → Fine (asked (of_reference (λ n. Needs (Len n)) vs) (with_reference 0 AsksIt vs))
      by_values [] h m = absurd cc
      by_values (Ref n ∷ vs) h m = by_shape n ((and_parts _ _ h).0) (class-shape image n.class) ((and_parts _ _ m).0)
      by_values (Null ∷ vs) h m = refl
      by_values (Int a ∷ vs) h m = absurd cc
      by_values (Long a ∷ vs) h m = absurd cc

  -- ---- makes

  weaker : (ts us : List FlowType) → ((more : Name → Bool) (vs : List Value) → all_held image f.method more vs us ≡ true → all_held image f.method more vs ts ≡ true) → Answers image types accepted there f ts → Answers image types accepted there f us
  weaker ts us k a more g v b = a more g v (k more (option_to_list v) b)

  pub new : (i0 : ℕ) → At (op.New i0) → Fine (Needs (Make (class_in (target_of image f.method f.at)) []))
  new i0 i =
      let c : ℕ = class_in (target_of image f.method f.at) in
      let a : Answers image types accepted there f (flow.Fresh f.at ∷ []) = answers_of image types accepted there f s (op.New i0) [] (gives.One (flow.Fresh f.at)) i refl refl refl in
      record {
        types_of = class_type image c ∷ [];
        asks = (i.linked.1, refl);
        answers = weaker (flow.Fresh f.at ∷ []) (class_type image c ∷ []) (λ more vs b. fresh more vs (subst (λ t. all_held image f.method more vs (t ∷ []) ≡ true) (i.linked.2) b)) a;
      }
    where
      fresh : (more : Name → Bool) (vs : List Value) → all_held image f.method more vs (flow.Class (class_in (target_of image f.method f.at)) ∷ []) ≡ true → all_held image f.method more vs (flow.Fresh f.at ∷ []) ≡ true
      fresh more [] b = absurd cc
      fresh more (v ∷ []) b = b
      fresh more (v ∷ w ∷ vs) b = b

  sized : (c : ℕ) (ns : List ℕ) → 0 < length ns → AreArrays image (length ns) c → Asks image there (Make c ns) (class_type image c ∷ [])
  sized c [] l h = absurd (omega arith)
  sized c (n ∷ ns) l h = (h, refl)

  pub made-arrays : (o : Op) (c n : ℕ) (t : FlowType) → At o → falls o ≡ true → row image f.method f.at o ≡ row_of.Acts (replicate n need.Int) (gives.One t) → operand_count o ≡ n → 0 < n → class_type image c ≡ t → AreArrays image n c → Fine (asked (makes_array c n f.stack.values) (with_sizes n f.stack.values))
  made-arrays o c n t i fl r k l q h = by_test (list_any is_negative_size (take n f.stack.values))
    where
      m : all_met image (replicate n need.Int) f.stack.values ≡ true
      m = operands_of image types accepted there f s o (replicate n need.Int) (gives.One t) i r

      e : length (map size_of (call_values n f.stack.values)) ≡ n
      e = length-map (call_values n f.stack.values) size_of ∙ length-reverse (take n f.stack.values) ∙ met-length image n f.stack.values m

      by_test : (b : Bool) → Fine (asked (makes_array c n f.stack.values) (if b then Raises kind.NegativeSize else AsksIt))
      by_test true = refl
      by_test false =
          let z : length (replicate n need.Int) ≡ n = length-replicate n need.Int in
          record {
            types_of = class_type image c ∷ [];
            asks = sized c (map size_of (call_values n f.stack.values)) (let y = e in omega arith) (subst (λ x. AreArrays image x c) (sym e) h);
            answers = subst (λ x. Answers image types accepted there f (x ∷ [])) (sym q) (answers_of image types accepted there f s o (replicate n need.Int) (gives.One t) i fl r (k ∙ sym z));
          }

  -- ---- monitors

  pub monitor : (k : ℕ) → At (op.Monitor k) → Fine (asked (of_reference (λ n. Needs (if k == code.MONITORENTER then Enter n else Exit n false)) f.stack.values) (with_reference 0 AsksIt f.stack.values))
  monitor k i = by_values f.stack.values (there_all image types accepted there f s) (operands_of image types accepted there f s (op.Monitor k) (reference ∷ []) gives.Nothing i refl)
    where
      answered-here : Answers image types accepted there f []
      answered-here = answers_of image types accepted there f s (op.Monitor k) (reference ∷ []) gives.Nothing i refl refl refl

      left-op : (p : Placed) → p.op ≡ op.Monitor k → left_by image f (Some p) ≡ answered image None f
      left-op p q = rw q refl

      left-is : (p : Placed) → instruction_at image f.method f.at ≡ Some p → p.op ≡ op.Monitor k → left_by image f (instruction_at image f.method f.at) ≡ answered image None f
      left-is p e q = ap (left_by image f) e ∙ left-op p q

      by_test : (n : Name) → there n ≡ true → (b : Bool) → Fine (Needs (if b then Enter n else Exit n false))
      by_test n h true = record { types_of = []; asks = (h, refl); answers = answered-here }
      by_test n h false = (h, inr (record { types_of = []; asks = (h, refl); answers = answered-here }, left-is i.placed i.is_placed i.is_op))

      by_values : (vs : List Value) → all_there there vs ≡ true → all_met image (reference ∷ []) vs ≡ true → Fine (asked (of_reference (λ n. Needs (if k == code.MONITORENTER then Enter n else Exit n false)) vs) (with_reference 0 AsksIt vs))
      by_values [] h m = absurd cc
      by_values (Ref n ∷ vs) h m = by_test n ((and_parts _ _ h).0) (k == code.MONITORENTER)
      by_values (Null ∷ vs) h m = refl
      by_values (Int a ∷ vs) h m = absurd cc
      by_values (Long a ∷ vs) h m = absurd cc

  -- ---- returns

  result-suits : (k : ℕ) → At (op.Return k) → all_suit image there (option_to_list (returned k f.stack.values)) (option_to_list (result_of image f.method)) ≡ true
  result-suits k i = by_kind (k == code.RETURN) (result_of image f.method) refl i.keeps
    where
      by_values : (t : FlowType) → is_own t ≡ true → (vs : List Value) → all_there there vs ≡ true → all_met image (value rule.RETURN t ∷ []) vs ≡ true → all_suit image there (option_to_list (slice_get vs 0)) (t ∷ []) ≡ true
      by_values t o [] h m = absurd cc
      by_values t o (v ∷ vs) h m = and_both _ _ (need-suits image there rule.RETURN t v o ((and_parts _ _ h).0) ((and_parts _ _ m).0)) refl

      by_result : (t : FlowType) → result_of image f.method ≡ Some t → needs_rules (superclasses image) (owner_of image f.method) (return_need k (Some t) ∷ []) s.work.stack ≡ [] → is_of_kind k t ≡ true → all_suit image there (option_to_list (slice_get f.stack.values 0)) (t ∷ []) ≡ true
      by_result t q h z =
          let o : is_own t ≡ true = result-own image f.method t q in
          let e : return_need k (Some t) ≡ value rule.RETURN t = return-value (k == code.IRETURN) (k == code.LRETURN) t o z in
          let m : all_met image (return_need k (Some t) ∷ []) f.stack.values ≡ true = all-met image accepted.subs.tree f.method there (return_need k (Some t) ∷ []) f.stack.values s.work.stack s.fits.stack.held h in
          by_values t o f.stack.values (there_all image types accepted there f s) (subst (λ x. all_met image (x ∷ []) f.stack.values ≡ true) e m)

      by_kind : (b : Bool) (ret : Option FlowType) → result_of image f.method ≡ ret → row_rules (site_of image f.method) (if b then row_of.Ends [] (is_none ret) else row_of.Ends (return_need k ret ∷ []) (from false (is_of_kind k) ret)) s.work ≡ [] → all_suit image there (option_to_list (if b then None else slice_get f.stack.values 0)) (option_to_list ret) ≡ true
      by_kind true None q h = refl
      by_kind true (Some t) q h = absurd cc
      by_kind false None q h =
          let (x, y) = append_empty (needs_rules (superclasses image) (owner_of image f.method) (return_need k None ∷ []) s.work.stack) (end_rules false s.work.fresh) h in
          absurd cc
      by_kind false (Some t) q h =
          let (x, y) = append_empty (needs_rules (superclasses image) (owner_of image f.method) (return_need k (Some t) ∷ []) s.work.stack) (end_rules (is_of_kind k t) s.work.fresh) h in
          by_result t q x (if_empty (is_of_kind k t) 12 ((append_empty (if is_of_kind k t then [] else 12 ∷ []) _ y).0))

  pub return : (k : ℕ) → At (op.Return k) → Fine (returns f.lock (returned k f.stack.values))
  return k i = by_lock f.lock s.lock
    where
      by_lock : (o : Option Name) → from true there o ≡ true → Fine (returns o (returned k f.stack.values))
      by_lock None h = result-suits k i
      by_lock (Some n) h = (h, inl (record { value = returned k f.stack.values; left = left-is i.placed i.is_placed i.is_op; suits = result-suits k i }))
        where
          left-is : (p : Placed) → instruction_at image f.method f.at ≡ Some p → p.op ≡ op.Return k → left_by image f (instruction_at image f.method f.at) ≡ record f { phase = phase.Unlock (returned k f.stack.values) }
          left-is p e q = rw (e, q) refl
