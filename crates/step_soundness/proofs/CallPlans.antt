-- Calls: what is called may be called there, and the new frame fits at address 0; and returns.
use Rattle.std.proofs.Common.{◌≡◌, ◌∙◌, sym, ap, subst, refl, ℕ, zero, suc, ◌<◌, ◌≤◌, Bool, true, false, List, [], ◌∷◌, ◌++◌, map, take, drop, length, Option, Some, None, ◌⊎◌, inl, inr, arith}
use Rattle.std.specs.Prelude.{◌&&◌, ◌||◌, ◌==◌, not, if◌then◌else◌, nat_lt, slice_get, reverse, is_some, option_and_then}
use Rattle.std.specs.List.{flat_map}
use Rattle.std.specs.Option.{option_to_list}
use Rattle.std.proofs.lemmas.List.{length-reverse, reverse-reverse, length-map, length-append}
use mathlib.Core.List.{reverse-cons}
use Rattle.jvm_base.specs.Words.{from}
use Rattle.jvm_base.specs.declared.desc.Desc.{Desc}
use Rattle.jvm_base.specs.declared.desc.MethodDesc.{MethodDesc}
use Rattle.jvm_base.specs.declared.frame.Frame.{Frame}
use Rattle.jvm_base.specs.declared.name.Name.{Name}
use Rattle.jvm_base.specs.declared.value.Value.{Value}
use Rattle.jvm_base.specs.declared.value.Value.TheVariants.{Int, Long, Ref, Null}
use Rattle.class_format.specs.Flags.{is_synchronized}
use Rattle.code_table.specs.declared.code.Code.{Code as MethodCode}
use Rattle.code_table.specs.declared.op.Op.{Op}
use Rattle.code_table.specs.declared.op.Op.TheVariants as op
use Rattle.program_image.specs.declared.info.Body.{Body}
use Rattle.program_image.specs.declared.info.Body.TheVariants.{Code, Intrinsic, Abstract}
use Rattle.program_image.specs.declared.info.MethodInfo.{MethodInfo}
use Rattle.program_image.specs.declared.select.Selected.{Selected}
use Rattle.program_image.specs.declared.select.Selected.TheVariants.{Found, NoBody, NoInterface, NotPublic}
use Rattle.program_image.specs.Handlers.{code_of, body_code}
use Rattle.program_image.specs.Program.{Program, target_of}
use Rattle.program_image.specs.Selection.{select_of}
use Rattle.program_image.specs.Words.{super_of}
use Rattle.flow_types.specs.Tree.{superclasses, is_below}
use Rattle.flow_types.specs.Types.{type_fits}
use Rattle.flow_types.specs.TypeLists.{is_operand, AreOperands}
use Rattle.flow_types.specs.declared.element.Element.{Element}
use Rattle.flow_types.specs.declared.flow_type.FlowType.{FlowType}
use Rattle.flow_types.specs.declared.flow_type.FlowType.TheVariants as flow
use Rattle.flow_types.proofs.ListLaws.{and_parts, and_both}
use Rattle.flow_types.proofs.TreeLaws.{below-trans, below-from}
use Rattle.flow_types.proofs.TypeLaws.{top, type-trans}
use Rattle.instruction_table.specs.ClassTypes.{plain, class_type, desc_type, method_at, value_type, owner_of, flags_of, result_of, args_of, method_in, is_initialiser, is_static_method}
use Rattle.instruction_table.specs.Needs.{is_long, needs_rules}
use Rattle.instruction_table.specs.Rows.{row, value, object_of, arguments, result, is_direct, receiver_class}
use Rattle.instruction_table.specs.Working.{site_of, given, inits_rules, row_rules}
use Rattle.instruction_table.specs.declared.row.Need.{Need}
use Rattle.instruction_table.specs.declared.row.Need.TheVariants as need
use Rattle.instruction_table.specs.declared.row.Row.TheVariants as row_of
use Rattle.instruction_table.specs.declared.rule.TheConstants as rule
use Rattle.instruction_table.proofs.FitLists.{append_empty}
use Rattle.flow_verifier.specs.Methods.{with_half, spread, fitted, parameters}
use Rattle.frame_ops.specs.Moves.{Calls as CallsIt, Stuck as StuckThere}
use Rattle.frame_ops.specs.Operands.{is_wide, local_slots, with_reference, unless_null}
use Rattle.frame_ops.specs.Stepping.{call_count, call_values}
use Rattle.machine_state.specs.declared.request.Request.TheVariants.{Fault}
use Rattle.machine_state.specs.Calls.{max_depth, runs, runs_method, runs_selected, selected_call, receiver_call}
use Rattle.machine_state.specs.Classes.{body_of, is_without_receiver}
use Rattle.machine_state.specs.Frames.{padded, call_locals, receiver, lock_for, new_frame}
use Rattle.machine_state.specs.IntrinsicCalls.{calls_intrinsic}
use Rattle.machine_state.specs.Next.{Next, Calls, Needs, Who, answered}
use Rattle.machine_state.specs.PreMade.{holder}
use Rattle.frame_soundness.specs.AcceptedProgram.{Types, Instruction, Accepted, entry_types}
use Rattle.frame_soundness.specs.Frames.{FrameFits}
use Rattle.frame_soundness.specs.Holding.{desc_of, answer_type}
use Rattle.frame_soundness.specs.Meeting.{all_met}
use Rattle.frame_soundness.specs.Values.{is_there, held, all_held}
use Rattle.frame_soundness.proofs.HeldLaws.{all-up, class-shape, ClassShape, a_class, an_array}
use Rattle.frame_soundness.proofs.MoveLaws.{Safe, arguments-length, call-safe, init-met}
use Rattle.frame_soundness.proofs.RowLaws.{all_there, wide-alike}
use Rattle.machine_soundness.specs.Bodies.{suits, all_suit}
use Rattle.machine_soundness.specs.Levels.{CallsOne, IsThread}
use Rattle.step_soundness.proofs.DescLaws.{exactly_met, exact-take, exact-reverse}
use Rattle.step_soundness.proofs.FrameLaws.{Answers}
use Rattle.step_soundness.proofs.HeapPlans.{is_own, desc-own, own-erased, own-operand, need-suits, Stands, stands, answers, answers-init}
use Rattle.step_soundness.proofs.NextLaws.{some_is, asked, call-first}
use Rattle.step_soundness.proofs.Requests.{Owes}
use Rattle.step_soundness.proofs.SelectLaws.{Selects, selected, super-is, args-is, result-is, static-alone}
use Rattle.step_soundness.proofs.StorePlans.{operands_of, there_all}

-- ---- the locals of a new frame

module _ (image : Program) (method : ℕ) (there : Name → Bool) where
  spread-held : (vs : List Value) (ts : List FlowType) → all_held image method there vs ts ≡ true → AreOperands ts → all_held image method there (flat_map local_slots vs) (spread ts) ≡ true
  spread-held [] [] h k = refl
  spread-held (v ∷ vs) (t ∷ ts) h k =
      let (p, q) = and_parts _ _ h in
      one v t p k.0 (wide-alike image method there v t k.0 ((and_parts _ _ p).1)) (spread-held vs ts q k.1)
    where
      one : (v : Value) (t : FlowType) → held image method there v t ≡ true → is_operand t ≡ true → is_wide v ≡ is_long t → all_held image method there (flat_map local_slots vs) (spread ts) ≡ true → all_held image method there (local_slots v ++ flat_map local_slots vs) (with_half t ++ spread ts) ≡ true
      one (Long a) flow.Long h k e r = and_both _ _ h r
      one (Long a) _ h k e r = absurd cc
      one (Int a) flow.Long h k e r = absurd cc
      one (Int a) _ h k e r = and_both _ _ h r
      one (Ref n) flow.Long h k e r = absurd cc
      one (Ref n) _ h k e r = and_both _ _ h r
      one Null flow.Long h k e r = absurd cc
      one Null _ h k e r = and_both _ _ h r
  spread-held [] (t ∷ ts) h k = absurd cc
  spread-held (v ∷ vs) [] h k = absurd cc

  padded-held : (n : ℕ) (vs : List Value) (ts : List FlowType) → all_held image method there vs ts ≡ true → length ts ≤ n → all_held image method there (padded n vs) (fitted n ts) ≡ true
  padded-held zero [] [] h l = refl
  padded-held zero vs (t ∷ ts) h l = absurd (omega arith)
  padded-held zero (v ∷ vs) [] h l = absurd cc
  padded-held (suc n) [] [] h l = padded-held n [] [] h (omega arith)
  padded-held (suc n) (v ∷ vs) (t ∷ ts) h l = let (p, q) = and_parts _ _ h in and_both _ _ p (padded-held n vs ts q (omega arith))
  padded-held (suc n) [] (t ∷ ts) h l = absurd cc
  padded-held (suc n) (v ∷ vs) [] h l = absurd cc

-- who asks: the texts of Strings that are there are known, and its Thread object is there
pub record WhoFits (image : Program) (there : Name → Bool) (who : Who) : Type 0 where
  pub known : (n : Name) → there n ≡ true → n.class ≡ 2 → (us : List ℕ) × (who.known n ≡ Some us)
  pub object : IsThread image there who.object

-- ---- values of a call

-- they are of the types with which the method begins, and the receiver stands first
pub record CallFits (image : Program) (there : Name → Bool) (m : ℕ) (vs : List Value) : Type 0 where
  pub here : all_there there vs ≡ true
  pub held : all_held image m there vs (entry_types image m) ≡ true
  pub operands : AreOperands (entry_types image m)
  pub begins : (is_static_method image m ≡ true) ⊎ ((n : Name) × (us : List Value) × (vs ≡ Ref n ∷ us))

abbrev pub need_list : Program → List Desc → List Need
need_list image ds = map (λ d. value rule.REFERENCE (desc_type image d)) ds

module _ (image : Program) (method : ℕ) (there : Name → Bool) where
  own-held : (v : Value) (t : FlowType) → is_own t ≡ true → suits image there v t ≡ true → held image method there v t ≡ true
  own-held v t o h = subst (λ x. (is_there there v && type_fits (superclasses image) (value_type image v) x) ≡ true) (sym (own-erased image method t o)) h

  args-held : (ds : List Desc) (vs : List Value) → all_there there vs ≡ true → exactly_met image (need_list image ds) vs ≡ true → (all_held image method there vs (map (desc_type image) ds) ≡ true) × AreOperands (map (desc_type image) ds)
  args-held [] [] h m = (refl, tt)
  args-held (d ∷ ds) (v ∷ vs) h m =
      let (p, q) = and_parts _ _ h in let (x, y) = and_parts _ _ m in
      let (r, t) = args-held ds vs q y in
      (and_both _ _ (own-held v (desc_type image d) (desc-own image d) (need-suits image there rule.REFERENCE (desc_type image d) v (desc-own image d) p x)) r, (own-operand (desc_type image d) (desc-own image d), t))
  args-held [] (v ∷ vs) h m = absurd cc
  args-held (d ∷ ds) [] h m = absurd cc

there-append : (there : Name → Bool) (xs ys : List Value) → all_there there xs ≡ true → all_there there ys ≡ true → all_there there (xs ++ ys) ≡ true
there-append there [] ys h k = k
there-append there (x ∷ xs) ys h k = let (p, q) = and_parts _ _ h in and_both _ _ p (there-append there xs ys q k)

there-reverse : (there : Name → Bool) (xs : List Value) → all_there there xs ≡ true → all_there there (reverse xs) ≡ true
there-reverse there [] h = refl
there-reverse there (x ∷ xs) h = let (p, q) = and_parts _ _ h in rw (reverse-cons x xs) (there-append there (reverse xs) (x ∷ []) (there-reverse there xs q) (and_both _ _ p refl))

there-take : (there : Name → Bool) (n : ℕ) (xs : List Value) → all_there there xs ≡ true → all_there there (take n xs) ≡ true
there-take there zero xs h = refl
there-take there (suc n) [] h = refl
there-take there (suc n) (x ∷ xs) h = let (p, q) = and_parts _ _ h in and_both _ _ p (there-take there n xs q)

-- a method with code has it
pub coded-is : (image : Program) (m : ℕ) (c : MethodCode) → body_of image m ≡ Code c → code_of image m ≡ Some c
coded-is image m c e = by_method (method_at image m) e
  where
    by_method : (o : Option MethodInfo) → from Abstract (λ i. i.body) o ≡ Code c → option_and_then (λ (i : MethodInfo). body_code i.body) o ≡ Some c
    by_method None e = absurd cc
    by_method (Some i) e = ap body_code e

module _ (image : Program) (types : Types) (accepted : Accepted image types) (there : Name → Bool) (premade : (c : ℕ) → c < length image.classes → there (holder c) ≡ true) where
  new-lock : (m : ℕ) (vs : List Value) → owner_of image m < length image.classes → CallFits image there m vs → (is_some (lock_for image m vs) ≡ is_synchronized (flags_of image m)) × (from true there (lock_for image m vs) ≡ true)
  new-lock m vs b k = by_flag (is_synchronized (flags_of image m))
    where
      by_receiver : (vs : List Value) → all_there there vs ≡ true → (n : Name) × (us : List Value) × (vs ≡ Ref n ∷ us) → (is_some (receiver vs) ≡ true) × (from true there (receiver vs) ≡ true)
      by_receiver vs h (n, us, e) = let z : all_there there (Ref n ∷ us) ≡ true = subst (λ x. all_there there x ≡ true) e h in rw e (refl, (and_parts _ _ z).0)

      by_static : (t : Bool) → is_without_receiver image m ≡ t → (is_some (if t then Some (holder (owner_of image m)) else receiver vs) ≡ true) × (from true there (if t then Some (holder (owner_of image m)) else receiver vs) ≡ true)
      by_static true e = (refl, premade (owner_of image m) b)
      by_static false e = elim k.begins [ inl x ↦ let g : false ≡ true = sym e ∙ static-alone image m x in absurd cc | inr x ↦ by_receiver vs k.here x ]

      by_flag : (t : Bool) → (is_some (if not t then None else (if is_without_receiver image m then Some (holder (owner_of image m)) else receiver vs)) ≡ t) × (from true there (if not t then None else (if is_without_receiver image m then Some (holder (owner_of image m)) else receiver vs)) ≡ true)
      by_flag true = by_static (is_without_receiver image m) refl
      by_flag false = (refl, refl)

  pub new-frame : (m : ℕ) (c : MethodCode) (vs : List Value) → code_of image m ≡ Some c → owner_of image m < length image.classes → CallFits image there m vs → FrameFits image types there (new_frame image m vs c)
  new-frame m c vs ec b k =
      let e = accepted.entries m c ec in
      let to = e.flows in
      let l = new-lock m vs b k in
      let x : all_held image m there (call_locals c.max_locals vs) (fitted c.max_locals (parameters image m)) ≡ true = padded-held image m there c.max_locals (flat_map local_slots vs) (parameters image m) (spread-held image m there vs (entry_types image m) k.held k.operands) e.room in
      record {
        code = c;
        is_code = ec;
        room = refl;
        work = to.work;
        is_typed = to.is_work;
        fits = record {
          locals_held = all-up image accepted.subs.tree m there (call_locals c.max_locals vs) (fitted c.max_locals (parameters image m)) to.work.locals x to.under.locals;
          stack = record { held = all-up image accepted.subs.tree m there [] [] to.work.stack refl to.under.stack; operands = to.operands };
        };
        locked = l.0;
        lock = l.1;
      }

  -- a receiver that fits the method's class, and the arguments
  pub receiver-call : (m : ℕ) (d : MethodDesc) (n : Name) (us : List Value) → desc_of image m ≡ Some d → is_static_method image m ≡ false → (body_of image m ≡ Abstract → ⊥) → there n ≡ true → type_fits (superclasses image) (class_type image n.class) (flow.Class (plain image (owner_of image m))) ≡ true → all_there there us ≡ true → exactly_met image (need_list image d.args) us ≡ true → CallFits image there m (Ref n ∷ us)
  receiver-call m d n us ed st body hn fit h x =
      let (y, z) = both in
      record { here = and_both _ _ hn h; held = y; operands = z; begins = inr (n, us, refl) }
    where
      a : (all_held image m there us (map (desc_type image) (args_of image m)) ≡ true) × AreOperands (map (desc_type image) (args_of image m))
      a = subst (λ ds. (all_held image m there us (map (desc_type image) ds) ≡ true) × AreOperands (map (desc_type image) ds)) (sym (args-is image m d ed)) (args-held image m there d.args us h x)

      by_static : (t : Bool) → t ≡ false → (i : Bool) → (is_initialiser image m && not (owner_of image m == 0)) ≡ i → (all_held image m there (Ref n ∷ us) ((if t then [] else (if i then flow.FreshThis else flow.Class (plain image (owner_of image m))) ∷ []) ++ map (desc_type image) (args_of image m)) ≡ true) × AreOperands ((if t then [] else (if i then flow.FreshThis else flow.Class (plain image (owner_of image m))) ∷ []) ++ map (desc_type image) (args_of image m))
      by_static true e i q = absurd cc
      by_static false e true q = (and_both _ _ (and_both _ _ hn (subst (λ w. type_fits (superclasses image) (class_type image n.class) (flow.Class w) ≡ true) (accepted.classes.inits m st ((and_parts _ _ q).0) body) fit)) (a.0), (refl, a.1))
      by_static false e false q = (and_both _ _ (and_both _ _ hn fit) (a.0), (refl, a.1))

      both : (all_held image m there (Ref n ∷ us) (entry_types image m) ≡ true) × AreOperands (entry_types image m)
      both = by_static (is_static_method image m) st (is_initialiser image m && not (owner_of image m == 0)) refl

  -- no receiver, and the arguments
  pub static-call : (m : ℕ) (d : MethodDesc) (vs : List Value) → desc_of image m ≡ Some d → is_static_method image m ≡ true → all_there there vs ≡ true → exactly_met image (need_list image d.args) vs ≡ true → CallFits image there m vs
  static-call m d vs ed st h x =
      let (y, z) = args-held image m there d.args vs h x in
      let e : map (desc_type image) d.args ≡ entry_types image m = rw (st, args-is image m d ed) refl in
      record { here = h; held = subst (λ ts. all_held image m there vs ts ≡ true) e y; operands = subst AreOperands e z; begins = inl st }

module _ (image : Program) (types : Types) (accepted : Accepted image types) (there : Name → Bool) (premade : (c : ℕ) → c < length image.classes → there (holder c) ≡ true) (f : Frame) (s : FrameFits image types there f) where
  abbrev Here : Op → Type 0
  Here o = Stands image types accepted there f s o

  abbrev Right : Next → Type 0
  Right n = Owes image types accepted there f n

  -- the values of a call that takes these needs, the receiver first
  call-met : (qs : List Need) (n : ℕ) → length qs ≡ n → all_met image (reverse qs) f.stack.values ≡ true → exactly_met image qs (call_values n f.stack.values) ≡ true
  call-met qs n l m =
      let e : length (reverse qs) ≡ n = length-reverse qs ∙ l in
      let x : exactly_met image (reverse qs) (take n f.stack.values) ≡ true = subst (λ k. exactly_met image (reverse qs) (take k f.stack.values) ≡ true) e (exact-take image (reverse qs) f.stack.values m) in
      subst (λ z. exactly_met image z (call_values n f.stack.values) ≡ true) (reverse-reverse qs) (exact-reverse image (reverse qs) (take n f.stack.values) x)

  call-there : (n : ℕ) → all_there there (call_values n f.stack.values) ≡ true
  call-there n = there-reverse there (take n f.stack.values) (there-take there n f.stack.values (there_all image types accepted there f s))

  -- intrinsics are apart
  abbrev pub IntrinsicsFine : Type 0
  IntrinsicsFine = (who : Who) → WhoFits image there who → (o i : ℕ) (d : MethodDesc) → Here (op.Invoke o i d) → (m k : ℕ) (vs : List Value) → body_of image m ≡ Intrinsic k → desc_of image m ≡ Some d → CallFits image there m vs → Right (calls_intrinsic image who k f vs)

  module _ (intrinsics : IntrinsicsFine) (who : Who) (wf : WhoFits image there who) (o i0 : ℕ) (d : MethodDesc) (i : Here (op.Invoke o i0 d)) where
    calls-one : (m : ℕ) → desc_of image m ≡ Some d → CallsOne image f m
    calls-one m e = record { placed = i.placed; is_placed = i.is_placed; opcode = o; item = i0; desc = d; is_call = i.is_op; is_desc = e }

    -- a method that may be called on the values is entered
    runs-fine : (m : ℕ) (vs : List Value) → desc_of image m ≡ Some d → owner_of image m < length image.classes → CallFits image there m vs → Right (runs_method image who f m vs)
    runs-fine m vs e b k = by_body (body_of image m) refl
      where
        by_depth : (c : MethodCode) → code_of image m ≡ Some c → (t : Bool) → Right (if t then Calls m vs else Needs (Fault 32))
        by_depth c q true = record { code = c; is_code = q; fits = new-frame image types accepted there premade m c vs q b k; calls = calls-one m e }
        by_depth c q false = refl

        by_body : (body : Body) → body_of image m ≡ body → Right (runs image who f m vs body)
        by_body (Code c) q = by_depth c (coded-is image m c q) (nat_lt who.depth max_depth)
        by_body (Intrinsic k0) q = intrinsics who wf o i0 d i m k0 vs q e k
        by_body Abstract q = refl

    -- a method that was selected for a receiver
    pub record Chosen (n : Name) (m : ℕ) : Type 0 where
      pub not_static : is_static_method image m ≡ false
      pub has_body : body_of image m ≡ Abstract → ⊥
      pub is_desc : desc_of image m ≡ Some d
      pub fits : type_fits (superclasses image) (class_type image n.class) (flow.Class (plain image (owner_of image m))) ≡ true
      pub bound : owner_of image m < length image.classes

    selected-fine : (n : Name) (us : List Value) (t : Selected) → there n ≡ true → all_there there us ≡ true → exactly_met image (need_list image d.args) us ≡ true → ((m : ℕ) → t ≡ Found m → Chosen n m) → Right (runs_selected image who f (Ref n ∷ us) t)
    selected-fine n us (Found m) hn h x k =
        let c = k m refl in
        runs-fine m (Ref n ∷ us) c.is_desc c.bound (receiver-call image types accepted there premade m d n us c.is_desc c.not_static c.has_body hn c.fits h x)
    selected-fine n us NoBody hn h x k = refl
    selected-fine n us NoInterface hn h x k = refl
    selected-fine n us NotPublic hn h x k = refl

    -- ---- the ways of calling

    abbrev callee : ℕ
    callee = method_in (target_of image f.method f.at)

    abbrev current : ℕ
    current = owner_of image f.method

    needs-count : length (need_list image d.args) ≡ length d.args
    needs-count = length-map d.args (λ x. value rule.REFERENCE (desc_type image x))

    -- without a receiver
    alone : (o == 184) ≡ true → Right (runs_method image who f callee (call_values (call_count o d) f.stack.values))
    alone q =
        let st : is_static_method image callee ≡ true = i.linked.1 ∙ q in
        let n : ℕ = call_count o d in
        let l : length (need_list image d.args) ≡ n = needs-count ∙ rw q (omega arith) in
        let r : row image f.method f.at (op.Invoke o i0 d) ≡ row_of.Acts (arguments image d.args) (result image d.ret) = rw q refl in
        let m : all_met image (reverse (need_list image d.args)) f.stack.values ≡ true = operands_of image types accepted there f s (op.Invoke o i0 d) (arguments image d.args) (result image d.ret) i r in
        runs-fine callee (call_values n f.stack.values) i.linked.0 i.linked.2 (static-call image types accepted there premade callee d (call_values n f.stack.values) i.linked.0 st (call-there n) (call-met (need_list image d.args) n l m))

    -- the class that the receiver fits: by whether `invokespecial` calls, an initialiser is called, and
    -- the method itself is meant
    abbrev wanted : Bool → Bool → Bool → ℕ
    wanted a b e = if a && b then owner_of image callee else plain image (if a && not e then current else owner_of image callee)

    receiver-met : (o == 184) ≡ false → all_met image (arguments image d.args ++ need.Fitting rule.REFERENCE (flow.Class (wanted (o == 183) (is_initialiser image callee) (is_direct image current callee))) ∷ []) f.stack.values ≡ true
    receiver-met q = by_kind (o == 183 && is_initialiser image callee) refl
      where
        is-row : (b : Bool) → (o == 183 && is_initialiser image callee) ≡ b → row image f.method f.at (op.Invoke o i0 d) ≡ (if b then row_of.Inits (arguments image d.args) (owner_of image callee) (result image d.ret) else row_of.Acts (arguments image d.args ++ object_of image (receiver_class image current o callee) ∷ []) (result image d.ret))
        is-row b e = rw (q, e) refl

        by_kind : (b : Bool) → (o == 183 && is_initialiser image callee) ≡ b → all_met image (arguments image d.args ++ need.Fitting rule.REFERENCE (flow.Class (if b then owner_of image callee else plain image (if o == 183 && not (is_direct image current callee) then current else owner_of image callee))) ∷ []) f.stack.values ≡ true
        by_kind true e =
            let h : row_rules (site_of image f.method) (row_of.Inits (arguments image d.args) (owner_of image callee) (result image d.ret)) s.work ≡ [] = subst (λ x. row_rules (site_of image f.method) x s.work ≡ []) (is-row true e) i.keeps in
            let (x, y) = append_empty (needs_rules (superclasses image) current (arguments image d.args) s.work.stack) (inits_rules (site_of image f.method) (owner_of image callee) (drop (length (arguments image d.args)) s.work.stack)) h in
            init-met image f.method there accepted.subs (owner_of image callee) rule.REFERENCE (arguments image d.args) f.stack.values s.work.stack s.fits.stack.held x y
        by_kind false e = operands_of image types accepted there f s (op.Invoke o i0 d) (arguments image d.args ++ object_of image (receiver_class image current o callee) ∷ []) (result image d.ret) i (is-row false e)

    -- from the superclass of the current class
    from-super : (n : Name) (m : ℕ) → type_fits (superclasses image) (class_type image n.class) (flow.Class (plain image current)) ≡ true → from NoBody (λ c. select_of image.classes image.methods c callee false) (super_of image current) ≡ Found m → Chosen n m
    from-super n m g h = by_super (super_of image current) refl h
      where
        own-type : class_type image current ≡ flow.Class (plain image current)
        own-type = rw (accepted.classes.coded_in f.method s.code s.is_code) refl

        by_super : (c : Option ℕ) → super_of image current ≡ c → from NoBody (λ c. select_of image.classes image.methods c callee false) c ≡ Found m → Chosen n m
        by_super None e h = absurd cc
        by_super (Some c) e h =
            let x : Selects image c callee m = selected image types accepted c callee false m h in
            let b : is_below (superclasses image) current c ≡ true = below-from (superclasses image) accepted.subs.tree 1 current c (c, (super-is image.classes current ∙ e), refl) in
            let y : is_below (superclasses image) current (owner_of image m) ≡ true = below-trans (superclasses image) accepted.subs.tree current c (owner_of image m) b x.below in
            let z : type_fits (superclasses image) (class_type image current) (flow.Class (plain image (owner_of image m))) ≡ true = accepted.classes.supers_fit current (owner_of image m) x.no_array y in
            let w : type_fits (superclasses image) (flow.Class (plain image current)) (flow.Class (plain image (owner_of image m))) ≡ true = subst (λ t. type_fits (superclasses image) t (flow.Class (plain image (owner_of image m))) ≡ true) own-type z in
            record { not_static = x.not_static; has_body = x.has_body; is_desc = x.same ∙ i.linked.0; fits = type-trans (superclasses image) accepted.subs.tree (class_type image n.class) _ _ g w; bound = x.bound }

    abbrev special_next : Bool → Name → List Value → Next
    special_next b n us = if b then runs_method image who f callee (Ref n ∷ us) else runs_selected image who f (Ref n ∷ us) (from NoBody (λ c. select_of image.classes image.methods c callee false) (super_of image current))

    -- a receiver that is there
    on-object : (o == 184) ≡ false → (n : Name) (us : List Value) → there n ≡ true → all_there there us ≡ true → exactly_met image (need_list image d.args) us ≡ true → type_fits (superclasses image) (class_type image n.class) (flow.Class (wanted (o == 183) (is_initialiser image callee) (is_direct image current callee))) ≡ true → Right (if o == 183 then special_next (is_initialiser image callee || is_direct image current callee) n us else selected_call image who f o callee (Ref n ∷ us) n)
    on-object q n us hn h x g = by_op (o == 183) refl (is_initialiser image callee) refl (is_direct image current callee) g
      where
        not-static : is_static_method image callee ≡ false
        not-static = i.linked.1 ∙ q

        direct : (o == 183) ≡ true → type_fits (superclasses image) (class_type image n.class) (flow.Class (plain image (owner_of image callee))) ≡ true → Right (runs_method image who f callee (Ref n ∷ us))
        direct e fit = runs-fine callee (Ref n ∷ us) i.linked.0 i.linked.2 (receiver-call image types accepted there premade callee d n us i.linked.0 not-static (i.linked.3 e) hn fit h x)

        by_op : (a : Bool) → (o == 183) ≡ a → (b : Bool) → is_initialiser image callee ≡ b → (e : Bool) → type_fits (superclasses image) (class_type image n.class) (flow.Class (wanted a b e)) ≡ true → Right (if a then special_next (b || e) n us else selected_call image who f o callee (Ref n ∷ us) n)
        by_op true ea true eb e g = direct ea (subst (λ w. type_fits (superclasses image) (class_type image n.class) (flow.Class w) ≡ true) (sym (accepted.classes.inits callee not-static eb (i.linked.3 ea))) g)
        by_op true ea false eb true g = direct ea g
        by_op true ea false eb false g = selected-fine n us _ hn h x (λ m e. from-super n m g e)
        by_op false ea b eb e g = selected-fine n us _ hn h x (λ m e. let z : Selects image n.class callee m = selected image types accepted n.class callee (o == 185) m e in record { not_static = z.not_static; has_body = z.has_body; is_desc = z.same ∙ i.linked.0; fits = z.fits; bound = z.bound })

    -- a receiver below the arguments
    object-call : (o == 184) ≡ false → Right (asked (receiver_call image who f o callee (call_values (call_count o d) f.stack.values)) (with_reference (length d.args) CallsIt f.stack.values))
    object-call q = by_value (slice_get f.stack.values (length d.args)) refl safe
      where
        safe : Safe false (with_reference (length d.args) CallsIt f.stack.values)
        safe = subst (λ b. Safe false (if b then CallsIt else with_reference (length d.args) CallsIt f.stack.values)) q (call-safe image f.method there accepted.subs o d callee f.locals f.stack.values s.work s.fits i.keeps)

        w : ℕ
        w = wanted (o == 183) (is_initialiser image callee) (is_direct image current callee)

        count : call_count o d ≡ suc (length d.args)
        count = rw q (omega arith)

        exact : exactly_met image (need.Fitting rule.REFERENCE (flow.Class w) ∷ need_list image d.args) (call_values (call_count o d) f.stack.values) ≡ true
        exact =
            let m : all_met image (reverse (need.Fitting rule.REFERENCE (flow.Class w) ∷ need_list image d.args)) f.stack.values ≡ true = rw (reverse-cons (need.Fitting rule.REFERENCE (flow.Class w)) (need_list image d.args)) (receiver-met q) in
            call-met (need.Fitting rule.REFERENCE (flow.Class w) ∷ need_list image d.args) (call_count o d) (ap suc needs-count ∙ sym count) m

        on-first : (n : Name) (us vs : List Value) → vs ≡ Ref n ∷ us → all_there there vs ≡ true → exactly_met image (need.Fitting rule.REFERENCE (flow.Class w) ∷ need_list image d.args) vs ≡ true → Right (receiver_call image who f o callee vs)
        on-first n us vs e h x =
            let h2 : all_there there (Ref n ∷ us) ≡ true = subst (λ z. all_there there z ≡ true) e h in
            let x2 : exactly_met image (need.Fitting rule.REFERENCE (flow.Class w) ∷ need_list image d.args) (Ref n ∷ us) ≡ true = subst (λ z. exactly_met image (need.Fitting rule.REFERENCE (flow.Class w) ∷ need_list image d.args) z ≡ true) e x in
            let (p, r) = and_parts _ _ h2 in
            let (y, z) = and_parts _ _ x2 in
            subst (λ z. Right (receiver_call image who f o callee z)) (sym e) (on-object q n us p r z y)

        by_value : (v : Option Value) → slice_get f.stack.values (length d.args) ≡ v → Safe false (from StuckThere (unless_null CallsIt) v) → Right (asked (receiver_call image who f o callee (call_values (call_count o d) f.stack.values)) (from StuckThere (unless_null CallsIt) v))
        by_value None e k = absurd k
        by_value (Some (Int a)) e k = absurd k
        by_value (Some (Long a)) e k = absurd k
        by_value (Some Null) e k = refl
        by_value (Some (Ref n)) e k = on-first n (reverse (take (length d.args) f.stack.values)) (call_values (call_count o d) f.stack.values) (ap (λ z. call_values z f.stack.values) count ∙ call-first (length d.args) f.stack.values (Ref n) e) (call-there (call_count o d)) exact

    pub invoke : Right (if o == 184 then runs_method image who f callee (call_values (call_count o d) f.stack.values) else asked (receiver_call image who f o callee (call_values (call_count o d) f.stack.values)) (with_reference (length d.args) CallsIt f.stack.values))
    invoke = by_op (o == 184) refl
      where
        by_op : (b : Bool) → (o == 184) ≡ b → Right (if b then runs_method image who f callee (call_values (call_count o d) f.stack.values) else asked (receiver_call image who f o callee (call_values (call_count o d) f.stack.values)) (with_reference (length d.args) CallsIt f.stack.values))
        by_op true e = alone e
        by_op false e = object-call e

-- ---- returns: the value of a call, taken by the frame below

given-answer : (image : Program) (d : MethodDesc) (ts : List FlowType) → given (result image d.ret) ts ≡ option_to_list (answer_type image d)
given-answer image d ts = by_ret d.ret
  where
    by_ret : (r : Option Desc) → given (result image r) ts ≡ option_to_list (from None (λ z. Some (desc_type image z)) r)
    by_ret None = refl
    by_ret (Some z) = refl

module _ (image : Program) (types : Types) (accepted : Accepted image types) (there : Name → Bool) where
  no-class : (t : FlowType) (c : ℕ) → type_fits (superclasses image) (class_type image c) t ≡ true → ((d : ℕ) → type_fits (superclasses image) (flow.Class d) t ≡ false) → ((d : ℕ) (e : Element) → type_fits (superclasses image) (flow.Array d e) t ≡ false) → ⊥
  no-class t c h k l = by_shape (class-shape image c)
    where
      by_shape : ClassShape (class_type image c) → ⊥
      by_shape (a_class x e) = let g : false ≡ true = sym (k x) ∙ subst (λ z. type_fits (superclasses image) z t ≡ true) e h in cc
      by_shape (an_array d x e) = let g : false ≡ true = sym (l d x) ∙ subst (λ z. type_fits (superclasses image) z t ≡ true) e h in cc

  suit-held : (method : ℕ) (v : Value) (t : FlowType) → suits image there v t ≡ true → held image method there v t ≡ true
  suit-held method v flow.Unusable h = and_both _ _ ((and_parts _ _ h).0) (top (superclasses image) (value_type image v))
  suit-held method v flow.High h = and_both _ _ ((and_parts _ _ h).0) (top (superclasses image) (value_type image v))
  suit-held method v (flow.Fresh a) h = absurd (never v ((and_parts _ _ h).1))
    where
      never : (v : Value) → type_fits (superclasses image) (value_type image v) (flow.Fresh a) ≡ true → ⊥
      never (Ref n) h = no-class (flow.Fresh a) n.class h (λ d. refl) (λ d e. refl)
      never (Int x) h = cc
      never (Long x) h = cc
      never Null h = cc
  suit-held method v flow.FreshThis h = absurd (never v ((and_parts _ _ h).1))
    where
      never : (v : Value) → type_fits (superclasses image) (value_type image v) flow.FreshThis ≡ true → ⊥
      never (Ref n) h = no-class flow.FreshThis n.class h (λ d. refl) (λ d e. refl)
      never (Int x) h = cc
      never (Long x) h = cc
      never Null h = cc
  suit-held method v _ h = h

  pub suits-held : (method : ℕ) (vs : List Value) (ts : List FlowType) → all_suit image there vs ts ≡ true → all_held image method there vs ts ≡ true
  suits-held method [] [] h = refl
  suits-held method (v ∷ vs) (t ∷ ts) h = let (p, q) = and_parts _ _ h in and_both _ _ (suit-held method v t p) (suits-held method vs ts q)
  suits-held method [] (t ∷ ts) h = absurd cc
  suits-held method (v ∷ vs) [] h = absurd cc

  -- an answer of a call's result
  pub call-answers : (f : Frame) (s : FrameFits image types there f) (o i0 : ℕ) (d : MethodDesc) → Stands image types accepted there f s (op.Invoke o i0 d) → Answers image types accepted there f (option_to_list (answer_type image d))
  call-answers f s o i0 d i = subst (λ ts. Answers image types accepted there f ts) (given-answer image d s.work.stack) (by_static (o == 184) refl)
    where
      callee : ℕ
      callee = method_in (target_of image f.method f.at)

      current : ℕ
      current = owner_of image f.method

      count : length (arguments image d.args) ≡ length d.args
      count = arguments-length image d.args

      object : Need
      object = object_of image (receiver_class image (owner_of image f.method) o (method_in (target_of image f.method f.at)))

      by_init : (b : Bool) → (o == 184) ≡ false → (o == 183 && is_initialiser image (method_in (target_of image f.method f.at))) ≡ b → Answers image types accepted there f (given (result image d.ret) s.work.stack)
      by_init true q e = answers-init image types accepted there f s (op.Invoke o i0 d) (arguments image d.args) (owner_of image (method_in (target_of image f.method f.at))) (result image d.ret) i refl (rw (q, e) refl) (rw q (let n : length (arguments image d.args) ≡ length d.args = count in omega arith))
      by_init false q e = answers image types accepted there f s (op.Invoke o i0 d) (arguments image d.args ++ object ∷ []) (result image d.ret) i refl (rw (q, e) refl) (rw q (let n : length (arguments image d.args) ≡ length d.args = count in let k = length-append (arguments image d.args) (object ∷ []) in omega arith))

      by_static : (b : Bool) → (o == 184) ≡ b → Answers image types accepted there f (given (result image d.ret) s.work.stack)
      by_static true q = answers image types accepted there f s (op.Invoke o i0 d) (arguments image d.args) (result image d.ret) i refl (rw q refl) (rw q (let n : length (arguments image d.args) ≡ length d.args = count in omega arith))
      by_static false q = by_init (o == 183 && is_initialiser image (method_in (target_of image f.method f.at))) q refl

  -- the frame below a method's, after its return
  pub returned-fits : (f : Frame) (m : ℕ) (v : Option Value) → FrameFits image types there f → CallsOne image f m → all_suit image there (option_to_list v) (option_to_list (result_of image m)) ≡ true → FrameFits image types there (answered image v f)
  returned-fits f m v s c h =
      let i : Instruction image types f.method f.at s.work = accepted.instructions f.method f.at s.work s.is_typed in
      let e : i.placed ≡ c.placed = some_is (sym i.is_placed ∙ c.is_placed) in
      let k : Stands image types accepted there f s (op.Invoke c.opcode c.item c.desc) = stands image types accepted there f s i (op.Invoke c.opcode c.item c.desc) (ap (λ p. p.op) e ∙ c.is_call) in
      let r : result_of image m ≡ answer_type image c.desc = result-is image m c.desc c.is_desc in
      call-answers f s c.opcode c.item c.desc k there s v (suits-held f.method (option_to_list v) (option_to_list (answer_type image c.desc)) (subst (λ z. all_suit image there (option_to_list v) (option_to_list z) ≡ true) r h))
