-- A frame of the types that the verifier found has what its instruction asks.
use Rattle.std.proofs.Common.{◌≡◌, ◌∙◌, ap, subst, refl, ℕ, suc, ◌+◌, ◌-◌, ◌<◌, ◌≤◌, Bool, true, false, List, [], ◌∷◌, ◌++◌, drop, length, Option, Some, None, arith}
use Rattle.std.specs.Prelude.{◌&&◌, ◌==◌, if◌then◌else◌, replicate}
use Rattle.std.specs.Option.{option_to_list}
use Rattle.std.proofs.lemmas.List.{length-append, length-drop, length-replicate}
use Rattle.jvm_base.specs.declared.desc.Desc.{Desc}
use Rattle.jvm_base.specs.declared.desc.MethodDesc.{MethodDesc}
use Rattle.jvm_base.specs.declared.name.Name.{Name}
use Rattle.jvm_base.specs.declared.value.Value.{Value}
use Rattle.jvm_base.specs.declared.value.Value.TheVariants.{Int, Long, Ref, Null}
use Rattle.code_table.specs.declared.op.Op.{Op}
use Rattle.code_table.specs.declared.op.Op.TheVariants as op
use Rattle.code_table.specs.declared.opcode.TheConstants as code
use Rattle.program_image.specs.declared.info.Target.{Target}
use Rattle.program_image.specs.Program.{Program, target_of}
use Rattle.flow_types.specs.Tree.{superclasses}
use Rattle.flow_types.specs.Primitives.{primitive_of}
use Rattle.flow_types.specs.declared.element.Element.TheVariants.{Primitive}
use Rattle.flow_types.specs.declared.element.Primitive.{Primitive as PrimitiveType}
use Rattle.flow_types.specs.declared.element.Primitive.TheVariants as primitive
use Rattle.flow_types.specs.declared.flow_type.FlowType.{FlowType}
use Rattle.flow_types.specs.declared.flow_type.FlowType.TheVariants as flow
use Rattle.flow_types.proofs.ListLaws.{and_parts}
use Rattle.instruction_table.specs.ClassTypes.{class_type, desc_type, array_over, class_in, owner_of, field_class_in, method_in, is_initialiser}
use Rattle.instruction_table.specs.Needs.{need_rules, needs_rules}
use Rattle.instruction_table.specs.Rows.{row, value, reference, object_of, array_loads, array_load, array_stores, array_store, static_row, field_row, arguments, result, receiver_class, invoke_row}
use Rattle.instruction_table.specs.Working.{site_of, type_slots, slots, given, inits_rules, row_rules, next}
use Rattle.instruction_table.specs.declared.row.Need.{Need}
use Rattle.instruction_table.specs.declared.row.Need.TheVariants as need
use Rattle.instruction_table.specs.declared.row.Gives.{Gives}
use Rattle.instruction_table.specs.declared.row.Gives.TheVariants as gives
use Rattle.instruction_table.specs.declared.row.Row.{Row}
use Rattle.instruction_table.specs.declared.row.Row.TheVariants as row_of
use Rattle.instruction_table.specs.declared.rule.TheConstants as rule
use Rattle.instruction_table.specs.declared.work.Work.{Work}
use Rattle.instruction_table.proofs.FitLists.{append_empty}
use Rattle.frame_ops.specs.Condition.{IsDefined, values_after}
use Rattle.frame_ops.specs.Moves.{Move, Goes, Jumps, Sets, Raises, Throws, Asks, Calls, Leaves, Stuck}
use Rattle.frame_ops.specs.Stepping.{operand_count, call_count}
use Rattle.frame_soundness.specs.AcceptedProgram.{Instruction, IsLinked, IsSwitch, next_at}
use Rattle.frame_soundness.specs.Conditions.{MayTake, ConditionLaw}
use Rattle.frame_soundness.specs.Fitting.{Fits}
use Rattle.frame_soundness.specs.Moving.{Moves, IsTold}
use Rattle.frame_soundness.specs.Values.{is_there, all_held}
use Rattle.frame_soundness.proofs.GrowLaws.{held-grows}
use Rattle.frame_soundness.proofs.MoveLaws.{in-table, all-moves, arguments-length}

-- ---- linking gives what moves ask

pub linked-switch : (image : Program) (o : Op) (t : Option Target) → IsLinked image o t → IsSwitch o
linked-switch image (op.TableSwitch other low high to) t h = h
linked-switch image _ t h = tt

-- every object is there
abbrev everywhere : Name → Bool
everywhere n = true

is-everywhere : (v : Value) → is_there everywhere v ≡ true
is-everywhere (Ref n) = refl
is-everywhere (Int a) = refl
is-everywhere (Long a) = refl
is-everywhere Null = refl

linked-told : (image : Program) (o : Op) (t : Option Target) → IsLinked image o t → IsTold everywhere o t
linked-told image (op.Ldc i) t (v, e, l) = (v, e, is-everywhere v)
linked-told image (op.Ldc2 i) t (v, e, l) = (v, e, is-everywhere v)
linked-told image _ t h = tt

-- ---- lengths

pub slots-length : (ts : List FlowType) → length ts ≤ slots ts
slots-length [] = omega arith
slots-length (t ∷ ts) = let h : length ts ≤ slots ts = slots-length ts in let k : 1 ≤ type_slots t = one t in omega arith
  where
    one : (t : FlowType) → 1 ≤ type_slots t
    one flow.Long = omega arith
    one _ = omega arith

pub held-length : (image : Program) (method : ℕ) (there : Name → Bool) (vs : List Value) (ts : List FlowType) → all_held image method there vs ts ≡ true → length vs ≡ length ts
held-length image method there [] [] h = refl
held-length image method there (v ∷ vs) (t ∷ ts) h = ap suc (held-length image method there vs ts ((and_parts _ _ h).1))
held-length image method there [] (t ∷ ts) h = absurd cc
held-length image method there (v ∷ vs) [] h = absurd cc

needs-length : (supers : List (Option ℕ)) (owner : ℕ) (ns : List Need) (ts : List FlowType) → needs_rules supers owner ns ts ≡ [] → length ns ≤ length ts
needs-length supers owner [] ts h = omega arith
needs-length supers owner (n ∷ ns) [] h = absurd cc
needs-length supers owner (n ∷ ns) (t ∷ ts) h = let k = needs-length supers owner ns ts ((append_empty (need_rules supers owner n t) _ h).1) in omega arith

answer-short : (answer : Option Value) → length (option_to_list answer) ≤ 1
answer-short None = omega arith
answer-short (Some v) = omega arith

given-one : (image : Program) (ret : Option Desc) (ts : List FlowType) → length (given (result image ret) ts) ≡ length (option_to_list ret)
given-one image None ts = refl
given-one image (Some d) ts = refl

module _ (image : Program) (method : ℕ) (there : Name → Bool) where
  defined-of : (ls : List Value) (o : Op) (w : Work) (m : Move) → Moves image method there ls o w m → IsDefined m
  defined-of ls o w (Goes vs) h = tt
  defined-of ls o w (Jumps to vs) h = tt
  defined-of ls o w (Sets i new vs) h = tt
  defined-of ls o w (Raises k) h = tt
  defined-of ls o w (Throws e) h = tt
  defined-of ls o w Asks h = tt
  defined-of ls o w Calls h = tt
  defined-of ls o w (Leaves v) h = tt
  defined-of ls o w Stuck h = absurd h

  room-of : (ls vs : List Value) (o : Op) (w : Work) (room : ℕ) (m : Move) → Moves image method there ls o w m → length vs ≤ room → length w.stack ≤ room → length (values_after m vs) ≤ room
  room-of ls vs o w room (Goes us) h l k = let e = held-length image method there us w.stack h.1.stack.held in omega arith
  room-of ls vs o w room (Jumps to us) h l k = let e = held-length image method there us w.stack h.1.stack.held in omega arith
  room-of ls vs o w room (Sets i new us) h l k = let e = held-length image method there us w.stack h.1.stack.held in omega arith
  room-of ls vs o w room (Raises x) h l k = l
  room-of ls vs o w room (Throws e) h l k = l
  room-of ls vs o w room Asks h l k = l
  room-of ls vs o w room Calls h l k = l
  room-of ls vs o w room (Leaves v) h l k = l
  room-of ls vs o w room Stuck h l k = l

  -- ---- what is answered from outside

  module _ (vs : List Value) (w : Work) (room : ℕ) (e : length vs ≡ length w.stack) (l : length vs ≤ room) where
    -- so many operands are there, and there is room for the answer in their place
    pub record Taken (count : ℕ) (answer : Option Value) : Type 0 where
      pub enough : count ≤ length vs
      pub fits : length (option_to_list answer ++ drop count vs) ≤ room

    answer-length : (count : ℕ) (answer : Option Value) → length (option_to_list answer ++ drop count vs) ≡ length (option_to_list answer) + (length vs - count)
    answer-length count answer = length-append (option_to_list answer) (drop count vs) ∙ ap (λ n. length (option_to_list answer) + n) (length-drop count vs)

    some-taken : (count : ℕ) (answer : Option Value) → count ≤ length vs → 1 ≤ count → Taken count answer
    some-taken count answer h k =
        let a = answer-length count answer in
        let b = answer-short answer in
        record { enough = h; fits = omega arith }

    -- of a row that takes and gives
    acts-taken : (needs : List Need) (g : Gives) (answer : Option Value) → row_rules (site_of image method) (row_of.Acts needs g) w ≡ [] → length (next (site_of image method) (row_of.Acts needs g) w).stack ≤ room → length (option_to_list answer) ≤ length (given g w.stack) → Taken (length needs) answer
    acts-taken needs g answer h k b =
        let n : length needs ≤ length w.stack = needs-length (superclasses image) (owner_of image method) needs w.stack h in
        let a = answer-length (length needs) answer in
        let c = length-append (given g w.stack) (drop (length needs) w.stack) in
        let d = length-drop (length needs) w.stack in
        record { enough = omega arith; fits = omega arith }

    -- the same where operands are taken
    needs-taken : (needs : List Need) (g : Gives) (answer : Option Value) → row_rules (site_of image method) (row_of.Acts needs g) w ≡ [] → 1 ≤ length needs → Taken (length needs) answer
    needs-taken needs g answer h k =
        let n : length needs ≤ length w.stack = needs-length (superclasses image) (owner_of image method) needs w.stack h in
        some-taken (length needs) answer (omega arith) k

    inits-taken : (needs : List Need) (c : ℕ) (g : Gives) (answer : Option Value) → row_rules (site_of image method) (row_of.Inits needs c g) w ≡ [] → Taken (suc (length needs)) answer
    inits-taken needs c g answer h =
        let (x, y) = append_empty (needs_rules (superclasses image) (owner_of image method) needs w.stack) (inits_rules (site_of image method) c (drop (length needs) w.stack)) h in
        let n : length needs ≤ length w.stack = needs-length (superclasses image) (owner_of image method) needs w.stack x in
        let d = length-drop (length needs) w.stack in
        let z : 0 < length (drop (length needs) w.stack) = some-below (drop (length needs) w.stack) y in
        some-taken (suc (length needs)) answer (omega arith) (omega arith)
      where
        some-below : (ts : List FlowType) → inits_rules (site_of image method) c ts ≡ [] → 0 < length ts
        some-below [] h = absurd cc
        some-below (t ∷ ts) h = omega arith

    abbrev RowTakes : ℕ → Option Value → Row → Type 0
    RowTakes count answer r = row_rules (site_of image method) r w ≡ [] → Taken count answer

    load-taken : (k : ℕ) (answer : Option Value) → RowTakes 2 answer (array_load k)
    load-taken k answer = in-table (RowTakes 2 answer) array_loads (row_of.Acts (need.Int ∷ need.References ∷ []) gives.Part) k (one primitive.Int (gives.One flow.Int), (one primitive.Long (gives.One flow.Long), (one primitive.Byte (gives.One flow.Int), (one primitive.Char (gives.One flow.Int), (one primitive.Short (gives.One flow.Int), tt)))))
        (λ h. needs-taken (need.Int ∷ need.References ∷ []) gives.Part answer h (omega arith))
      where
        one : (j : PrimitiveType) (g : Gives) → RowTakes 2 answer (row_of.Acts (need.Int ∷ need.Primitives j ∷ []) g)
        one j g h = needs-taken (need.Int ∷ need.Primitives j ∷ []) g answer h (omega arith)

    store-taken : (k : ℕ) (answer : Option Value) → RowTakes 3 answer (array_store k)
    store-taken k answer = in-table (RowTakes 3 answer) array_stores (row_of.Acts (reference ∷ need.Int ∷ need.References ∷ []) gives.Nothing) k (one primitive.Int need.Int, (one primitive.Long need.Long, (one primitive.Byte need.Int, (one primitive.Char need.Int, (one primitive.Short need.Int, tt)))))
        (λ h. needs-taken (reference ∷ need.Int ∷ need.References ∷ []) gives.Nothing answer h (omega arith))
      where
        one : (j : PrimitiveType) (v : Need) → RowTakes 3 answer (row_of.Acts (v ∷ need.Int ∷ need.Primitives j ∷ []) gives.Nothing)
        one j v h = needs-taken (v ∷ need.Int ∷ need.Primitives j ∷ []) gives.Nothing answer h (omega arith)

    static-taken : (k : ℕ) (t : FlowType) (answer : Option Value) → row_rules (site_of image method) (static_row k t) w ≡ [] → length (next (site_of image method) (static_row k t) w).stack ≤ room → Taken (if k == code.GETSTATIC then 0 else 1) answer
    static-taken k t answer h r = by_test (k == code.GETSTATIC) h r
      where
        by_test : (b : Bool) → row_rules (site_of image method) (if b then row_of.Acts [] (gives.One t) else row_of.Acts (value rule.REFERENCE t ∷ []) gives.Nothing) w ≡ [] → length (next (site_of image method) (if b then row_of.Acts [] (gives.One t) else row_of.Acts (value rule.REFERENCE t ∷ []) gives.Nothing) w).stack ≤ room → Taken (if b then 0 else 1) answer
        by_test true h r = acts-taken [] (gives.One t) answer h r (answer-short answer)
        by_test false h r = needs-taken (value rule.REFERENCE t ∷ []) gives.Nothing answer h (omega arith)

    field-taken : (k : ℕ) (t : FlowType) (c : ℕ) (answer : Option Value) → row_rules (site_of image method) (field_row image k t c) w ≡ [] → Taken (if k == code.GETFIELD then 1 else 2) answer
    field-taken k t c answer h = by_test (k == code.GETFIELD) h
      where
        by_test : (b : Bool) → row_rules (site_of image method) (if b then row_of.Acts (object_of image c ∷ []) (gives.One t) else row_of.Acts (value rule.REFERENCE t ∷ need.Own c ∷ []) gives.Nothing) w ≡ [] → Taken (if b then 1 else 2) answer
        by_test true h = needs-taken (object_of image c ∷ []) (gives.One t) answer h (omega arith)
        by_test false h = needs-taken (value rule.REFERENCE t ∷ need.Own c ∷ []) gives.Nothing answer h (omega arith)

    call-taken : (k : ℕ) (d : MethodDesc) (m : ℕ) (answer : Option Value) → length (option_to_list answer) ≤ length (option_to_list d.ret) → row_rules (site_of image method) (invoke_row image (owner_of image method) k d m) w ≡ [] → length (next (site_of image method) (invoke_row image (owner_of image method) k d m) w).stack ≤ room → Taken (call_count k d) answer
    call-taken k d m answer s h r = by_static (k == code.INVOKESTATIC) (k == code.INVOKESPECIAL && is_initialiser image m) h r
      where
        wanted : Need
        wanted = object_of image (receiver_class image (owner_of image method) k m)

        called : Bool → Bool → Row
        called a b = if a then row_of.Acts (arguments image d.args) (result image d.ret) else (if b then row_of.Inits (arguments image d.args) (owner_of image m) (result image d.ret) else row_of.Acts (arguments image d.args ++ wanted ∷ []) (result image d.ret))

        g : length (given (result image d.ret) w.stack) ≡ length (option_to_list d.ret)
        g = given-one image d.ret w.stack

        n : length (arguments image d.args) ≡ length d.args
        n = arguments-length image d.args

        by_static : (a b : Bool) → row_rules (site_of image method) (called a b) w ≡ [] → length (next (site_of image method) (called a b) w).stack ≤ room → Taken (length d.args + (if a then 0 else 1)) answer
        by_static true b h r =
            let q : length (arguments image d.args) ≡ length d.args + 0 = n ∙ omega arith in
            let z : length (option_to_list answer) ≤ length (given (result image d.ret) w.stack) = (let y = g in omega arith) in
            subst (λ c. Taken c answer) q (acts-taken (arguments image d.args) (result image d.ret) answer h r z)
        by_static false true h r =
            let q : suc (length (arguments image d.args)) ≡ length d.args + 1 = (let y = n in omega arith) in
            subst (λ c. Taken c answer) q (inits-taken (arguments image d.args) (owner_of image m) (result image d.ret) answer h)
        by_static false false h r =
            let q : length (arguments image d.args ++ wanted ∷ []) ≡ length d.args + 1 = (let y = n in let x = length-append (arguments image d.args) (wanted ∷ []) in omega arith) in
            subst (λ c. Taken c answer) q (needs-taken (arguments image d.args ++ wanted ∷ []) (result image d.ret) answer h (omega arith))

    sizes-taken : (n : ℕ) (t : FlowType) (answer : Option Value) → 0 < n → row_rules (site_of image method) (row_of.Acts (replicate n need.Int) (gives.One t)) w ≡ [] → Taken n answer
    sizes-taken n t answer l h =
        let q : length (replicate n need.Int) ≡ n = length-replicate n need.Int in
        subst (λ c. Taken c answer) q (needs-taken (replicate n need.Int) (gives.One t) answer h (omega arith))

    pub op-taken : (at : ℕ) (o : Op) (answer : Option Value) → IsLinked image o (target_of image method at) → MayTake o answer → row_rules (site_of image method) (row image method at o) w ≡ [] → length (next_at image method at o w).stack ≤ room → Taken (operand_count o) answer
    op-taken at (op.ArrayLoad k) answer i m h r = load-taken k answer h
    op-taken at (op.ArrayStore k) answer i m h r = store-taken k answer h
    op-taken at (op.Static k x d) answer i m h r = static-taken k (desc_type image d) answer h r
    op-taken at (op.Field k x d) answer i m h r = field-taken k (desc_type image d) (field_class_in (target_of image method at)) answer h
    op-taken at (op.Invoke k x d) answer i m h r = call-taken k d (method_in (target_of image method at)) answer m h r
    op-taken at (op.New x) answer i m h r = acts-taken [] (gives.One (flow.Fresh at)) answer h r (answer-short answer)
    op-taken at (op.NewArray k) answer i m h r = needs-taken (need.Int ∷ []) (gives.One (flow.Array 1 (Primitive (primitive_of k)))) answer h (omega arith)
    op-taken at (op.AnewArray x) answer i m h r = needs-taken (need.Int ∷ []) (gives.One (array_over (class_type image (class_in (target_of image method at))))) answer h (omega arith)
    op-taken at (op.MultiNewArray x n) answer i m h r = sizes-taken n (class_type image (class_in (target_of image method at))) answer i.0 h
    op-taken at op.ArrayLength answer i m h r = needs-taken (need.Array ∷ []) (gives.One flow.Int) answer h (omega arith)
    op-taken at (op.Monitor k) answer i m h r = needs-taken (reference ∷ []) gives.Nothing answer h (omega arith)
    op-taken at _ answer i m h r = absurd m

pub meets-condition : ConditionLaw
meets-condition image types accepted there f s =
    let z : Fits image f.method everywhere f.locals f.stack.values s.work = record {
      locals_held = held-grows image there everywhere (λ n h. refl) f.method f.locals s.work.locals s.fits.locals_held;
      stack = record { held = held-grows image there everywhere (λ n h. refl) f.method f.stack.values s.work.stack s.fits.stack.held; operands = s.fits.stack.operands };
    } in
    let i : Instruction image types f.method f.at s.work = accepted.instructions f.method f.at s.work s.is_typed in
    let k : IsLinked image i.placed.op (target_of image f.method f.at) = accepted.links f.method f.at i.placed i.is_placed in
    let b = i.before s.code s.is_code in
    let d = i.deep s.code s.is_code in
    let l1 : length s.work.stack ≤ slots s.work.stack = slots-length s.work.stack in
    let l2 = slots-length (next_at image f.method f.at i.placed.op s.work).stack in
    let r = s.room in
    let e : length f.stack.values ≡ length s.work.stack = held-length image f.method everywhere f.stack.values s.work.stack z.stack.held in
    let fewer : length f.stack.values ≤ f.stack.room = omega arith in
    let deeper : length (next_at image f.method f.at i.placed.op s.work).stack ≤ f.stack.room = omega arith in
    let m = all-moves image f.method everywhere accepted.subs f.at i.placed.op f.locals f.stack.values s.work (linked-switch image i.placed.op _ k) (linked-told image i.placed.op _ k) z i.keeps in
    record {
      placed = i.placed;
      is_placed = i.is_placed;
      runs = record { few = i.few; moves = record { defined = defined-of image f.method everywhere f.locals i.placed.op _ _ m; room = room-of image f.method everywhere f.locals f.stack.values i.placed.op _ f.stack.room _ m fewer deeper } };
      takes = λ answer may. let t = op-taken image f.method everywhere f.stack.values s.work f.stack.room e fewer f.at i.placed.op answer k may i.keeps deeper in record { few = i.few; enough = t.enough; room = t.fits };
    }
