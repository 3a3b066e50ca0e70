-- All instructions: the next step of a frame that fits is never stuck, and owes nothing.
use Rattle.std.proofs.Common.{◌≡◌, sym, subst, refl, ℕ, ◌<◌, Bool, true, false, List, length, Option, arith}
use Rattle.std.specs.Prelude.{◌==◌, if◌then◌else◌}
use Rattle.jvm_base.specs.Words.{from}
use Rattle.jvm_base.specs.declared.desc.Desc.{Desc}
use Rattle.jvm_base.specs.declared.desc.MethodDesc.{MethodDesc}
use Rattle.jvm_base.specs.declared.frame.Frame.{Frame}
use Rattle.jvm_base.specs.declared.name.Name.{Name}
use Rattle.jvm_base.specs.declared.value.Value.{Value}
use Rattle.jvm_base.specs.declared.value.Value.TheVariants.{Int, Long, Ref, Null}
use Rattle.code_table.specs.declared.op.Op.{Op}
use Rattle.code_table.specs.declared.op.Op.TheVariants as op
use Rattle.code_table.specs.declared.opcode.TheConstants as code
use Rattle.program_image.specs.declared.info.Target.{Target}
use Rattle.program_image.specs.Program.{Program, target_of}
use Rattle.flow_types.specs.Primitives.{primitive_of}
use Rattle.flow_types.specs.declared.element.Element.TheVariants.{Primitive}
use Rattle.flow_types.specs.declared.flow_type.FlowType.TheVariants as flow
use Rattle.instruction_table.specs.ClassTypes.{class_type, array_over, class_in, method_in}
use Rattle.instruction_table.specs.declared.work.Work.{Work}
use Rattle.frame_ops.specs.Moves.{Move, Goes, Jumps, Sets, Raises, Throws as ThrowsIt, Asks as AsksIt, Calls as CallsIt, Leaves as LeavesIt, Stuck as StuckThere}
use Rattle.frame_ops.specs.Operands.{with_reference, with_sizes}
use Rattle.frame_ops.specs.Stepping.{call_count, call_values, move_at}
use Rattle.frame_ops.specs.Table.{move_of}
use Rattle.machine_state.specs.Calls.{runs_method, receiver_call}
use Rattle.machine_state.specs.Classes.{array_class_of, array_class_over}
use Rattle.machine_state.specs.Instructions.{given_to, instruction_plan, field_next, shared_plan, call_plan}
use Rattle.machine_state.specs.Next.{Next, Stuck, Who, plain}
use Rattle.machine_state.specs.Plan.{body_plan}
use Rattle.machine_state.specs.PreMade.{holder}
use Rattle.frame_soundness.specs.AcceptedProgram.{Types, Instruction, Accepted, IsLinked, IsLiteral}
use Rattle.frame_soundness.specs.Frames.{FrameFits}
use Rattle.frame_soundness.specs.Moving.{MayAsk, MayCall, MayLeave, Moves, IsTold}
use Rattle.frame_soundness.specs.Values.{is_there}
use Rattle.frame_soundness.proofs.ConditionLaws.{linked-switch}
use Rattle.frame_soundness.proofs.MoveLaws.{all-moves}
use Rattle.machine_soundness.specs.Sound.{Premade, a_holder, a_literal}
use Rattle.step_soundness.proofs.CallPlans.{IntrinsicsFine, WhoFits, invoke}
use Rattle.step_soundness.proofs.HeapPlans.{Stands, stands, field-get, load}
use Rattle.step_soundness.proofs.MakePlans.{array-length, new, made-arrays, monitor, return}
use Rattle.step_soundness.proofs.NextLaws.{next_of, by-move-is, asked, asks-reference, calls-reference, asks-sizes, IsOwn, move-owes}
use Rattle.step_soundness.proofs.Requests.{Owes}
use Rattle.step_soundness.proofs.StorePlans.{field-put, static, store}

-- the instruction works on its frame alone
abbrev IsAlone : Op → Type 0
IsAlone (op.ArrayLoad o) = ⊥
IsAlone (op.ArrayStore o) = ⊥
IsAlone (op.Return o) = ⊥
IsAlone (op.Static o i d) = ⊥
IsAlone (op.Field o i d) = ⊥
IsAlone (op.Invoke o i d) = ⊥
IsAlone (op.New i) = ⊥
IsAlone (op.NewArray k) = ⊥
IsAlone (op.AnewArray i) = ⊥
IsAlone (op.MultiNewArray i n) = ⊥
IsAlone op.ArrayLength = ⊥
IsAlone (op.Monitor o) = ⊥
IsAlone _ = Unit {0}

no-ask : (o : Op) → IsAlone o → MayAsk o → ⊥
no-ask (op.ArrayLoad o) a h = a
no-ask (op.ArrayStore o) a h = a
no-ask (op.Static o i d) a h = a
no-ask (op.Field o i d) a h = a
no-ask (op.New i) a h = a
no-ask (op.NewArray k) a h = a
no-ask (op.AnewArray i) a h = a
no-ask (op.MultiNewArray i n) a h = a
no-ask op.ArrayLength a h = a
no-ask (op.Monitor o) a h = a
no-ask _ a h = h

no-call : (o : Op) → IsAlone o → MayCall o → ⊥
no-call (op.Invoke o i d) a h = a
no-call _ a h = h

no-return : (o : Op) → IsAlone o → MayLeave o → ⊥
no-return (op.Return o) a h = a
no-return _ a h = h

own-of : (image : Program) (method : ℕ) (there : Name → Bool) (ls : List Value) (o : Op) (w : Work) (m : Move) → IsAlone o → Moves image method there ls o w m → IsOwn m
own-of image method there ls o w (Goes vs) a h = tt
own-of image method there ls o w (Jumps to vs) a h = tt
own-of image method there ls o w (Sets i new vs) a h = tt
own-of image method there ls o w (Raises k) a h = tt
own-of image method there ls o w (ThrowsIt e) a h = tt
own-of image method there ls o w StuckThere a h = tt
own-of image method there ls o w AsksIt a h = no-ask o a h
own-of image method there ls o w CallsIt a h = no-call o a h
own-of image method there ls o w (LeavesIt v) a h = no-return o a h

module _ (image : Program) (types : Types) (accepted : Accepted image types) (there : Name → Bool) (premade : (n : Name) → Premade image n → there n ≡ true) (f : Frame) (s : FrameFits image types there f) where
  abbrev holders : (c : ℕ) → c < length image.classes → there (holder c) ≡ true
  holders c l = premade (holder c) (a_holder c l)

  abbrev Owed : Next → Type 0
  Owed n = Owes image types accepted there f n

  literal : (v : Value) → IsLiteral image v → is_there there v ≡ true
  literal (Ref n) (i, l, e) = premade n (subst (λ x. Premade image x) (sym e) (a_literal i l))
  literal (Int a) h = refl
  literal (Long a) h = refl
  literal Null h = refl

  told : (o : Op) (t : Option Target) → IsLinked image o t → IsTold there o t
  told (op.Ldc i) t (v, e, l) = (v, e, literal v l)
  told (op.Ldc2 i) t (v, e, l) = (v, e, literal v l)
  told _ t h = tt

  module _ (intrinsics : IntrinsicsFine image types accepted there holders f s) (who : Who) (wf : WhoFits image there who) (i : Instruction image types f.method f.at s.work) where
    at_op : (o : Op) → i.placed.op ≡ o → Stands image types accepted there f s o
    at_op = stands image types accepted there f s i

    abbrev plan_of : Op → Next
    plan_of o = next_of image who f o i.placed.next (target_of image f.method f.at) f.stack.values (move_of o (given_to image o (target_of image f.method f.at) f.stack.values) f.locals f.stack.values)

    linked-here : IsLinked image i.placed.op (target_of image f.method f.at)
    linked-here = accepted.links f.method f.at i.placed i.is_placed

    alone-here : IsAlone i.placed.op → Owed (plan_of i.placed.op)
    alone-here a =
        let m = all-moves image f.method there accepted.subs f.at i.placed.op f.locals f.stack.values s.work (linked-switch image i.placed.op (target_of image f.method f.at) linked-here) (told i.placed.op (target_of image f.method f.at) linked-here) s.fits i.keeps in
        move-owes image types accepted there f s i who f.stack.values _ (own-of image f.method there f.locals i.placed.op _ _ a m) m

    alone : (o : Op) → i.placed.op ≡ o → IsAlone o → Owed (plan_of o)
    alone o e a = subst (λ x. Owed (plan_of x)) e (alone-here (subst IsAlone (sym e) a))

    by-reference : (o : Op) (depth : ℕ) → Owed (asked (shared_plan image o (target_of image f.method f.at) f.stack.values).next (with_reference depth AsksIt f.stack.values)) → Owed (next_of image who f o i.placed.next (target_of image f.method f.at) f.stack.values (with_reference depth AsksIt f.stack.values))
    by-reference o depth h = subst (λ x. Owed x) (sym (asks-reference image who f o i.placed.next (target_of image f.method f.at) f.stack.values depth f.stack.values)) h

    by-sizes : (o : Op) (n : ℕ) → Owed (asked (shared_plan image o (target_of image f.method f.at) f.stack.values).next (with_sizes n f.stack.values)) → Owed (next_of image who f o i.placed.next (target_of image f.method f.at) f.stack.values (with_sizes n f.stack.values))
    by-sizes o n h = subst (λ x. Owed x) (sym (asks-sizes image who f o i.placed.next (target_of image f.method f.at) f.stack.values n f.stack.values)) h

    field : (o i0 : ℕ) (d : Desc) → Stands image types accepted there f s (op.Field o i0 d) → Owed (plan_of (op.Field o i0 d))
    field o i0 d x = by-reference (op.Field o i0 d) (if o == code.GETFIELD then 0 else 1) (by_test (o == code.GETFIELD) refl)
      where
        by_test : (b : Bool) → (o == code.GETFIELD) ≡ b → Owed (asked (field_next o d (target_of image f.method f.at) f.stack.values) (with_reference (if b then 0 else 1) AsksIt f.stack.values))
        by_test true e = field-get image types accepted there f s o i0 d e x
        by_test false e = field-put image types accepted there f s o i0 d e x

    call : (o i0 : ℕ) (d : MethodDesc) → Stands image types accepted there f s (op.Invoke o i0 d) → Owed (plan_of (op.Invoke o i0 d))
    call o i0 d x = by_op (o == code.INVOKESTATIC) refl (invoke image types accepted there holders f s intrinsics who wf o i0 d x)
      where
        runs_here : Next
        runs_here = runs_method image who f (method_in (target_of image f.method f.at)) (call_values (call_count o d) f.stack.values)

        receives_here : Next
        receives_here = receiver_call image who f o (method_in (target_of image f.method f.at)) (call_values (call_count o d) f.stack.values)

        call-is : (b : Bool) → (o == code.INVOKESTATIC) ≡ b → (call_plan image who f (op.Invoke o i0 d) (target_of image f.method f.at) f.stack.values).next ≡ (if b then runs_method image who f (method_in (target_of image f.method f.at)) (call_values (call_count o d) f.stack.values) else receiver_call image who f o (method_in (target_of image f.method f.at)) (call_values (call_count o d) f.stack.values))
        call-is true e = rw e refl
        call-is false e = rw e refl

        by_op : (b : Bool) → (o == code.INVOKESTATIC) ≡ b → Owed (if b then runs_method image who f (method_in (target_of image f.method f.at)) (call_values (call_count o d) f.stack.values) else asked (receiver_call image who f o (method_in (target_of image f.method f.at)) (call_values (call_count o d) f.stack.values)) (with_reference (length d.args) CallsIt f.stack.values)) → Owed (next_of image who f (op.Invoke o i0 d) i.placed.next (target_of image f.method f.at) f.stack.values (if b then CallsIt else with_reference (length d.args) CallsIt f.stack.values))
        by_op true e h = subst (λ x. Owed x) (sym (call-is true e)) h
        by_op false e h = subst (λ x. Owed x) (sym (calls-reference image who f (op.Invoke o i0 d) i.placed.next (target_of image f.method f.at) f.stack.values (length d.args) f.stack.values)) (subst (λ x. Owed (asked x (with_reference (length d.args) CallsIt f.stack.values))) (sym (call-is false e)) h)

    pub instruction-fine : (o : Op) → i.placed.op ≡ o → Owed (plan_of o)
    instruction-fine (op.ArrayLoad o) e = by-reference (op.ArrayLoad o) 1 (load image types accepted there f s o (at_op (op.ArrayLoad o) e))
    instruction-fine (op.ArrayStore o) e = by-reference (op.ArrayStore o) 2 (store image types accepted there f s o (at_op (op.ArrayStore o) e))
    instruction-fine (op.Return o) e = return image types accepted there f s o (at_op (op.Return o) e)
    instruction-fine (op.Static o i0 d) e = static image types accepted there f s holders o i0 d (at_op (op.Static o i0 d) e)
    instruction-fine (op.Field o i0 d) e = field o i0 d (at_op (op.Field o i0 d) e)
    instruction-fine (op.Invoke o i0 d) e = call o i0 d (at_op (op.Invoke o i0 d) e)
    instruction-fine (op.New i0) e = new image types accepted there f s i0 (at_op (op.New i0) e)
    instruction-fine (op.NewArray k) e = let x = at_op (op.NewArray k) e in let (a, p, q) = x.linked in by-sizes (op.NewArray k) 1 (made-arrays image types accepted there f s (op.NewArray k) (array_class_of image k) 1 (flow.Array 1 (Primitive (primitive_of k))) x refl refl refl (omega arith) q (a, p))
    instruction-fine (op.AnewArray i0) e = let x = at_op (op.AnewArray i0) e in let (a, p, q) = x.linked in by-sizes (op.AnewArray i0) 1 (made-arrays image types accepted there f s (op.AnewArray i0) (array_class_over image (class_in (target_of image f.method f.at))) 1 (array_over (class_type image (class_in (target_of image f.method f.at)))) x refl refl refl (omega arith) q (a, p))
    instruction-fine (op.MultiNewArray i0 n) e = let x = at_op (op.MultiNewArray i0 n) e in by-sizes (op.MultiNewArray i0 n) n (made-arrays image types accepted there f s (op.MultiNewArray i0 n) (class_in (target_of image f.method f.at)) n (class_type image (class_in (target_of image f.method f.at))) x refl refl refl x.linked.0 refl x.linked.1)
    instruction-fine op.ArrayLength e = by-reference op.ArrayLength 0 (array-length image types accepted there f s (at_op op.ArrayLength e))
    instruction-fine (op.Monitor o) e = by-reference (op.Monitor o) 0 (monitor image types accepted there f s o (at_op (op.Monitor o) e))
    instruction-fine o e = alone o e tt

  -- a frame that fits is never stuck in its body
  pub body-fine : IntrinsicsFine image types accepted there holders f s → (who : Who) → WhoFits image there who → Owed (body_plan image who f).next
  body-fine intrinsics who wf =
      let i : Instruction image types f.method f.at s.work = accepted.instructions f.method f.at s.work s.is_typed in
      let h = instruction-fine intrinsics who wf i i.placed.op refl in
      let q = by-move-is image who f i.placed (target_of image f.method f.at) (move_at i.placed (given_to image i.placed.op (target_of image f.method f.at) f.stack.values) f) in
      subst (λ x. Owed (from (plain Stuck) (λ p. instruction_plan image who f p (target_of image f.method f.at)) x).next) (sym i.is_placed) (subst (λ x. Owed x) (sym q) h)
