-- What a thread asks to be made next is of a class of the program.
use Rattle.std.proofs.Common.{◌≡◌, ℕ, ◌<◌, Bool, true, false, List, [], ◌∷◌, ◌++◌, length, Option, Some, None, refl, arith}
use Rattle.std.specs.Prelude.{◌==◌, if◌then◌else◌, nat_lt, int_lt, slice_get, unsigned_abs, position, ℤ, pos}
use Rattle.std.proofs.lemmas.List.Quantifiers.{position-Some}
use Rattle.jvm_base.specs.Words.{from}
use Rattle.jvm_base.specs.declared.desc.Desc.{Desc}
use Rattle.jvm_base.specs.declared.frame.Frame.{Frame}
use Rattle.jvm_base.specs.declared.frame.Level.{Level}
use Rattle.jvm_base.specs.declared.frame.Level.TheVariants.{Code, Init}
use Rattle.jvm_base.specs.declared.frame.Phase.{Phase}
use Rattle.jvm_base.specs.declared.frame.Phase.TheVariants as phase
use Rattle.jvm_base.specs.declared.name.Name.{Name}
use Rattle.jvm_base.specs.declared.value.Value.{Value}
use Rattle.jvm_base.specs.declared.value.Value.TheVariants.{Int, Long, Ref, Null}
use Rattle.code_table.specs.declared.code.Placed.{Placed}
use Rattle.code_table.specs.declared.op.Op.{Op}
use Rattle.code_table.specs.declared.op.Op.TheVariants as op
use Rattle.code_table.specs.declared.opcode.TheConstants as code
use Rattle.program_image.specs.declared.info.ArrayInfo.{ArrayInfo}
use Rattle.program_image.specs.declared.info.Body.{Body}
use Rattle.program_image.specs.declared.info.Body.TheVariants as body
use Rattle.program_image.specs.declared.info.ClassInfo.{ClassInfo}
use Rattle.program_image.specs.declared.info.Target.{Target}
use Rattle.program_image.specs.declared.info.Target.TheVariants as target
use Rattle.program_image.specs.declared.select.Selected.{Selected}
use Rattle.program_image.specs.declared.select.Selected.TheVariants.{Found, NoBody, NoInterface, NotPublic}
use Rattle.program_image.specs.Program.{Program, target_of}
use Rattle.program_image.specs.Selection.{select_of}
use Rattle.program_image.specs.Words.{instruction_at}
use Rattle.instruction_table.specs.ClassTypes.{class_in, method_in, owner_of}
use Rattle.frame_ops.specs.declared.answer.Fault.{Fault as FaultKind}
use Rattle.frame_ops.specs.declared.answer.Fault.TheVariants as kind
use Rattle.frame_ops.specs.Moves.{Move, Goes, Jumps, Sets, Raises, Throws as ThrowsIt, Asks as AsksIt, Calls as CallsIt, Leaves as LeavesIt, Stuck as StuckThere}
use Rattle.frame_ops.specs.Stepping.{move_at, call_count, call_values}
use Rattle.machine_state.specs.declared.request.Request.{Request}
use Rattle.machine_state.specs.declared.request.Request.TheVariants.{Make, MakeText, Fault, Enter, Exit, InitDone, Buffer, Print, Len}
use Rattle.machine_state.specs.declared.state.Mode.{Mode}
use Rattle.machine_state.specs.declared.state.Mode.TheVariants.{Entry, Running, Raising, Waiting, Ended}
use Rattle.machine_state.specs.Calls.{max_depth, calls, runs, runs_method, runs_selected, is_special_direct, special_call, selected_call, with_receiver, receiver_call, invokes}
use Rattle.machine_state.specs.Classes.{array_class, body_of, clinit_of, thread_run}
use Rattle.machine_state.specs.Instructions.{loads, stores, gets, puts, puts_static, of_reference, static_plan, field_next, shared_plan, call_plan, returns, fault_class, given_to, by_move, instruction_plan}
use Rattle.machine_state.specs.IntrinsicCalls.{with_shown, char_at, same_as, joined, filled, line_end, intrinsic_call, bool_value}
use Rattle.machine_state.specs.Intrinsics.{Intrinsic, Shown, intrinsic_of, WaitOn, NotifyOne, NotifyAllOf, TextLength, CharAt, SameText, Concat, ValueOf, NewBuffer, BufferOf, Append, BufferText, BufferLength, Prints, PrintsLine, PrintsEnd, StartThread, JoinThread, CurrentThread, Sleep, Yield}
use Rattle.machine_state.specs.Next.{Next, Calls, Needs, Wants, Stuck, Who, plain, asking, fault, with_text, answers}
use Rattle.machine_state.specs.Plan.{body_plan, frame_plan, running_plan, unwinds, handled, handler_for, raising_plan, runs_thread, entry_plan, plan}
use Rattle.machine_state.specs.PreMade.{arguments, holder}
use Rattle.program_reads.specs.Whole.{IsWhole}

-- a first index that passes is one of the list's
position_within : {A : Type 0} (test : A → Bool) (xs : List A) (i : ℕ) → position test xs ≡ Some i → i < length xs
position_within test [] i e = absurd cc
position_within test (x ∷ xs) i e = (position-Some test (x ∷ xs) i x e).0

-- what a request asks to be made is of a class of the program
abbrev pub AsksWithin : Program → Request → Type 0
AsksWithin p (Make c sizes) = c < length p.classes
AsksWithin p (Fault c) = c < length p.classes
AsksWithin p r = Unit {0}

-- what comes next asks for no more
abbrev pub Within : Program → Next → Type 0
Within p (Needs r) = AsksWithin p r
Within p n = Unit {0}

module _ (p : Program) (whole : IsWhole p) where
  -- boot classes are classes of the program
  pub boot_within : (c : ℕ) → c < 34 → c < length p.classes
  boot_within c l = let b = whole.boot in omega (arith, l, b)

  -- by a test
  either : (b : Bool) (x y : Next) → Within p x → Within p y → Within p (if b then x else y)
  either true x y g h = g
  either false x y g h = h

  -- by an option
  optional : {A : Type 0} (d : Next) (f : A → Next) (o : Option A) → Within p d → ((a : A) → Within p (f a)) → Within p (from d f o)
  optional d f None g h = g
  optional d f (Some a) g h = h a

  -- ---- array classes

  -- one that is found is a class of the program, as is Object
  array_class_within : (test : ArrayInfo → Bool) → array_class test p < length p.classes
  array_class_within test = by_place (position (λ (k : ClassInfo). from false test k.array) p.classes) refl
    where
      by_place : (o : Option ℕ) → position (λ (k : ClassInfo). from false test k.array) p.classes ≡ o → from 0 (λ (c : ℕ). c) o < length p.classes
      by_place None e = boot_within 0 (omega arith)
      by_place (Some c) e = position_within (λ (k : ClassInfo). from false test k.array) p.classes c e

  -- ---- native methods

  -- whatever comes of a text
  with_text_within : (w : Who) (n : Name) (f : List ℕ → Next) → ((us : List ℕ) → Within p (f us)) → Within p (with_text w n f)
  with_text_within w n f h = optional (Wants n) f (w.known n) tt h

  with_shown_within : (w : Who) (shown : Shown) (v : Value) (f : List ℕ → Next) → ((us : List ℕ) → Within p (f us)) → Within p (with_shown w shown v f)
  with_shown_within w shown (Int a) f h = h _
  with_shown_within w shown (Long a) f h = h _
  with_shown_within w shown (Ref n) f h = with_text_within w n f h
  with_shown_within w shown Null f h = h _

  char_at_within : (f : Frame) (us : List ℕ) (i : ℤ) → Within p (char_at p f us i)
  char_at_within f us i =
      either (int_lt i (pos 0)) (fault 16) (from (fault 16) (λ (u : ℕ). answers p f (Some (Int (pos u)))) (slice_get us (unsigned_abs i)))
      (boot_within 16 (omega arith))
      (optional (fault 16) (λ (u : ℕ). answers p f (Some (Int (pos u)))) (slice_get us (unsigned_abs i)) (boot_within 16 (omega arith)) (λ u. tt))

  same_as_within : (w : Who) (f : Frame) (us : List ℕ) (v : Value) → Within p (same_as p w f us v)
  same_as_within w f us (Ref n) = either (n.class == 2) _ (answers p f (Some (bool_value false))) (with_text_within w n _ (λ ws. tt)) tt
  same_as_within w f us (Int a) = tt
  same_as_within w f us (Long a) = tt
  same_as_within w f us Null = tt

  joined_within : (w : Who) (us : List ℕ) (v : Value) → Within p (joined w us v)
  joined_within w us (Ref n) = with_text_within w n (λ ws. Needs (MakeText (us ++ ws))) (λ ws. tt)
  joined_within w us (Int a) = boot_within 13 (omega arith)
  joined_within w us (Long a) = boot_within 13 (omega arith)
  joined_within w us Null = boot_within 13 (omega arith)

  filled_within : (w : Who) (k : ℕ) (o : Name) (v : Value) → Within p (filled w k o v)
  filled_within w k o (Ref n) = with_text_within w n (λ us. Needs (Buffer o k us)) (λ us. tt)
  filled_within w k o (Int a) = boot_within 13 (omega arith)
  filled_within w k o (Long a) = boot_within 13 (omega arith)
  filled_within w k o Null = boot_within 13 (omega arith)

  -- no native method asks for more than a text, or raises a fault
  intrinsic_within : (w : Who) (k : ℕ) (f : Frame) (i : Intrinsic) (vs : List Value) → Within p (intrinsic_call p w k f i vs)
  intrinsic_within w k f TextLength (Ref o ∷ vs) = with_text_within w o _ (λ us. tt)
  intrinsic_within w k f CharAt (Ref o ∷ Int i ∷ vs) = with_text_within w o _ (λ us. char_at_within f us i)
  intrinsic_within w k f SameText (Ref o ∷ v ∷ vs) = with_text_within w o _ (λ us. same_as_within w f us v)
  intrinsic_within w k f Concat (Ref o ∷ v ∷ vs) = with_text_within w o _ (λ us. joined_within w us v)
  intrinsic_within w k f BufferOf (Ref o ∷ v ∷ vs) = filled_within w k o v
  intrinsic_within w k f (Append shown) (Ref o ∷ v ∷ vs) = with_shown_within w shown v (λ us. Needs (Buffer o k us)) (λ us. tt)
  intrinsic_within w k f (Prints shown) (Ref o ∷ v ∷ vs) = with_shown_within w shown v (λ us. Needs (Print us)) (λ us. tt)
  intrinsic_within w k f (PrintsLine shown) (Ref o ∷ v ∷ vs) = with_shown_within w shown v (λ us. Needs (Print (us ++ line_end))) (λ us. tt)
  intrinsic_within w k f WaitOn (Ref o ∷ vs) = tt
  intrinsic_within w k f NotifyOne (Ref o ∷ vs) = tt
  intrinsic_within w k f NotifyAllOf (Ref o ∷ vs) = tt
  intrinsic_within w k f ValueOf (Int a ∷ vs) = tt
  intrinsic_within w k f ValueOf (Long a ∷ vs) = tt
  intrinsic_within w k f NewBuffer (Ref o ∷ vs) = tt
  intrinsic_within w k f BufferText (Ref o ∷ vs) = tt
  intrinsic_within w k f BufferLength (Ref o ∷ vs) = tt
  intrinsic_within w k f PrintsEnd (Ref o ∷ vs) = tt
  intrinsic_within w k f StartThread (Ref o ∷ vs) = tt
  intrinsic_within w k f JoinThread (Ref o ∷ vs) = tt
  intrinsic_within w k f CurrentThread vs = tt
  intrinsic_within w k f Sleep vs = tt
  intrinsic_within w k f Yield vs = tt
  intrinsic_within w k f _ vs = tt

  -- ---- calls

  -- a call overflows the stack at most
  calls_within : (w : Who) (m : ℕ) (vs : List Value) → Within p (calls w m vs)
  calls_within w m vs = either (nat_lt w.depth max_depth) (Calls m vs) (fault 32) tt (boot_within 32 (omega arith))

  runs_within : (w : Who) (f : Frame) (m : ℕ) (vs : List Value) (b : Body) → Within p (runs p w f m vs b)
  runs_within w f m vs (body.Code c) = calls_within w m vs
  runs_within w f m vs (body.Intrinsic k) = optional Stuck (λ i. intrinsic_call p w k f i vs) (intrinsic_of k) tt (λ i. intrinsic_within w k f i vs)
  runs_within w f m vs body.Abstract = boot_within 29 (omega arith)

  selected_within : (w : Who) (f : Frame) (vs : List Value) (s : Selected) → Within p (runs_selected p w f vs s)
  selected_within w f vs (Found m) = runs_within w f m vs (body_of p m)
  selected_within w f vs NoBody = boot_within 29 (omega arith)
  selected_within w f vs NoInterface = boot_within 28 (omega arith)
  selected_within w f vs NotPublic = boot_within 30 (omega arith)

  receiver_within : (vs : List Value) (f : Name → Next) → ((n : Name) → Within p (f n)) → Within p (with_receiver vs f)
  receiver_within [] f h = tt
  receiver_within (Ref n ∷ vs) f h = h n
  receiver_within (Int a ∷ vs) f h = tt
  receiver_within (Long a ∷ vs) f h = tt
  receiver_within (Null ∷ vs) f h = tt

  -- `invokespecial`
  special_within : (w : Who) (f : Frame) (m : ℕ) (vs : List Value) → Within p (special_call p w f m vs)
  special_within w f m vs = either (is_special_direct p (owner_of p f.method) m) _ _ (runs_within w f m vs (body_of p m)) (selected_within w f vs _)

  invokes_within : (w : Who) (f : Frame) (o m : ℕ) (vs : List Value) → Within p (invokes p w f o m vs).next
  invokes_within w f o m vs = by_test (o == code.INVOKESTATIC)
    where
      called : (n : Name) → Within p (if o == code.INVOKESPECIAL then special_call p w f m vs else selected_call p w f o m vs n)
      called n = either (o == code.INVOKESPECIAL) (special_call p w f m vs) (selected_call p w f o m vs n) (special_within w f m vs) (selected_within w f vs _)

      by_test : (b : Bool) → Within p (if b then asking (owner_of p m) (runs_method p w f m vs) else plain (receiver_call p w f o m vs)).next
      by_test true = runs_within w f m vs (body_of p m)
      by_test false = receiver_within vs _ called

  call_within : (w : Who) (f : Frame) (o : Op) (t : Option Target) (vs : List Value) → Within p (call_plan p w f o t vs).next
  call_within w f (op.Invoke o i d) t vs = invokes_within w f o (method_in t) (call_values (call_count o d) vs)
  call_within w f _ t vs = tt

  -- ---- instructions

  loads_within : (vs : List Value) → Within p (loads vs)
  loads_within (Int i ∷ Ref n ∷ vs) = tt
  loads_within _ = tt

  stores_within : (o : ℕ) (vs : List Value) → Within p (stores o vs)
  stores_within o (v ∷ Int i ∷ Ref n ∷ vs) = tt
  stores_within o _ = tt

  gets_within : (place : ℕ) (vs : List Value) → Within p (gets place vs)
  gets_within place (Ref n ∷ vs) = tt
  gets_within place _ = tt

  puts_within : (d : Desc) (place : ℕ) (vs : List Value) → Within p (puts d place vs)
  puts_within d place (v ∷ Ref n ∷ vs) = tt
  puts_within d place _ = tt

  static_put_within : (d : Desc) (n : Name) (place : ℕ) (vs : List Value) → Within p (puts_static d n place vs)
  static_put_within d n place [] = tt
  static_put_within d n place (v ∷ vs) = tt

  static_within : (o : ℕ) (d : Desc) (t : Option Target) (vs : List Value) → Within p (static_plan p o d t vs).next
  static_within o d (Some (target.Field c place fixed)) vs = either (o == code.GETSTATIC) _ (puts_static d (holder c) place vs) tt (static_put_within d (holder c) place vs)
  static_within o d _ vs = tt

  field_within : (o : ℕ) (d : Desc) (t : Option Target) (vs : List Value) → Within p (field_next o d t vs)
  field_within o d (Some (target.Field c place fixed)) vs = either (o == code.GETFIELD) (gets place vs) (puts d place vs) (gets_within place vs) (puts_within d place vs)
  field_within o d _ vs = tt

  reference_within : (f : Name → Next) (vs : List Value) → ((n : Name) → Within p (f n)) → Within p (of_reference f vs)
  reference_within f (Ref n ∷ vs) h = h n
  reference_within f (Int a ∷ vs) h = tt
  reference_within f (Long a ∷ vs) h = tt
  reference_within f (Null ∷ vs) h = tt
  reference_within f [] h = tt

  monitor_within : (b : Bool) (n : Name) → AsksWithin p (if b then Enter n else Exit n false)
  monitor_within true n = tt
  monitor_within false n = tt

  -- what is made is what the instruction names, or an array class
  shared_within : (o : Op) (t : Option Target) (vs : List Value) → class_in t < length p.classes → Within p (shared_plan p o t vs).next
  shared_within (op.ArrayLoad o) t vs h = loads_within vs
  shared_within (op.ArrayStore o) t vs h = stores_within o vs
  shared_within (op.Static o i d) t vs h = static_within o d t vs
  shared_within (op.Field o i d) t vs h = field_within o d t vs
  shared_within (op.New i) t vs h = h
  shared_within (op.NewArray k) t vs h = array_class_within _
  shared_within (op.AnewArray i) t vs h = array_class_within _
  shared_within (op.MultiNewArray i n) t vs h = h
  shared_within op.ArrayLength t vs h = reference_within (λ n. Needs (Len n)) vs (λ n. tt)
  shared_within (op.Monitor o) t vs h = reference_within (λ n. Needs (if o == code.MONITORENTER then Enter n else Exit n false)) vs (λ n. monitor_within (o == code.MONITORENTER) n)
  shared_within o t vs h = tt

  returns_within : (l : Option Name) (v : Option Value) → Within p (returns l v)
  returns_within None v = tt
  returns_within (Some n) v = tt

  -- what the table of moves raises
  fault_within : (k : FaultKind) → fault_class k < length p.classes
  fault_within kind.Arithmetic = boot_within 12 (omega arith)
  fault_within kind.NullPointer = boot_within 13 (omega arith)
  fault_within kind.ClassCast = boot_within 19 (omega arith)
  fault_within kind.NegativeSize = boot_within 17 (omega arith)

  -- by the move that an instruction comes to
  move_within : (w : Who) (f : Frame) (i : Placed) (t : Option Target) (m : Move) → class_in t < length p.classes → Within p (by_move p w f i t m).next
  move_within w f i t AsksIt h = shared_within i.op t f.stack.values h
  move_within w f i t CallsIt h = call_within w f i.op t f.stack.values
  move_within w f i t (Raises k) h = fault_within k
  move_within w f i t (ThrowsIt e) h = tt
  move_within w f i t (LeavesIt v) h = returns_within f.lock v
  move_within w f i t StuckThere h = tt
  move_within w f i t (Goes vs) h = tt
  move_within w f i t (Jumps to vs) h = tt
  move_within w f i t (Sets n new vs) h = tt

  -- ---- threads

  body_within : (w : Who) (f : Frame) → Within p (body_plan p w f).next
  body_within w f = by_place (instruction_at p f.method f.at)
    where
      by_place : (o : Option Placed) → Within p (from (plain Stuck) (λ i. instruction_plan p w f i (target_of p f.method f.at)) o).next
      by_place None = tt
      by_place (Some i) = move_within w f i (target_of p f.method f.at) (move_at i (given_to p i.op (target_of p f.method f.at) f.stack.values) f) (whole.classes_in f.method f.at)

  frame_within : (w : Who) (f : Frame) (s : Phase) (l : Option Name) → Within p (frame_plan p w f s l).next
  frame_within w f phase.Lock (Some n) = tt
  frame_within w f phase.Lock None = tt
  frame_within w f phase.Body l = body_within w f
  frame_within w f (phase.Unlock v) l = tt

  -- a thread that runs
  running_within : (w : Who) (ls : List Level) → Within p (running_plan p w ls).next
  running_within w [] = tt
  running_within w (Code f ∷ ls) = frame_within w f f.phase f.lock
  running_within w (Init c true ∷ ls) = tt
  running_within w (Init c false ∷ ls) = optional (Needs (InitDone c)) (λ m. calls w m []) (clinit_of p c) tt (λ m. calls_within w m [])

  unwinds_within : (s : Phase) (l : Option Name) → Within p (unwinds s l)
  unwinds_within phase.Body (Some n) = tt
  unwinds_within phase.Body None = tt
  unwinds_within phase.Lock l = tt
  unwinds_within (phase.Unlock v) l = tt

  -- a thread that raises
  raising_within : (e : Name) (ls : List Level) → Within p (raising_plan p e ls).next
  raising_within e [] = tt
  raising_within e (Code f ∷ ls) = optional (unwinds f.phase f.lock) (handled f e) (handler_for p f e) (unwinds_within f.phase f.lock) (λ to. tt)
  raising_within e (Init c b ∷ ls) = tt

  -- a thread that has not begun
  entry_within : (w : Who) → Within p (entry_plan p w).next
  entry_within w = by_first w.first
    where
      by_selected : (s : Selected) → Within p (runs_thread p w s)
      by_selected (Found m) = calls_within w m (Ref w.object ∷ [])
      by_selected NoBody = boot_within 29 (omega arith)
      by_selected NoInterface = boot_within 28 (omega arith)
      by_selected NotPublic = boot_within 30 (omega arith)

      by_first : (b : Bool) → Within p (if b then asking (owner_of p p.main) (calls w p.main (Ref (arguments p) ∷ [])) else plain (runs_thread p w (select_of p.classes p.methods w.object.class (thread_run p) false))).next
      by_first true = calls_within w p.main (Ref (arguments p) ∷ [])
      by_first false = by_selected (select_of p.classes p.methods w.object.class (thread_run p) false)

  -- whatever a thread is about
  pub plan_within : (w : Who) (mode : Mode) (ls : List Level) → Within p (plan p w mode ls).next
  unfolding plan
  plan_within w Entry ls = entry_within w
  plan_within w Running ls = running_within w ls
  plan_within w (Raising e) ls = raising_within e ls
  plan_within w (Waiting n k) ls = tt
  plan_within w Ended ls = tt
