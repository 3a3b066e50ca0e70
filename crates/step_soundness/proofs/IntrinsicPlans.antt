-- The 34 intrinsics: none is stuck, and what each asks and answers is of its row's types.
use Rattle.std.proofs.Common.{◌≡◌, ◌∙◌, sym, subst, refl, ℕ, zero, suc, ◌<◌, Bool, true, false, List, [], ◌∷◌, ◌++◌, map, length, Option, Some, None, ◌⊎◌, inl, inr, arith}
use Rattle.std.specs.Prelude.{◌&&◌, ◌==◌, not, if◌then◌else◌, slice_get, unsigned_abs, int_lt, ℤ, pos}
use Rattle.std.specs.Fmt.{signed_decimal}
use Rattle.std.specs.Option.{option_to_list}
use Rattle.std.proofs.lemmas.Bool.{eqb-true}
use Rattle.std.proofs.lemmas.Bool.Decides.{nat_tests}
use Rattle.jvm_base.specs.Words.{from}
use Rattle.jvm_base.specs.declared.desc.Desc.{Desc}
use Rattle.jvm_base.specs.declared.frame.Frame.{Frame}
use Rattle.jvm_base.specs.declared.name.Name.{Name}
use Rattle.jvm_base.specs.declared.value.Value.{Value}
use Rattle.jvm_base.specs.declared.value.Value.TheVariants.{Int, Long, Ref, Null}
use Rattle.code_table.specs.declared.code.Placed.{Placed}
use Rattle.program_image.specs.Program.{Program}
use Rattle.program_image.specs.Signatures.{same_text}
use Rattle.program_image.specs.Words.{instruction_at}
use Rattle.flow_types.specs.Tree.{superclasses}
use Rattle.flow_types.specs.Types.{type_fits}
use Rattle.flow_types.specs.declared.flow_type.FlowType.{FlowType}
use Rattle.flow_types.specs.declared.flow_type.FlowType.TheVariants as flow
use Rattle.flow_types.proofs.ListLaws.{and_parts, and_both}
use Rattle.instruction_table.specs.ClassTypes.{plain, class_type, desc_type, value_type, owner_of, args_of, is_initialiser, is_static_method}
use Rattle.frame_ops.specs.Stepping.{placed_answered}
use Rattle.machine_state.specs.declared.request.Request.{Request}
use Rattle.machine_state.specs.declared.request.Request.TheVariants.{MakeText, Fault, Wait, Notify, NotifyAll, Start, Join, Buffer, Print}
use Rattle.machine_state.specs.Bodies.{count_value}
use Rattle.machine_state.specs.IntrinsicCalls.{with_shown, line_end, char_at, bool_value, same_as, joined, calls_intrinsic}
use Rattle.machine_state.specs.Intrinsics.{Shown, Number, Letter, Truth, Words}
use Rattle.machine_state.specs.Next.{Next, Alone, Needs, Wants, Who, answered, with_text, answers as answers_next}
use Rattle.machine_state.specs.PreMade.{holder}
use Rattle.frame_soundness.specs.AcceptedProgram.{Types, Accepted}
use Rattle.frame_soundness.specs.Frames.{FrameFits}
use Rattle.frame_soundness.specs.Natives.{NativeFits, native_at, string_type, buffer_type, thread_type}
use Rattle.frame_soundness.specs.Values.{is_there, typed, all_held}
use Rattle.frame_soundness.proofs.HeldLaws.{class-shape, ClassShape, a_class, an_array}
use Rattle.machine_soundness.specs.Asks.{Asks, buffer_answer}
use Rattle.machine_soundness.specs.Bodies.{suits, all_suit}
use Rattle.step_soundness.proofs.CallPlans.{WhoFits, IntrinsicsFine, call-answers, suits-held}
use Rattle.step_soundness.proofs.FrameLaws.{Answers}
use Rattle.step_soundness.proofs.HeapPlans.{desc-own, own-erased}
use Rattle.step_soundness.proofs.Requests.{Answered, Owes}
use Rattle.step_soundness.proofs.SelectLaws.{args-is}

-- a property of the numbers below one
abbrev Each : (ℕ → Type 0) → ℕ → Type 0
Each P zero = Unit {0}
Each P (suc n) = Each P n × P n

each-of : (P : ℕ → Type 0) (n k : ℕ) → k < n → Each P n → P k
each-of P zero k l h = absurd (omega arith)
each-of P (suc n) k l h = by_test (k == n) refl (λ q. each-of P n k q h.0)
  where
    by_test : (b : Bool) → (k == n) ≡ b → (k < n → P k) → P k
    by_test true e again = subst P (sym (eqb-true k n e)) h.1
    by_test false e again = again (grind (arith, nat_tests))

pub method-stays : (image : Program) (f : Frame) (v : Option Value) → (answered image v f).method ≡ f.method
method-stays image f v = by_placed (instruction_at image f.method f.at)
  where
    by_placed : (o : Option Placed) → (from f (λ i. placed_answered i v f) o).method ≡ f.method
    by_placed None = refl
    by_placed (Some p) = refl

pub phase-stays : (image : Program) (f : Frame) (v : Option Value) → (answered image v f).phase ≡ f.phase
phase-stays image f v = by_placed (instruction_at image f.method f.at)
  where
    by_placed : (o : Option Placed) → (from f (λ i. placed_answered i v f) o).phase ≡ f.phase
    by_placed None = refl
    by_placed (Some p) = refl

no-number : (image : Program) (t : FlowType) (c : ℕ) → (t ≡ flow.Int) ⊎ (t ≡ flow.Long) → type_fits (superclasses image) (class_type image c) t ≡ true → ⊥
no-number image t c k h = by_shape (class-shape image c) k
  where
    by_shape : ClassShape (class_type image c) → (t ≡ flow.Int) ⊎ (t ≡ flow.Long) → ⊥
    by_shape (a_class x e) (inl q) = let g : false ≡ true = rw (e, q) at h in cc
    by_shape (a_class x e) (inr q) = let g : false ≡ true = rw (e, q) at h in cc
    by_shape (an_array d x e) (inl q) = let g : false ≡ true = rw (e, q) at h in cc
    by_shape (an_array d x e) (inr q) = let g : false ≡ true = rw (e, q) at h in cc

module _ (image : Program) (types : Types) (accepted : Accepted image types) (there : Name → Bool) (f : Frame) (s : FrameFits image types there f) (who : Who) (wf : WhoFits image there who) where
  abbrev Owed : Next → Type 0
  Owed n = Owes image types accepted there f n

  abbrev Suit : List Value → List FlowType → Type 0
  Suit vs ts = all_suit image there vs ts ≡ true

  module _ (ts : List FlowType) (an : Answers image types accepted there f ts) where
    -- the intrinsic answers at once
    goes : (v : Option Value) → Suit (option_to_list v) ts → Owed (Alone (answered image v f))
    goes v h = record { fits = an there s v (suits-held image types accepted there f.method (option_to_list v) ts h); same_method = method-stays image f v; same_phase = phase-stays image f v }

    asks-one : (r : Request) → Asks image there r ts → Answered image types accepted there f r
    asks-one r a = record { types_of = ts; asks = a; answers = an }

  text-of : (n : Name) (g : List ℕ → Next) → there n ≡ true → n.class ≡ 2 → ((us : List ℕ) → Owed (g us)) → Owed (with_text who n g)
  text-of n g h e k = let (us, q) = wf.known n h e in subst (λ x. Owed (from (Wants n) g x)) (sym q) (k us)

  string-there : (n : Name) → suits image there (Ref n) string_type ≡ true → (there n ≡ true) × (n.class ≡ 2)
  string-there n h = let (p, q) = and_parts _ _ h in (p, accepted.classes.strings n.class q)

  -- an argument that is shown: an int, a long, or a String
  shown : (k : Shown) (v : Value) (g : List ℕ → Next) → ((n : Name) → v ≡ Ref n → suits image there v string_type ≡ true) → ((us : List ℕ) → Owed (g us)) → Owed (with_shown who k v g)
  shown k (Int a) g h z = z _
  shown k (Long a) g h z = z _
  shown k Null g h z = z _
  shown k (Ref n) g h z = let (p, q) = string-there n (h n refl) in text-of n g p q z

  int-value : (v : Value) → suits image there v flow.Int ≡ true → (a : ℤ) × (v ≡ Int a)
  int-value (Int a) h = (a, refl)
  int-value (Long a) h = absurd cc
  int-value Null h = absurd cc
  int-value (Ref n) h = absurd (no-number image flow.Int n.class (inl refl) ((and_parts _ _ h).1))

  long-value : (v : Value) → suits image there v flow.Long ≡ true → (a : ℤ) × (v ≡ Long a)
  long-value (Long a) h = (a, refl)
  long-value (Int a) h = absurd cc
  long-value Null h = absurd cc
  long-value (Ref n) h = absurd (no-number image flow.Long n.class (inr refl) ((and_parts _ _ h).1))

  -- one argument
  one-of : (t : FlowType) (vs : List Value) → Suit vs (t ∷ []) → (v : Value) × (vs ≡ v ∷ []) × (suits image there v t ≡ true)
  one-of t [] h = absurd cc
  one-of t (v ∷ []) h = (v, refl, (and_parts _ _ h).0)
  one-of t (v ∷ w ∷ vs) h = let (p, q) = and_parts (suits image there v t) false h in absurd cc

  none-of : (vs : List Value) → Suit vs [] → vs ≡ []
  none-of [] h = refl
  none-of (v ∷ vs) h = absurd cc

  no-ref : (v : Value) → ((a : ℤ) × (v ≡ Int a)) → (n : Name) → v ≡ Ref n → suits image there v string_type ≡ true
  no-ref v (a, e) n q = absurd cc

  no-ref-long : (v : Value) → ((a : ℤ) × (v ≡ Long a)) → (n : Name) → v ≡ Ref n → suits image there v string_type ≡ true
  no-ref-long v (a, e) n q = absurd cc

  -- ---- instance methods, by number

  -- the object is there and of the class
  abbrev OfClass : ℕ → Name → Type 0
  OfClass k n = (there n ≡ true) × (type_fits (superclasses image) (class_type image n.class) (flow.Class (native_at k).owner) ≡ true)

  abbrev On : ℕ → Type 0
  On k = (native_at k).fixed ≡ false → Answers image types accepted there f (native_at k).result → (n : Name) (us : List Value) → OfClass k n → Suit us (native_at k).args → Owed (calls_intrinsic image who k f (Ref n ∷ us))

  alone-on : (k : ℕ) → (native_at k).args ≡ [] → (Answers image types accepted there f (native_at k).result → (n : Name) → OfClass k n → Owed (calls_intrinsic image who k f (Ref n ∷ []))) → On k
  alone-on k e g x an n us c a = subst (λ z. Owed (calls_intrinsic image who k f (Ref n ∷ z))) (sym (none-of us (subst (λ z. Suit us z) e a))) (g an n c)

  one-on : (k : ℕ) (t : FlowType) → (native_at k).args ≡ t ∷ [] → (Answers image types accepted there f (native_at k).result → (n : Name) → OfClass k n → (v : Value) → suits image there v t ≡ true → Owed (calls_intrinsic image who k f (Ref n ∷ v ∷ []))) → On k
  one-on k t e g x an n us c a = let (v, q, w) = one-of t us (subst (λ z. Suit us z) e a) in subst (λ z. Owed (calls_intrinsic image who k f (Ref n ∷ z))) (sym q) (g an n c v w)

  static-on : (k : ℕ) → (native_at k).fixed ≡ true → On k
  static-on k e x an n us c a = let g : true ≡ false = sym e ∙ x in absurd cc

  char-fine : (us : List ℕ) (a : ℤ) → Answers image types accepted there f (flow.Int ∷ []) → Owed (char_at image f us a)
  char-fine us a an = by_sign (int_lt a (pos 0))
    where
      by_unit : (o : Option ℕ) → Owed (from (Needs (Fault 16)) (λ u. Alone (answered image (Some (Int (pos u))) f)) o)
      by_unit None = refl
      by_unit (Some u) = goes (flow.Int ∷ []) an (Some (Int (pos u))) refl

      by_sign : (b : Bool) → Owed (if b then Needs (Fault 16) else from (Needs (Fault 16)) (λ u. Alone (answered image (Some (Int (pos u))) f)) (slice_get us (unsigned_abs a)))
      by_sign true = refl
      by_sign false = by_unit (slice_get us (unsigned_abs a))

  char-on : On 4
  char-on = one-on 4 flow.Int refl (λ an n c v w.
      let (a, e) = int-value v w in
      subst (λ z. Owed (calls_intrinsic image who 4 f (Ref n ∷ z ∷ []))) (sym e) (text-of n (λ us. char_at image f us a) c.0 (accepted.classes.strings n.class c.1) (λ us. char-fine us a an)))

  length-on : On 3
  length-on = alone-on 3 refl (λ an n c. text-of n _ c.0 (accepted.classes.strings n.class c.1) (λ us. goes (flow.Int ∷ []) an (Some (count_value (length us))) refl))

  bool-suits : (b : Bool) → Suit (option_to_list (Some (bool_value b))) (flow.Int ∷ [])
  bool-suits b = refl

  same-fine : (us : List ℕ) (n : Name) → there n ≡ true → Answers image types accepted there f (flow.Int ∷ []) → (b : Bool) → (n.class == 2) ≡ b → Owed (if b then with_text who n (λ ws. answers_next image f (Some (bool_value (same_text us ws)))) else answers_next image f (Some (bool_value false)))
  same-fine us n h an true e = text-of n _ h (eqb-true n.class 2 e) (λ ws. goes (flow.Int ∷ []) an (Some (bool_value (same_text us ws))) (bool-suits (same_text us ws)))
  same-fine us n h an false e = goes (flow.Int ∷ []) an (Some (bool_value false)) refl

  equals-on : On 5
  equals-on = one-on 5 (flow.Class 0) refl (λ an n c v w. text-of n (λ us. same_as image who f us v) c.0 (accepted.classes.strings n.class c.1) (λ us. by_value us an v w))
    where
      by_value : (us : List ℕ) → Answers image types accepted there f (flow.Int ∷ []) → (v : Value) → suits image there v (flow.Class 0) ≡ true → Owed (same_as image who f us v)
      by_value us an (Int a) w = absurd cc
      by_value us an (Long a) w = absurd cc
      by_value us an Null w = goes (flow.Int ∷ []) an (Some (bool_value false)) refl
      by_value us an (Ref q) w = same-fine us q ((and_parts _ _ w).0) an (q.class == 2) refl

  concat-on : On 6
  concat-on = one-on 6 string_type refl (λ an n c v w. text-of n _ c.0 (accepted.classes.strings n.class c.1) (λ us. by_value us an v w))
    where
      by_value : (us : List ℕ) → Answers image types accepted there f (string_type ∷ []) → (v : Value) → suits image there v string_type ≡ true → Owed (joined who us v)
      by_value us an (Int a) w = absurd cc
      by_value us an (Long a) w = absurd cc
      by_value us an Null w = refl
      by_value us an (Ref q) w = let (a, b) = string-there q w in text-of q _ a b (λ ws. asks-one (string_type ∷ []) an (MakeText (us ++ ws)) refl)

  wait-on : On 0
  wait-on = alone-on 0 refl (λ an n c. asks-one [] an (Wait n) (c.0, refl))

  notify-on : On 1
  notify-on = alone-on 1 refl (λ an n c. asks-one [] an (Notify n) (c.0, refl))

  notify-all-on : On 2
  notify-all-on = alone-on 2 refl (λ an n c. asks-one [] an (NotifyAll n) (c.0, refl))

  start-on : On 29
  start-on = alone-on 29 refl (λ an n c. asks-one [] an (Start n) (record { is_here = c.0; fits = c.1 }, refl))

  join-on : On 30
  join-on = alone-on 30 refl (λ an n c. asks-one [] an (Join n) (c.0, refl))

  begin-buffer : On 9
  begin-buffer = alone-on 9 refl (λ an n c. asks-one [] an (Buffer n 9 []) (c.0, accepted.classes.buffers n.class c.1, refl))

  buffer-text : On 16
  buffer-text = alone-on 16 refl (λ an n c. asks-one (string_type ∷ []) an (Buffer n 16 []) (c.0, accepted.classes.buffers n.class c.1, refl))

  buffer-length : On 17
  buffer-length = alone-on 17 refl (λ an n c. asks-one (flow.Int ∷ []) an (Buffer n 17 []) (c.0, accepted.classes.buffers n.class c.1, refl))

  begin-text : On 10
  begin-text = one-on 10 string_type refl (λ an n c v w. by_value n c an v w)
    where
      by_value : (n : Name) → OfClass 10 n → Answers image types accepted there f [] → (v : Value) → suits image there v string_type ≡ true → Owed (calls_intrinsic image who 10 f (Ref n ∷ v ∷ []))
      by_value n c an (Int a) w = refl
      by_value n c an (Long a) w = refl
      by_value n c an Null w = refl
      by_value n c an (Ref q) w = let (a, b) = string-there q w in text-of q (λ us. Needs (Buffer n 10 us)) a b (λ us. asks-one [] an (Buffer n 10 us) (c.0, accepted.classes.buffers n.class c.1, refl))

  append-one : (k : ℕ) → Answers image types accepted there f (buffer_type ∷ []) → (n : Name) → there n ≡ true → n.class ≡ 3 → buffer_type ∷ [] ≡ buffer_answer k → (x : Shown) (v : Value) → ((q : Name) → v ≡ Ref q → suits image there v string_type ≡ true) → Owed (with_shown who x v (λ us. Needs (Buffer n k us)))
  append-one k an n h e r x v g = shown x v (λ us. Needs (Buffer n k us)) g (λ us. asks-one (buffer_type ∷ []) an (Buffer n k us) (h, e, r))

  print-one : Answers image types accepted there f [] → (x : Shown) (v : Value) (g : List ℕ → List ℕ) → ((q : Name) → v ≡ Ref q → suits image there v string_type ≡ true) → Owed (with_shown who x v (λ us. Needs (Print (g us))))
  print-one an x v g h = shown x v (λ us. Needs (Print (g us))) h (λ us. asks-one [] an (Print (g us)) refl)

  newline-on : On 28
  newline-on = alone-on 28 refl (λ an n c. asks-one [] an (Print line_end) refl)

  append-on-11 : On 11
  append-on-11 = one-on 11 flow.Int refl (λ an n c v w. append-one 11 an n c.0 (accepted.classes.buffers n.class c.1) refl Number v (no-ref v (int-value v w)))

  append-on-12 : On 12
  append-on-12 = one-on 12 flow.Long refl (λ an n c v w. append-one 12 an n c.0 (accepted.classes.buffers n.class c.1) refl Number v (no-ref-long v (long-value v w)))

  append-on-13 : On 13
  append-on-13 = one-on 13 flow.Int refl (λ an n c v w. append-one 13 an n c.0 (accepted.classes.buffers n.class c.1) refl Letter v (no-ref v (int-value v w)))

  append-on-14 : On 14
  append-on-14 = one-on 14 flow.Int refl (λ an n c v w. append-one 14 an n c.0 (accepted.classes.buffers n.class c.1) refl Truth v (no-ref v (int-value v w)))

  append-on-15 : On 15
  append-on-15 = one-on 15 string_type refl (λ an n c v w. append-one 15 an n c.0 (accepted.classes.buffers n.class c.1) refl Words v (λ q e. w))

  print-on-18 : On 18
  print-on-18 = one-on 18 flow.Int refl (λ an n c v w. print-one an Number v (λ us. us) (no-ref v (int-value v w)))

  print-on-19 : On 19
  print-on-19 = one-on 19 flow.Long refl (λ an n c v w. print-one an Number v (λ us. us) (no-ref-long v (long-value v w)))

  print-on-20 : On 20
  print-on-20 = one-on 20 flow.Int refl (λ an n c v w. print-one an Letter v (λ us. us) (no-ref v (int-value v w)))

  print-on-21 : On 21
  print-on-21 = one-on 21 flow.Int refl (λ an n c v w. print-one an Truth v (λ us. us) (no-ref v (int-value v w)))

  print-on-22 : On 22
  print-on-22 = one-on 22 string_type refl (λ an n c v w. print-one an Words v (λ us. us) (λ q e. w))

  print-on-23 : On 23
  print-on-23 = one-on 23 flow.Int refl (λ an n c v w. print-one an Number v (λ us. us ++ line_end) (no-ref v (int-value v w)))

  print-on-24 : On 24
  print-on-24 = one-on 24 flow.Long refl (λ an n c v w. print-one an Number v (λ us. us ++ line_end) (no-ref-long v (long-value v w)))

  print-on-25 : On 25
  print-on-25 = one-on 25 flow.Int refl (λ an n c v w. print-one an Letter v (λ us. us ++ line_end) (no-ref v (int-value v w)))

  print-on-26 : On 26
  print-on-26 = one-on 26 flow.Int refl (λ an n c v w. print-one an Truth v (λ us. us ++ line_end) (no-ref v (int-value v w)))

  print-on-27 : On 27
  print-on-27 = one-on 27 string_type refl (λ an n c v w. print-one an Words v (λ us. us ++ line_end) (λ q e. w))

  all-on : Each On 34
  all-on = ((((((((((((((((((((((((((((((((((tt, wait-on), notify-on), notify-all-on), length-on), char-on), equals-on), concat-on), static-on 7 refl), static-on 8 refl), begin-buffer), begin-text), append-on-11), append-on-12), append-on-13), append-on-14), append-on-15), buffer-text), buffer-length), print-on-18), print-on-19), print-on-20), print-on-21), print-on-22), print-on-23), print-on-24), print-on-25), print-on-26), print-on-27), newline-on), start-on), join-on), static-on 31 refl), static-on 32 refl), static-on 33 refl)

  -- ---- methods without a receiver

  abbrev AtOnce : ℕ → Type 0
  AtOnce k = (native_at k).fixed ≡ true → Answers image types accepted there f (native_at k).result → (vs : List Value) → Suit vs (native_at k).args → Owed (calls_intrinsic image who k f vs)

  instance-at : (k : ℕ) → (native_at k).fixed ≡ false → AtOnce k
  instance-at k e x an vs a = let g : false ≡ true = sym e ∙ x in absurd cc

  of-int : AtOnce 7
  of-int x an vs a =
      let (v, q, w) = one-of flow.Int vs a in let (i, e) = int-value v w in
      subst (λ z. Owed (calls_intrinsic image who 7 f z)) (sym q) (subst (λ z. Owed (calls_intrinsic image who 7 f (z ∷ []))) (sym e) (asks-one (string_type ∷ []) an (MakeText (signed_decimal i)) refl))

  of-long : AtOnce 8
  of-long x an vs a =
      let (v, q, w) = one-of flow.Long vs a in let (i, e) = long-value v w in
      subst (λ z. Owed (calls_intrinsic image who 8 f z)) (sym q) (subst (λ z. Owed (calls_intrinsic image who 8 f (z ∷ []))) (sym e) (asks-one (string_type ∷ []) an (MakeText (signed_decimal i)) refl))

  current-thread : AtOnce 31
  current-thread x an vs a = goes (thread_type ∷ []) an (Some (Ref who.object)) (and_both _ _ (and_both _ _ wf.object.is_here wf.object.fits) refl)

  sleep : AtOnce 32
  sleep x an vs a = goes [] an None refl

  yields : AtOnce 33
  yields x an vs a = goes [] an None refl

  all-at : Each AtOnce 34
  all-at = ((((((((((((((((((((((((((((((((((tt, instance-at 0 refl), instance-at 1 refl), instance-at 2 refl), instance-at 3 refl), instance-at 4 refl), instance-at 5 refl), instance-at 6 refl), of-int), of-long), instance-at 9 refl), instance-at 10 refl), instance-at 11 refl), instance-at 12 refl), instance-at 13 refl), instance-at 14 refl), instance-at 15 refl), instance-at 16 refl), instance-at 17 refl), instance-at 18 refl), instance-at 19 refl), instance-at 20 refl), instance-at 21 refl), instance-at 22 refl), instance-at 23 refl), instance-at 24 refl), instance-at 25 refl), instance-at 26 refl), instance-at 27 refl), instance-at 28 refl), instance-at 29 refl), instance-at 30 refl), current-thread), sleep), yields)

-- ---- all intrinsics

module _ (image : Program) (types : Types) (accepted : Accepted image types) (there : Name → Bool) where
  held-suit : (method : ℕ) (ds : List Desc) (vs : List Value) → all_held image method there vs (map (desc_type image) ds) ≡ true → all_suit image there vs (map (desc_type image) ds) ≡ true
  held-suit method [] [] h = refl
  held-suit method (d ∷ ds) (v ∷ vs) h =
      let (p, q) = and_parts _ _ h in
      and_both _ _ (subst (λ x. (is_there there v && type_fits (superclasses image) (value_type image v) x) ≡ true) (own-erased image method (desc_type image d) (desc-own image d)) p) (held-suit method ds vs q)
  held-suit method [] (v ∷ vs) h = absurd cc
  held-suit method (d ∷ ds) [] h = absurd cc

  pub intrinsics-fine : (premade : (c : ℕ) → c < length image.classes → there (holder c) ≡ true) (f : Frame) (s : FrameFits image types there f) → IntrinsicsFine image types accepted there premade f s
  intrinsics-fine premade f s who wf o i d st m k vs eb ed call = by_fixed (is_static_method image m) refl call.held call.begins
    where
      nf : NativeFits image m k d
      nf = accepted.classes.natives m k d eb ed

      result-here : Answers image types accepted there f (native_at k).result
      result-here = subst (λ x. Answers image types accepted there f x) nf.result (call-answers image types accepted there f s o i d st)

      args-here : map (desc_type image) (args_of image m) ≡ (native_at k).args
      args-here = subst (λ ds. map (desc_type image) ds ≡ (native_at k).args) (sym (args-is image m d ed)) nf.args

      receiver-class : (b : Bool) (v : Value) → typed image m v (if b then flow.FreshThis else flow.Class (plain image (owner_of image m))) ≡ true → type_fits (superclasses image) (value_type image v) (flow.Class (owner_of image m)) ≡ true
      receiver-class true v h = h
      receiver-class false v h = subst (λ x. type_fits (superclasses image) (value_type image v) (flow.Class x) ≡ true) nf.no_interface h

      on-receiver : is_static_method image m ≡ false → (n : Name) × (us : List Value) × (vs ≡ Ref n ∷ us) → (b : Bool) → all_held image m there vs ((if b then flow.FreshThis else flow.Class (plain image (owner_of image m))) ∷ map (desc_type image) (args_of image m)) ≡ true → Owes image types accepted there f (calls_intrinsic image who k f vs)
      on-receiver q (n, us, e) b hd =
          let g : all_held image m there (Ref n ∷ us) ((if b then flow.FreshThis else flow.Class (plain image (owner_of image m))) ∷ map (desc_type image) (args_of image m)) ≡ true = subst (λ x. all_held image m there x ((if b then flow.FreshThis else flow.Class (plain image (owner_of image m))) ∷ map (desc_type image) (args_of image m)) ≡ true) e hd in
          let (x, y) = and_parts _ _ g in
          let (x1, x2) = and_parts _ _ x in
          let c : type_fits (superclasses image) (class_type image n.class) (flow.Class (native_at k).owner) ≡ true = subst (λ z. type_fits (superclasses image) (class_type image n.class) (flow.Class z) ≡ true) nf.owner (receiver-class b (Ref n) x2) in
          subst (λ z. Owes image types accepted there f (calls_intrinsic image who k f z)) (sym e)
          (each-of (On image types accepted there f s who wf) 34 k nf.few (all-on image types accepted there f s who wf) (sym nf.fixed ∙ q) result-here n us (x1, c) (subst (λ z. all_suit image there us z ≡ true) args-here (held-suit m (args_of image m) us y)))

      by_fixed : (b : Bool) → is_static_method image m ≡ b → all_held image m there vs ((if b then [] else (if is_initialiser image m && not (owner_of image m == 0) then flow.FreshThis else flow.Class (plain image (owner_of image m))) ∷ []) ++ map (desc_type image) (args_of image m)) ≡ true → (is_static_method image m ≡ true) ⊎ ((n : Name) × (us : List Value) × (vs ≡ Ref n ∷ us)) → Owes image types accepted there f (calls_intrinsic image who k f vs)
      by_fixed true q hd r = each-of (AtOnce image types accepted there f s who wf) 34 k nf.few (all-at image types accepted there f s who wf) (sym nf.fixed ∙ q) result-here vs (subst (λ z. all_suit image there vs z ≡ true) args-here (held-suit m (args_of image m) vs hd))
      by_fixed false q hd (inl x) = let g : false ≡ true = sym q ∙ x in absurd cc
      by_fixed false q hd (inr x) = on-receiver q x (is_initialiser image m && not (owner_of image m == 0)) hd
