-- A thread of a sound machine whose step isn't enabled waits for a lock, a thread or a class.
use Rattle.std.proofs.Common.{◌≡◌, ◌∙◌, sym, ap, subst, refl, ℕ, zero, suc, ◌<◌, Bool, true, false, List, [], ◌∷◌, length, Option, Some, None, arith}
use Rattle.std.specs.Prelude.{◌==◌, if◌then◌else◌, nat_lt, slice_get, is_some, option_map}
use Rattle.std.proofs.lemmas.List.{length-map}
use Rattle.std.proofs.lemmas.Option.{slice_get-map}
use Rattle.jvm_base.specs.Words.{from}
use Rattle.jvm_base.specs.declared.frame.Frame.{Frame}
use Rattle.jvm_base.specs.declared.frame.Level.{Level}
use Rattle.jvm_base.specs.declared.frame.Level.TheVariants.{Code, Init}
use Rattle.jvm_base.specs.declared.frame.Phase.{Phase}
use Rattle.jvm_base.specs.declared.frame.Phase.TheVariants as phase
use Rattle.jvm_base.specs.declared.name.Name.{Name}
use Rattle.jvm_base.specs.declared.value.Value.{Value}
use Rattle.jvm_base.specs.declared.value.Value.TheVariants.{Ref}
use Rattle.code_table.specs.declared.code.Code.{Code as MethodCode}
use Rattle.code_table.specs.declared.code.Placed.{Placed}
use Rattle.code_table.specs.declared.op.Op.{Op}
use Rattle.code_table.specs.declared.op.Op.TheVariants as op
use Rattle.code_table.specs.declared.opcode.TheConstants as code
use Rattle.program_image.specs.declared.info.ClassInfo.{ClassInfo}
use Rattle.program_image.specs.declared.info.Target.{Target}
use Rattle.program_image.specs.declared.select.Selected.{Selected}
use Rattle.program_image.specs.declared.select.Selected.TheVariants.{Found, NoBody, NoInterface, NotPublic}
use Rattle.program_image.specs.Handlers.{code_of}
use Rattle.program_image.specs.Program.{Program, target_of}
use Rattle.program_image.specs.Selection.{select_of}
use Rattle.program_image.specs.Words.{super_of, instruction_at}
use Rattle.flow_types.specs.Tree.{superclasses, superclass, flat, Up, IsTree}
use Rattle.flow_types.specs.declared.flow_type.FlowType.{FlowType}
use Rattle.flow_types.proofs.TreeLaws.{within}
use Rattle.instruction_table.specs.ClassTypes.{owner_of, method_in}
use Rattle.frame_ops.specs.Moves.{Move, Goes, Jumps, Sets, Raises, Throws as ThrowsIt, Asks as AsksIt, Calls as CallsIt, Leaves as LeavesIt, Stuck as StuckThere}
use Rattle.machine_state.specs.declared.request.Request.{Request}
use Rattle.machine_state.specs.declared.request.Request.TheVariants.{Fault, Enter, Exit, Begin, InitDone, InitFail, Finish}
use Rattle.machine_state.specs.declared.state.Choice.{Choice}
use Rattle.machine_state.specs.declared.state.ClassState.{ClassState}
use Rattle.machine_state.specs.declared.state.ClassState.TheVariants as class_state
use Rattle.machine_state.specs.declared.state.Mode.{Mode}
use Rattle.machine_state.specs.declared.state.Mode.TheVariants.{Entry, Running, Raising, Waiting, Ended}
use Rattle.machine_state.specs.declared.state.ThreadState.{ThreadState}
use Rattle.machine_state.specs.Calls.{max_depth, calls}
use Rattle.machine_state.specs.Classes.{is_constant, clinit_of, thread_run}
use Rattle.machine_state.specs.Complete.{Stand}
use Rattle.machine_state.specs.Deeds.{Deed}
use Rattle.machine_state.specs.Instructions.{shared_plan, call_plan, by_move, instruction_plan}
use Rattle.machine_state.specs.Next.{Next, Alone, Throws, Calls, Leaves, Drops, Needs, Wants, Stuck, Plan, Who, plain, asking}
use Rattle.machine_state.specs.Plan.{body_plan, frame_plan, running_plan, unwinds, handled, handler_for, raising_plan, runs_thread, entry_plan, plan}
use Rattle.machine_state.specs.PreMade.{arguments}
use Rattle.machine_state.specs.Requests.{key_of, cell}
use Rattle.machine_state.specs.Serve.{serve}
use Rattle.machine_state.specs.State.{State}
use Rattle.machine_state.specs.Step.{who, alone, taken, served, performed, asked, planned, by_mode, attempt}
use Rattle.frame_soundness.specs.AcceptedProgram.{Types, IsLinked, Accepted}
use Rattle.machine_soundness.specs.Asks.{Asks}
use Rattle.machine_soundness.specs.Bodies.{there_in}
use Rattle.machine_soundness.specs.Levels.{PhaseFits, LevelsFit, ModeFits, ThreadFits}
use Rattle.machine_soundness.specs.Sound.{Sound}
use Rattle.machine_soundness.proofs.BlockLaws.{refused}
use Rattle.step_soundness.specs.Laws.{IsAwake}
use Rattle.step_soundness.specs.Waiting.{HaveCode, Waits, for_answer, for_class, WaitsLaw}
use Rattle.step_soundness.proofs.BodyPlans.{body-fine}
use Rattle.step_soundness.proofs.NextLaws.{some_is}
use Rattle.step_soundness.proofs.Requests.{NeedOk, Owes}
use Rattle.step_soundness.proofs.StepLaws.{all-intrinsics}
use Rattle.step_soundness.proofs.ThreadLaws.{who-fits}

-- ---- classes that are asked for are there

no-class : {A : Type 0} (xs : List A) (k : ℕ) → k < length xs → slice_get xs k ≡ None → ⊥
no-class [] k h e = omega (arith, h)
no-class (x ∷ xs) zero h e = cc
no-class (x ∷ xs) (suc k) h e = let l : k < length xs = omega arith in no-class xs k l e

-- a class from which the root is reached is there
up-within : (supers : List (Option ℕ)) → 0 < length supers → (n k : ℕ) → Up supers n k 0 → k < length supers
up-within supers some zero k e = subst (λ z. z < length supers) (sym e) some
up-within supers some (suc n) k (up, e, h) = within supers k up e

-- so is a superclass in a tree
super-within : (supers : List (Option ℕ)) → IsTree supers → (c k : ℕ) → c < length supers → superclass supers c ≡ Some k → k < length supers
super-within supers tree c k b e = let (n, l, h) = tree.reached c b in by_steps n h
  where
    by_steps : (n : ℕ) → Up supers n c 0 → k < length supers
    by_steps zero h = let x : superclass supers c ≡ None = ap (superclass supers) h ∙ tree.root in let y : None ≡ Some k = sym x ∙ e in absurd cc
    by_steps (suc n) (up, q, h) = let y : Some up ≡ Some k = sym q ∙ e in subst (λ z. z < length supers) (some_is y) (up-within supers tree.some n up h)

super-is : (image : Program) (c : ℕ) → superclass (superclasses image) c ≡ super_of image c
super-is image c = ap flat (slice_get-map (λ k. k.super_class) image.classes c) ∙ by_class (slice_get image.classes c)
  where
    by_class : (o : Option ClassInfo) → flat (option_map (λ k. k.super_class) o) ≡ from None (λ k. k.super_class) o
    by_class None = refl
    by_class (Some k) = refl

module _ (image : Program) (types : Types) (accepted : Accepted image types) where
  abbrev Bound : Option ℕ → Type 0
  Bound o = (k : ℕ) → o ≡ Some k → k < length image.classes

  unasked : Bound None
  unasked k e = absurd cc

  is-bound : (c : ℕ) → c < length image.classes → Bound (Some c)
  is-bound c h k e = subst (λ z. z < length image.classes) (some_is e) h

  super-bound : (c : ℕ) → c < length image.classes → Bound (super_of image c)
  super-bound c h k e =
      let n : length (superclasses image) ≡ length image.classes = length-map image.classes (λ k. k.super_class) in
      let l : c < length (superclasses image) = subst (λ z. c < z) (sym n) h in
      subst (λ z. k < z) n (super-within (superclasses image) accepted.subs.tree c k l (super-is image c ∙ e))

  shared-bound : (o : Op) (t : Option Target) (vs : List Value) → IsLinked image o t → Bound (shared_plan image o t vs).asks
  shared-bound (op.Static o i d) t vs (c, place, e, l, q) = subst (λ z. Bound (shared_plan image (op.Static o i d) z vs).asks) (sym e) (by_test (is_constant image c place))
    where
      by_test : (b : Bool) → Bound (if b then None else Some c)
      by_test true = unasked
      by_test false = is-bound c l
  shared-bound (op.New i) t vs h = is-bound _ h.0
  shared-bound _ t vs h = unasked

  call-bound : (w : Who) (f : Frame) (o : Op) (t : Option Target) (vs : List Value) → IsLinked image o t → Bound (call_plan image w f o t vs).asks
  call-bound w f (op.Invoke o i d) t vs h = by_test (o == code.INVOKESTATIC) _ _
    where
      by_test : (b : Bool) (x y : Next) → Bound (if b then asking (owner_of image (method_in t)) x else plain y).asks
      by_test true x y = is-bound _ h.2
      by_test false x y = unasked
  call-bound w f _ t vs h = unasked

  move-bound : (w : Who) (f : Frame) (i : Placed) (t : Option Target) (m : Move) → IsLinked image i.op t → Bound (by_move image w f i t m).asks
  move-bound w f i t AsksIt h = shared-bound i.op t f.stack.values h
  move-bound w f i t CallsIt h = call-bound w f i.op t f.stack.values h
  move-bound w f i t (Raises k) h = unasked
  move-bound w f i t (ThrowsIt e) h = unasked
  move-bound w f i t (LeavesIt v) h = unasked
  move-bound w f i t StuckThere h = unasked
  move-bound w f i t (Goes vs) h = unasked
  move-bound w f i t (Jumps to vs) h = unasked
  move-bound w f i t (Sets n new vs) h = unasked

  body-bound : (w : Who) (f : Frame) → Bound (body_plan image w f).asks
  body-bound w f = by_place (instruction_at image f.method f.at) refl
    where
      by_place : (o : Option Placed) → instruction_at image f.method f.at ≡ o → Bound (from (plain Stuck) (λ i. instruction_plan image w f i (target_of image f.method f.at)) o).asks
      by_place None e = unasked
      by_place (Some i) e = move-bound w f i (target_of image f.method f.at) _ (accepted.links f.method f.at i e)

module _ (image : Program) (types : Types) (accepted : Accepted image types) (have : HaveCode image) (m : State) (s : Sound image types m) (c : Choice) where
  abbrev here : Name → Bool
  here = there_in m.heap

  -- what comes next can be done, or is asked for rightly
  abbrev CanBe : Next → Type 0
  CanBe (Calls k vs) = is_some (code_of image k) ≡ true
  CanBe (Needs r) = (ts : List FlowType) × Asks image here r ts
  CanBe (Wants n) = ⊥
  CanBe Stuck = ⊥
  CanBe n = Unit {0}

  -- and a class that is asked for is there
  pub record CanPlan (w : Plan) : Type 0 where
    pub next : CanBe w.next
    pub asks : (k : ℕ) → w.asks ≡ Some k → k < length image.classes

  planned-next : (n : Next) → CanBe n → CanPlan (plain n)
  planned-next n h = record { next = h; asks = λ k e. absurd cc }

  needed : (f : Frame) (r : Request) → NeedOk image types accepted here f r → (ts : List FlowType) × Asks image here r ts
  needed f (Fault k) o = ([], o)
  needed f (Exit n false) o = ([], (o.0, refl))
  needed f (Exit n true) o = absurd o
  needed f (Begin k) o = absurd o
  needed f (InitDone k) o = absurd o
  needed f (InitFail k z) o = absurd o
  needed f (Finish e) o = absurd o
  needed f r o = (o.types_of, o.asks)

  owed : (f : Frame) (n : Next) → Owes image types accepted here f n → CanBe n
  owed f (Calls k vs) o = ap is_some o.is_code
  owed f (Needs r) o = needed f r o
  owed f (Wants n) o = o
  owed f Stuck o = o
  owed f _ o = tt

  -- ---- plans

  calls-be : (w : Who) (k : ℕ) (vs : List Value) → is_some (code_of image k) ≡ true → CanBe (calls w k vs)
  calls-be w k vs h = by_test (nat_lt w.depth max_depth)
    where
      by_test : (b : Bool) → CanBe (if b then Calls k vs else Needs (Fault 32))
      by_test true = h
      by_test false = ([], refl)

  frame-plans : (th : ThreadState) → ThreadFits image types here th → (f : Frame) (ls : List Level) → LevelsFit image types here None (Code f ∷ ls) → CanPlan (frame_plan image (who m.heap c.thread th) f f.phase f.lock)
  frame-plans th t f ls h = by_phase f.phase f.lock refl h.1.0
    where
      w : Who
      w = who m.heap c.thread th

      by_phase : (p : Phase) (o : Option Name) → f.lock ≡ o → PhaseFits image here None f p → CanPlan (frame_plan image w f p o)
      by_phase phase.Body o q x = record { next = owed f _ (body-fine image types accepted here s.premade f h.0 (all-intrinsics image types accepted m s f h.0) w (who-fits image types accepted m s c th t)); asks = body-bound image types accepted w f }
      by_phase phase.Lock (Some n) q x = planned-next (Needs (Enter n)) ([], (subst (λ z. from true here z ≡ true) q h.0.lock, refl))
      by_phase phase.Lock None q x = let y : false ≡ true = subst (λ z. is_some z ≡ true) q x in absurd cc
      by_phase (phase.Unlock v) o q x = planned-next (Leaves v) tt

  running-plans : (th : ThreadState) → ThreadFits image types here th → (ls : List Level) → LevelsFit image types here None ls → CanPlan (running_plan image (who m.heap c.thread th) ls)
  running-plans th t [] h = planned-next (Needs (Finish None)) ([], refl)
  running-plans th t (Code f ∷ ls) h = frame-plans th t f ls h
  running-plans th t (Init k true ∷ ls) h = planned-next (Needs (InitDone k)) ([], refl)
  running-plans th t (Init k false ∷ ls) h = record { next = by_clinit (clinit_of image k) refl; asks = super-bound image types accepted k h.0 }
    where
      by_clinit : (o : Option ℕ) → clinit_of image k ≡ o → CanBe (from (Needs (InitDone k)) (λ j. calls (who m.heap c.thread th) j []) o)
      by_clinit None e = ([], refl)
      by_clinit (Some j) e = calls-be (who m.heap c.thread th) j [] (have.clinits k j e)

  raising-plans : (e : Name) (ls : List Level) → LevelsFit image types here (Some e) ls → CanPlan (raising_plan image e ls)
  raising-plans e [] h = planned-next (Needs (Finish (Some e))) ([], refl)
  raising-plans e (Init k b ∷ ls) h = planned-next (Needs (InitFail k _)) ([], refl)
  raising-plans e (Code f ∷ ls) h = planned-next _ (by_handler (handler_for image f e))
    where
      by_phase : (p : Phase) (l : Option Name) → f.lock ≡ l → CanBe (unwinds p l)
      by_phase phase.Body (Some n) q = ([], (subst (λ z. from true here z ≡ true) q h.0.lock, refl))
      by_phase phase.Body None q = tt
      by_phase phase.Lock l q = tt
      by_phase (phase.Unlock v) l q = tt

      by_handler : (o : Option ℕ) → CanBe (from (unwinds f.phase f.lock) (handled f e) o)
      by_handler None = by_phase f.phase f.lock refl
      by_handler (Some to) = tt

  entry-plans : (w : Who) → CanPlan (entry_plan image w)
  entry-plans w = by_first w.first
    where
      by_selected : (t : Selected) → select_of image.classes image.methods w.object.class (thread_run image) false ≡ t → CanBe (runs_thread image w t)
      by_selected (Found k) e = calls-be w k (Ref w.object ∷ []) (have.runs w.object.class k e)
      by_selected NoBody e = ([], refl)
      by_selected NoInterface e = ([], refl)
      by_selected NotPublic e = ([], refl)

      by_first : (b : Bool) → CanPlan (if b then asking (owner_of image image.main) (calls w image.main (Ref (arguments image) ∷ [])) else plain (runs_thread image w (select_of image.classes image.methods w.object.class (thread_run image) false)))
      by_first true = record { next = calls-be w image.main (Ref (arguments image) ∷ []) have.main; asks = is-bound image types accepted (owner_of image image.main) accepted.starts.main.bound }
      by_first false = planned-next _ (by_selected (select_of image.classes image.methods w.object.class (thread_run image) false) refl)

  -- ---- what isn't done waits

  served-waits : (mode : Mode) (ls : List Level) (w : Plan) (r : Request) → w.next ≡ Needs r → (ts : List FlowType) → Asks image here r ts → served image m c mode ls r ≡ None → Waits image m c w
  unfolding served
  served-waits mode ls w r n ts a e = by_deed (serve image c.thread c r (cell m (key_of r))) refl e
    where
      by_deed : (o : Option Deed) → serve image c.thread c r (cell m (key_of r)) ≡ o → from None (λ d. Some (taken image r mode ls d)) o ≡ None → Waits image m c w
      by_deed None q e = for_answer r n (refused image types accepted m c r ts s a q) q
      by_deed (Some d) q e = absurd cc

  next-waits : (mode : Mode) (ls : List Level) (w : Plan) (n : Next) → w.next ≡ n → CanBe n → performed image m c mode ls n ≡ None → Waits image m c w
  next-waits mode ls w (Needs r) q (ts, a) e = served-waits mode ls w r q ts a e
  next-waits mode ls w (Calls k vs) q h e = by_code _ (code_of image k) h e
    where
      by_code : (f : MethodCode → Stand) (o : Option MethodCode) → is_some o ≡ true → alone (from None (λ x. Some (f x)) o) ≡ None → Waits image m c w
      by_code f None h e = absurd cc
      by_code f (Some x) h e = absurd cc
  next-waits mode ls w (Alone f) q h e = absurd cc
  next-waits mode ls w (Throws x) q h e = absurd cc
  next-waits mode ls w (Leaves v) q h e = absurd cc
  next-waits mode ls w Drops q h e = absurd cc
  next-waits mode ls w (Wants n) q h e = absurd h
  next-waits mode ls w Stuck q h e = absurd h

  fault-served : (mode : Mode) (ls : List Level) (k : ℕ) → served image m c mode ls (Fault k) ≡ None → ⊥
  unfolding served serve
  fault-served mode ls k e = cc

  begin-served : (mode : Mode) (ls : List Level) (k : ℕ) → slice_get m.classes k ≡ Some class_state.Untouched → served image m c mode ls (Begin k) ≡ None → ⊥
  unfolding served serve
  begin-served mode ls k q e = cc

  plan-waits : (mode : Mode) (ls : List Level) (w : Plan) → CanPlan w → planned image m c mode ls w ≡ None → Waits image m c w
  plan-waits mode ls w h e = by_ask w.asks refl e
    where
      by_own : (k u : ℕ) → w.asks ≡ Some k → slice_get m.classes k ≡ Some (class_state.Running u) → (b : Bool) → (u == c.thread) ≡ b → (if b then performed image m c mode ls w.next else None) ≡ None → Waits image m c w
      by_own k u q r true t e = next-waits mode ls w w.next refl h.next e
      by_own k u q r false t e = for_class k u q r t

      by_state : (k : ℕ) → w.asks ≡ Some k → (o : Option ClassState) → slice_get m.classes k ≡ o → asked image m c mode ls w.next k o ≡ None → Waits image m c w
      by_state k q None r e =
          let b : k < length m.classes = subst (λ z. k < z) (sym s.classes) (h.asks k q) in
          absurd (no-class m.classes k b r)
      by_state k q (Some class_state.Done) r e = next-waits mode ls w w.next refl h.next e
      by_state k q (Some (class_state.Running u)) r e = by_own k u q r (u == c.thread) refl e
      by_state k q (Some class_state.Untouched) r e = absurd (begin-served mode ls k r e)
      by_state k q (Some class_state.Failed) r e = absurd (fault-served mode ls 27 e)

      by_ask : (o : Option ℕ) → w.asks ≡ o → from (performed image m c mode ls w.next) (λ k. asked image m c mode ls w.next k (slice_get m.classes k)) o ≡ None → Waits image m c w
      by_ask None q e = next-waits mode ls w w.next refl h.next e
      by_ask (Some k) q e = by_state k q (slice_get m.classes k) refl e

  pub thread-waits : (th : ThreadState) → ThreadFits image types here th → IsAwake th.mode → attempt image m c th ≡ None → Waits image m c (plan image (who m.heap c.thread th) th.mode th.levels)
  unfolding attempt plan
  thread-waits th t a e = by_mode_of th.mode refl t.levels a e
    where
      by_mode_of : (mode : Mode) → th.mode ≡ mode → ModeFits image types here mode th.levels → IsAwake mode → by_mode image m c th mode ≡ None → Waits image m c (plan image (who m.heap c.thread th) mode th.levels)
      by_mode_of Entry q h a e = plan-waits Entry th.levels (entry_plan image (who m.heap c.thread th)) (entry-plans (who m.heap c.thread th)) (subst (λ z. planned image m c z th.levels (plan image (who m.heap c.thread th) z th.levels) ≡ None) q e)
      by_mode_of Running q h a e = plan-waits Running th.levels (running_plan image (who m.heap c.thread th) th.levels) (running-plans th t th.levels h) (subst (λ z. planned image m c z th.levels (plan image (who m.heap c.thread th) z th.levels) ≡ None) q e)
      by_mode_of (Raising x) q h a e = plan-waits (Raising x) th.levels (raising_plan image x th.levels) (raising-plans x th.levels h.1) (subst (λ z. planned image m c z th.levels (plan image (who m.heap c.thread th) z th.levels) ≡ None) q e)
      by_mode_of (Waiting n k) q h a e = absurd a
      by_mode_of Ended q h a e = absurd a

pub waits-law : WaitsLaw
waits-law image types accepted have m c th s e a n = thread-waits image types accepted have m s c th (s.threads c.thread th e) a n
