-- Threads: what a thread's next step takes is right, by its mode and its top level.
use Rattle.std.proofs.Common.{◌≡◌, ◌∙◌, sym, ap, subst, refl, ℕ, zero, suc, ◌<◌, Bool, true, false, List, [], ◌∷◌, length, Option, Some, None, ◌⊎◌, inl, inr, arith}
use Rattle.std.specs.Prelude.{◌==◌, if◌then◌else◌, nat_lt, not, slice_get, is_none, is_some}
use Rattle.std.specs.Option.{option_to_list}
use Rattle.jvm_base.specs.Words.{from}
use Rattle.jvm_base.specs.declared.frame.Frame.{Frame}
use Rattle.jvm_base.specs.declared.frame.Level.{Level}
use Rattle.jvm_base.specs.declared.frame.Level.TheVariants.{Code, Init}
use Rattle.jvm_base.specs.declared.frame.Phase.{Phase}
use Rattle.jvm_base.specs.declared.frame.Phase.TheVariants as phase
use Rattle.jvm_base.specs.declared.name.Name.{Name}
use Rattle.jvm_base.specs.declared.value.ObjectBody.{ObjectBody}
use Rattle.jvm_base.specs.declared.value.ObjectBody.TheVariants.{Fields, Array, Text}
use Rattle.jvm_base.specs.declared.value.Value.{Value}
use Rattle.jvm_base.specs.declared.value.Value.TheVariants.{Ref}
use Rattle.code_table.specs.declared.code.Code.{Code as MethodCode}
use Rattle.hierarchy.specs.Walks.{has}
use Rattle.program_image.specs.declared.select.Selected.{Selected}
use Rattle.program_image.specs.declared.select.Selected.TheVariants.{Found, NoBody, NoInterface, NotPublic}
use Rattle.program_image.specs.Handlers.{code_of, handler_of}
use Rattle.program_image.specs.Program.{Program}
use Rattle.program_image.specs.Selection.{select_of}
use Rattle.program_image.specs.Words.{instruction_at}
use Rattle.flow_types.specs.Tree.{superclasses}
use Rattle.flow_types.specs.declared.flow_type.FlowType.{FlowType}
use Rattle.flow_types.proofs.ListLaws.{and_parts, and_both}
use Rattle.flow_types.proofs.TypeLaws.{type-refl}
use Rattle.instruction_table.specs.ClassTypes.{array_at, class_type, owner_of, result_of}
use Rattle.instruction_table.specs.Working.{with_stack}
use Rattle.frame_ops.specs.Moves.{frame_moved}
use Rattle.machine_state.specs.declared.request.Request.{Request}
use Rattle.machine_state.specs.declared.request.Request.TheVariants.{Get, Put, Load, Store, Len, Make, MakeText, Fault, Enter, Exit, Wait, Notify, NotifyAll, Begin, InitDone, InitFail, Start, Join, Finish, Buffer, Print}
use Rattle.machine_state.specs.declared.request.Answer.{Answer}
use Rattle.machine_state.specs.declared.request.Answer.TheVariants.{Gives, Raises, Slept}
use Rattle.machine_state.specs.declared.state.Choice.{Choice}
use Rattle.machine_state.specs.declared.state.ClassState.{ClassState}
use Rattle.machine_state.specs.declared.state.ClassState.TheVariants as class_state
use Rattle.machine_state.specs.declared.state.Mode.{Mode}
use Rattle.machine_state.specs.declared.state.Mode.TheVariants.{Entry, Running, Raising, Waiting, Ended}
use Rattle.machine_state.specs.declared.state.ThreadState.{ThreadState}
use Rattle.machine_state.specs.Calls.{max_depth, calls}
use Rattle.machine_state.specs.Changes.{changed}
use Rattle.machine_state.specs.Classes.{clinit_of, thread_run}
use Rattle.machine_state.specs.Complete.{Stand, answer_top, entered, left, left_by, after_init, given, raised_by, waited_lock, slept, complete}
use Rattle.machine_state.specs.Deeds.{Deed}
use Rattle.machine_state.specs.Frames.{lock_for, first_phase, new_frame, noted, called}
use Rattle.machine_state.specs.Locks.{retakes}
use Rattle.machine_state.specs.Next.{Next, Alone, Throws, Calls, Leaves, Drops, Needs, Wants, Stuck, Plan, Who, plain, asking, answered}
use Rattle.machine_state.specs.Plan.{body_plan, frame_plan, init_plan, running_plan, unwinds, handled, is_body, handler_for, raising_plan, runs_thread, entry_plan, plan}
use Rattle.machine_state.specs.PreMade.{holder, arguments}
use Rattle.machine_state.specs.Requests.{key_of, cell}
use Rattle.machine_state.specs.Serve.{begins, serve, pick_fits, name_fits}
use Rattle.machine_state.specs.State.{State, body_at, owner_at, waiters_of}
use Rattle.machine_state.specs.Step.{Taken, text_in, who, taken, alone, served, performed, asked, planned, retaken, by_mode, attempt, allowed}
use Rattle.frame_soundness.specs.AcceptedProgram.{Types, FlowsTo, Accepted, faults, nothing_desc}
use Rattle.frame_soundness.specs.Fitting.{Both}
use Rattle.frame_soundness.specs.Frames.{FrameFits}
use Rattle.frame_soundness.specs.Holding.{is_text}
use Rattle.frame_soundness.specs.Moving.{IsThrown}
use Rattle.frame_soundness.proofs.GrowLaws.{Grows, frame-grows}
use Rattle.frame_soundness.proofs.MoveLaws.{class-held}
use Rattle.machine_soundness.specs.Asks.{Asks}
use Rattle.machine_soundness.specs.Bodies.{there_in, all_suit, kind_fits, body_fits}
use Rattle.machine_soundness.specs.Levels.{InBody, LiesOn, Lower, PhaseFits, LevelsFit, ModeFits, ThreadFits}
use Rattle.machine_soundness.specs.Sound.{Sound, a_holder, the_arguments}
use Rattle.machine_soundness.proofs.HeapLaws.{changes-grow}
use Rattle.machine_soundness.proofs.LevelGrowth.{suit-grows, lower-grows, levels-grow}
use Rattle.machine_soundness.proofs.ServeLaws.{AnswerFits, DeedFits}
use Rattle.machine_soundness.proofs.StateLaws.{TakenFits}
use Rattle.step_soundness.proofs.BodyPlans.{body-fine}
use Rattle.step_soundness.proofs.CallPlans.{WhoFits, IntrinsicsFine, new-frame, receiver-call, static-call, suits-held, returned-fits}
use Rattle.step_soundness.proofs.FrameLaws.{Answers, arrives}
use Rattle.step_soundness.proofs.IntrinsicPlans.{method-stays, phase-stays}
use Rattle.step_soundness.proofs.NextLaws.{some_is}
use Rattle.step_soundness.proofs.Requests.{Leaving, Answered, NeedOk, Owes}
use Rattle.step_soundness.proofs.SelectLaws.{Selects, selected}

-- requests whose answer completes the top frame's instruction
abbrev pub IsPlain : Request → Type 0
IsPlain (Exit n z) = ⊥
IsPlain (Begin k) = ⊥
IsPlain (InitDone k) = ⊥
IsPlain (InitFail k z) = ⊥
IsPlain (Finish x) = ⊥
IsPlain r = Unit {0}

within : {A : Type 0} (xs : List A) (i : ℕ) (x : A) → slice_get xs i ≡ Some x → i < length xs
within [] i x h = absurd cc
within (y ∷ ys) zero x h = omega arith
within (y ∷ ys) (suc i) x h = let k : i < length ys = within ys i x h in omega arith

-- what serves the requests of a choice in a state is right: what is changed fits, and the answer is of
-- the types that were asked for
pub record ServesFit (image : Program) (m : State) (c : Choice) : Type 0 where
  pub requests : (r : Request) (ts : List FlowType) (d : Deed) → Asks image (there_in m.heap) r ts → serve image c.thread c r (cell m (key_of r)) ≡ Some d → name_fits m.heap c.name d.makes ≡ true → DeedFits image m d ts
  pub retaking : (n : Name) (k : ℕ) (d : Deed) → there_in m.heap n ≡ true → retakes c.thread n k (owner_at m.monitors n) (waiters_of n m.waiting) ≡ Some d → name_fits m.heap c.name d.makes ≡ true → DeedFits image m d []

module _ (image : Program) (types : Types) (accepted : Accepted image types) (m : State) (s : Sound image types m) (c : Choice) where
  abbrev pub here : Name → Bool
  here = there_in m.heap

  abbrev pub holders : (k : ℕ) → k < length image.classes → there_in m.heap (holder k) ≡ true
  holders k l = s.premade (holder k) (a_holder k l)

  string-kind : (n : Name) → n.class ≡ 2 → (b : ObjectBody) → body_fits image (there_in m.heap) n b ≡ true → kind_fits image (there_in m.heap) n None true b ≡ true
  string-kind n e b h =
      let x : array_at image n.class ≡ None = ap (array_at image) e ∙ accepted.classes.string_class.0 in
      let y : is_text n.class ≡ true = ap is_text e in
      subst (λ z. kind_fits image (there_in m.heap) n z true b ≡ true) x (subst (λ z. kind_fits image (there_in m.heap) n (array_at image n.class) z b ≡ true) y h)

  text-known : (n : Name) → there_in m.heap n ≡ true → n.class ≡ 2 → (us : List ℕ) × (text_in (body_at m.heap n) ≡ Some us)
  text-known n h e = by_body (body_at m.heap n) refl h
    where
      by_text : (b : ObjectBody) → kind_fits image (there_in m.heap) n None true b ≡ true → (us : List ℕ) × (text_in (Some b) ≡ Some us)
      by_text (Text us) h = (us, refl)
      by_text (Fields vs) h = absurd cc
      by_text (Array vs) h = absurd cc

      by_body : (o : Option ObjectBody) → body_at m.heap n ≡ o → not (is_none o) ≡ true → (us : List ℕ) × (text_in o ≡ Some us)
      by_body None q h = absurd cc
      by_body (Some b) q h = by_text b (string-kind n e b (s.bodies n b q))

  pub who-fits : (th : ThreadState) → ThreadFits image types (there_in m.heap) th → WhoFits image (there_in m.heap) (who m.heap c.thread th)
  who-fits th t = record { known = text-known; object = t.object }

  abbrev Modes : (Name → Bool) → Stand → Type 0
  Modes more st = ModeFits image types more st.0 st.1

  -- a step that may be taken is right
  abbrev pub Right : Option Taken → Type 0
  Right o = (k : Taken) → o ≡ Some k → allowed m c k ≡ true → TakenFits image types m k

  nowhere : Right None
  nowhere k h a = absurd cc

  alone-fits : (st : Stand) → Modes here st → Right (alone (Some st))
  alone-fits st h k e a = subst (λ x. TakenFits image types m x) (some_is e) (record { changes = tt; mode = h })

  -- ---- levels

  lower-levels : (more : Name → Bool) (raised : Option Name) (ls : List Level) → Lower image types more ls → LevelsFit image types more raised ls
  lower-levels more raised [] h = tt
  lower-levels more raised (Code f ∷ ls) h = (h.0, (body-phase f.phase h.1.0, (h.1.1.0, h.1.1.1)))
    where
      body-phase : (p : Phase) → InBody p → PhaseFits image more raised f p
      body-phase phase.Body b = tt
      body-phase phase.Lock b = absurd b
      body-phase (phase.Unlock v) b = absurd b
  lower-levels more raised (Init k b ∷ ls) h = h

  -- the levels of a top frame in its body
  pub record TopBody (more : Name → Bool) (f : Frame) (ls : List Level) : Type 0 where
    pub fits : FrameFits image types more f
    pub body : f.phase ≡ phase.Body
    pub on : LiesOn image f.method ls
    pub low : Lower image types more ls

  top-grows : (more : Name → Bool) → Grows here more → (f : Frame) (ls : List Level) → TopBody here f ls → TopBody more f ls
  top-grows more g f ls t = record { fits = frame-grows image here more g types f t.fits; body = t.body; on = t.on; low = lower-grows image here more g types ls t.low }

  body-levels : (more : Name → Bool) (raised : Option Name) (f : Frame) (ls : List Level) → TopBody more f ls → LevelsFit image types more raised (Code f ∷ ls)
  body-levels more raised f ls t = (t.fits, (subst (λ p. PhaseFits image more raised f p) (sym t.body) tt, (t.on, t.low)))

  body-lower : (more : Name → Bool) (f : Frame) (ls : List Level) → TopBody more f ls → Lower image types more (Code f ∷ ls)
  body-lower more f ls t = (t.fits, (subst InBody (sym t.body) tt, (t.on, t.low)))

  -- a frame that took another's place
  replaced-top : (more : Name → Bool) (f g : Frame) (ls : List Level) → TopBody more f ls → FrameFits image types more g → g.method ≡ f.method → g.phase ≡ f.phase → TopBody more g ls
  replaced-top more f g ls t fit e p = record { fits = fit; body = p ∙ t.body; on = subst (λ x. LiesOn image x ls) (sym e) t.on; low = t.low }

  same-method : (f : Frame) (v : Option Value) → (answered image v f).method ≡ f.method
  same-method f v = method-stays image f v

  same-phase : (f : Frame) (v : Option Value) → (answered image v f).phase ≡ f.phase
  same-phase f v = phase-stays image f v

  -- what is thrown is thrown still
  thrown-more : (more : Name → Bool) → Grows here more → (e : Name) → IsThrown image here e → IsThrown image more e
  thrown-more more g e x = record { is_here = g e x.is_here; fits = x.fits }

  -- the phase of a frame is nothing to its fitting
  rephased : (more : Name → Bool) (f : Frame) (p : Phase) → FrameFits image types more f → FrameFits image types more (record f { phase = p })
  rephased more f p t = record { code = t.code; is_code = t.is_code; room = t.room; work = t.work; is_typed = t.is_typed; fits = t.fits; locked = t.locked; lock = t.lock }

  -- a new frame's phase is as its lock asks
  new-phase : (more : Name → Bool) (k : ℕ) (vs : List Value) (x : MethodCode) → PhaseFits image more None (new_frame image k vs x) (new_frame image k vs x).phase
  new-phase more k vs x = by_lock (lock_for image k vs) refl
    where
      by_lock : (o : Option Name) → lock_for image k vs ≡ o → PhaseFits image more None (new_frame image k vs x) (first_phase o)
      by_lock None e = tt
      by_lock (Some n) e = rw e refl

  -- a call from levels on which the frame may lie
  called-levels : (k : ℕ) (vs : List Value) (x : MethodCode) (ls : List Level) → code_of image k ≡ Some x → FrameFits image types here (new_frame image k vs x) → LiesOn image k (noted ls) → Lower image types here (noted ls) → Right (alone (called image k vs ls))
  called-levels k vs x ls e f on low = subst (λ z. Right (alone (from None (λ c. Some (Running, Code (new_frame image k vs c) ∷ noted ls)) z))) (sym e) (alone-fits (Running, Code (new_frame image k vs x) ∷ noted ls) (f, (new-phase here k vs x, (on, low))))

  -- a value is handed to the level below
  left-levels : (k : ℕ) (v : Option Value) (ls : List Level) → all_suit image here (option_to_list v) (option_to_list (result_of image k)) ≡ true → LiesOn image k ls → Lower image types here ls → LevelsFit image types here None (answer_top image v ls)
  left-levels k v [] h on low = tt
  left-levels k v (Code g ∷ ls) h on low =
      let b : g.phase ≡ phase.Body = is-body g.phase low.1.0 in
      let u : TopBody here g ls = record { fits = low.0; body = b; on = low.1.1.0; low = low.1.1.1 } in
      body-levels here None (answered image v g) ls (replaced-top here g (answered image v g) ls u (returned-fits image types accepted here g k v low.0 on h) (same-method g v) (same-phase g v))
    where
      is-body : (p : Phase) → InBody p → p ≡ phase.Body
      is-body phase.Body h = refl
      is-body phase.Lock h = absurd h
      is-body (phase.Unlock x) h = absurd h
  left-levels k v (Init j b ∷ ls) h on low = low

  -- ---- requests

  module _ (serves : ServesFit image m c) where
    served-fits : (mode : Mode) (ls : List Level) (r : Request) (ts : List FlowType) → Asks image here r ts → ((d : Deed) → serve image c.thread c r (cell m (key_of r)) ≡ Some d → DeedFits image m d ts → Modes (there_in (changed d.changes m).heap) (complete image r d.answer mode ls)) → Right (served image m c mode ls r)
    unfolding served
    served-fits mode ls r ts a after k e ok = by_deed (serve image c.thread c r (cell m (key_of r))) refl e
      where
        by_deed : (o : Option Deed) → serve image c.thread c r (cell m (key_of r)) ≡ o → from None (λ d. Some (taken image r mode ls d)) o ≡ Some k → TakenFits image types m k
        by_deed None q e = absurd cc
        by_deed (Some d) q e =
            let x : taken image r mode ls d ≡ k = some_is e in
            let y : name_fits m.heap c.name d.makes ≡ true = subst (λ (z : Taken). name_fits m.heap c.name z.deed.makes ≡ true) (sym x) ((and_parts (pick_fits c.pick k.deed.waiters) (name_fits m.heap c.name k.deed.makes) ok).1) in
            let f : DeedFits image m d ts = serves.requests r ts d a q y in
            subst (λ (z : Taken). TakenFits image types m z) x (record { changes = f.changes; mode = after d q f })

    -- a fault raises
    fault-deed : (k : ℕ) (d : Deed) → serve image c.thread c (Fault k) (cell m (key_of (Fault k))) ≡ Some d → d.answer ≡ Raises c.name
    unfolding serve
    fault-deed k d e = ap (λ (z : Deed). z.answer) (sym (some_is e))

    raised-levels : (more : Name → Bool) (a : Answer) (e : Name) → a ≡ Raises e → (ts : List FlowType) → AnswerFits image more a ts → IsThrown image more e
    raised-levels more a e q ts h = subst (λ z. AnswerFits image more z ts) q h

    begin-is : (k : ℕ) (d : Deed) → serve image c.thread c (Begin k) (cell m (key_of (Begin k))) ≡ Some d → d.answer ≡ Gives None
    unfolding serve
    begin-is k d e = by_state (slice_get m.classes k) e
      where
        by_state : (o : Option ClassState) → begins c.thread k o ≡ Some d → d.answer ≡ Gives None
        by_state None e = absurd cc
        by_state (Some class_state.Untouched) e = ap (λ (z : Deed). z.answer) (sym (some_is e))
        by_state (Some (class_state.Running u)) e = absurd cc
        by_state (Some class_state.Done) e = absurd cc
        by_state (Some class_state.Failed) e = absurd cc

    begun-mode : (more : Name → Bool) (a : Answer) (k : ℕ) (mode : Mode) (ls : List Level) → a ≡ Gives None → (k < length image.classes) × Lower image types more ls → Modes more (complete image (Begin k) a mode ls)
    unfolding complete
    begun-mode more a k mode ls e h = subst (λ z. Modes more (complete image (Begin k) z mode ls)) (sym e) h

    fault-fits : (k : ℕ) (mode : Mode) (ls : List Level) → has faults k ≡ true → ((e : Name) → LevelsFit image types here (Some e) ls) → Right (served image m c mode ls (Fault k))
    unfolding complete
    fault-fits k mode ls f l = served-fits mode ls (Fault k) [] f (λ d q h.
        let a : d.answer ≡ Raises c.name = fault-deed k d q in
        subst (λ z. Modes (there_in (changed d.changes m).heap) (complete image (Fault k) z mode ls)) (sym a)
        (raised-levels _ d.answer c.name a [] h.answer, levels-grow image here _ (changes-grow d.changes m) types (Some c.name) ls (l c.name)))

    -- ---- the top frame's instruction is answered

    module _ (f : Frame) (ls : List Level) (t : TopBody here f ls) where
      raise-top : (more : Name → Bool) → Grows here more → (e : Name) → IsThrown image more e → Modes more (Raising e, Code f ∷ ls)
      raise-top more g e h = (h, body-levels more (Some e) f ls (top-grows more g f ls t))

      answer-top : (ts : List FlowType) → Answers image types accepted here f ts → (more : Name → Bool) → Grows here more → (v : Option Value) → all_suit image more (option_to_list v) ts ≡ true → LevelsFit image types more None (Code (answered image v f) ∷ ls)
      answer-top ts an more g v h =
          let u = top-grows more g f ls t in
          body-levels more None (answered image v f) ls (replaced-top more f (answered image v f) ls u (an more u.fits v (suits-held image types accepted more f.method (option_to_list v) ts h)) (same-method f v) (same-phase f v))

      entered-is : entered image (Code f ∷ ls) ≡ Code (answered image None f) ∷ ls
      entered-is = rw t.body refl

      -- an answer to what the instruction asked
      answered-mode : (r : Request) → (a : Answered image types accepted here f r) → (more : Name → Bool) → Grows here more → (b : Answer) → AnswerFits image more b a.types_of → IsPlain r → Modes more (complete image r b Running (Code f ∷ ls))
      unfolding complete
      answered-mode r a more g (Raises e) h p = by_request r p
        where
          by_request : (r : Request) → IsPlain r → Modes more (raised_by r e (Code f ∷ ls))
          by_request (InitFail k made) p = absurd p
          by_request (Get n i) p = raise-top more g e h
          by_request (Put n i v) p = raise-top more g e h
          by_request (Load n i) p = raise-top more g e h
          by_request (Store n i v) p = raise-top more g e h
          by_request (Len n) p = raise-top more g e h
          by_request (Make k ns) p = raise-top more g e h
          by_request (MakeText us) p = raise-top more g e h
          by_request (Fault k) p = raise-top more g e h
          by_request (Enter n) p = raise-top more g e h
          by_request (Exit n z) p = raise-top more g e h
          by_request (Wait n) p = raise-top more g e h
          by_request (Notify n) p = raise-top more g e h
          by_request (NotifyAll n) p = raise-top more g e h
          by_request (Begin k) p = raise-top more g e h
          by_request (InitDone k) p = raise-top more g e h
          by_request (Start n) p = raise-top more g e h
          by_request (Join n) p = raise-top more g e h
          by_request (Finish x) p = raise-top more g e h
          by_request (Buffer n k us) p = raise-top more g e h
          by_request (Print us) p = raise-top more g e h
      answered-mode r a more g (Slept k) h p = by_request r a p
        where
          stays : Modes more (Running, Code f ∷ ls)
          stays = body-levels more None f ls (top-grows more g f ls t)

          by_request : (r : Request) → Answered image types accepted here f r → IsPlain r → Modes more (slept image (waited_lock r) k Running (Code f ∷ ls))
          by_request (Wait n) a p = (g n a.asks.0, answer-top a.types_of a.answers more g None (rw a.asks.1 refl))
          by_request (Get n i) a p = stays
          by_request (Put n i v) a p = stays
          by_request (Load n i) a p = stays
          by_request (Store n i v) a p = stays
          by_request (Len n) a p = stays
          by_request (Make k ns) a p = stays
          by_request (MakeText us) a p = stays
          by_request (Fault k) a p = stays
          by_request (Enter n) a p = stays
          by_request (Exit n z) a p = stays
          by_request (Notify n) a p = stays
          by_request (NotifyAll n) a p = stays
          by_request (Begin k) a p = stays
          by_request (InitDone k) a p = stays
          by_request (InitFail k z) a p = stays
          by_request (Start n) a p = stays
          by_request (Join n) a p = stays
          by_request (Finish x) a p = stays
          by_request (Buffer n k us) a p = stays
          by_request (Print us) a p = stays
      answered-mode r a more g (Gives v) h p = by_request r a v h p
        where
          by_request : (r : Request) (a : Answered image types accepted here f r) (v : Option Value) → all_suit image more (option_to_list v) a.types_of ≡ true → IsPlain r → Modes more (given image r v Running (Code f ∷ ls))
          by_request (Enter n) a v h p = subst (λ x. LevelsFit image types more None x) (sym entered-is) (answer-top a.types_of a.answers more g None (rw a.asks.1 refl))
          by_request (Exit n z) a v h p = absurd p
          by_request (Begin k) a v h p = absurd p
          by_request (InitDone k) a v h p = absurd p
          by_request (InitFail k z) a v h p = absurd p
          by_request (Finish x) a v h p = absurd p
          by_request (Get n i) a v h p = answer-top a.types_of a.answers more g v h
          by_request (Put n i w) a v h p = answer-top a.types_of a.answers more g v h
          by_request (Load n i) a v h p = answer-top a.types_of a.answers more g v h
          by_request (Store n i w) a v h p = answer-top a.types_of a.answers more g v h
          by_request (Len n) a v h p = answer-top a.types_of a.answers more g v h
          by_request (Make k ns) a v h p = answer-top a.types_of a.answers more g v h
          by_request (MakeText us) a v h p = answer-top a.types_of a.answers more g v h
          by_request (Fault k) a v h p = answer-top a.types_of a.answers more g v h
          by_request (Wait n) a v h p = answer-top a.types_of a.answers more g v h
          by_request (Notify n) a v h p = answer-top a.types_of a.answers more g v h
          by_request (NotifyAll n) a v h p = answer-top a.types_of a.answers more g v h
          by_request (Start n) a v h p = answer-top a.types_of a.answers more g v h
          by_request (Join n) a v h p = answer-top a.types_of a.answers more g v h
          by_request (Buffer n k us) a v h p = answer-top a.types_of a.answers more g v h
          by_request (Print us) a v h p = answer-top a.types_of a.answers more g v h

      plain-served : (r : Request) → IsPlain r → Answered image types accepted here f r → Right (served image m c Running (Code f ∷ ls) r)
      plain-served r p a = served-fits Running (Code f ∷ ls) r a.types_of a.asks (λ d q h. answered-mode r a (there_in (changed d.changes m).heap) (changes-grow d.changes m) d.answer h.answer p)

      -- a lock is left, by a return or by an instruction
      exit-served : (n : Name) → (here n ≡ true) × (Leaving image types accepted here f ⊎ Answered image types accepted here f (Exit n false) × (left_by image f (instruction_at image f.method f.at) ≡ answered image None f)) → Right (served image m c Running (Code f ∷ ls) (Exit n false))
      unfolding complete
      exit-served n (x, w) = served-fits Running (Code f ∷ ls) (Exit n false) [] (x, refl) (λ d q h. by_answer (there_in (changed d.changes m).heap) (changes-grow d.changes m) d.answer h.answer w)
        where
          left-mode : (more : Name → Bool) → Grows here more → (Leaving image types accepted here f ⊎ Answered image types accepted here f (Exit n false) × (left_by image f (instruction_at image f.method f.at) ≡ answered image None f)) → LevelsFit image types more None (left image (Code f ∷ ls))
          left-mode more g (inl e) =
              let u = top-grows more g f ls t in
              subst (λ z. LevelsFit image types more None (Code z ∷ ls)) (sym e.left) (rephased more f (phase.Unlock e.value) u.fits, (suit-grows image here more g (option_to_list e.value) _ e.suits, (u.on, u.low)))
          left-mode more g (inr (a, e)) = subst (λ z. LevelsFit image types more None (Code z ∷ ls)) (sym e) (answer-top a.types_of a.answers more g None (rw a.asks.1 refl))

          by_answer : (more : Name → Bool) → Grows here more → (b : Answer) → AnswerFits image more b [] → (Leaving image types accepted here f ⊎ Answered image types accepted here f (Exit n false) × (left_by image f (instruction_at image f.method f.at) ≡ answered image None f)) → Modes more (complete image (Exit n false) b Running (Code f ∷ ls))
          by_answer more g (Raises e) h w = raise-top more g e h
          by_answer more g (Slept k) h w = body-levels more None f ls (top-grows more g f ls t)
          by_answer more g (Gives v) h w = left-mode more g w

      -- all that the next step of a frame in its body may be
      body-performed : (n : Next) → Owes image types accepted here f n → Right (performed image m c Running (Code f ∷ ls) n)
      body-performed (Alone g) o = alone-fits (Running, Code g ∷ ls) (body-levels here None g ls (replaced-top here f g ls t o.fits o.same_method o.same_phase))
      body-performed (Throws e) o = alone-fits (Raising e, Code f ∷ ls) (o, body-levels here (Some e) f ls t)
      body-performed (Calls k vs) o = called-levels k vs o.code (Code f ∷ ls) o.is_code o.fits o.calls (body-lower here f ls t)
      body-performed (Leaves v) o = alone-fits (Running, answer_top image v ls) (left-levels f.method v ls o t.on t.low)
      body-performed Drops o = absurd o
      body-performed (Needs r) o = by_request r o
        where
          by_request : (r : Request) → NeedOk image types accepted here f r → Right (served image m c Running (Code f ∷ ls) r)
          by_request (Fault k) o = fault-fits k Running (Code f ∷ ls) o (λ e. body-levels here (Some e) f ls t)
          by_request (Exit n false) o = exit-served n o
          by_request (Exit n true) o = absurd o
          by_request (Get n i) o = plain-served (Get n i) tt o
          by_request (Put n i v) o = plain-served (Put n i v) tt o
          by_request (Load n i) o = plain-served (Load n i) tt o
          by_request (Store n i v) o = plain-served (Store n i v) tt o
          by_request (Len n) o = plain-served (Len n) tt o
          by_request (Make k ns) o = plain-served (Make k ns) tt o
          by_request (MakeText us) o = plain-served (MakeText us) tt o
          by_request (Enter n) o = plain-served (Enter n) tt o
          by_request (Wait n) o = plain-served (Wait n) tt o
          by_request (Notify n) o = plain-served (Notify n) tt o
          by_request (NotifyAll n) o = plain-served (NotifyAll n) tt o
          by_request (Start n) o = plain-served (Start n) tt o
          by_request (Join n) o = plain-served (Join n) tt o
          by_request (Buffer n k us) o = plain-served (Buffer n k us) tt o
          by_request (Print us) o = plain-served (Print us) tt o
          by_request (Begin k) o = absurd o
          by_request (InitDone k) o = absurd o
          by_request (InitFail k z) o = absurd o
          by_request (Finish x) o = absurd o
      body-performed (Wants n) o = absurd o
      body-performed Stuck o = absurd o

    -- ---- a class that is asked first

    begun-fits : (mode : Mode) (ls : List Level) (k : ℕ) → k < length image.classes → Lower image types here ls → Right (served image m c mode ls (Begin k))
    begun-fits mode ls k b low = served-fits mode ls (Begin k) [] refl (λ d q h. by_answer (there_in (changed d.changes m).heap) (changes-grow d.changes m) d.answer (begin-answer k d q))
      where
        begin-answer : (k : ℕ) (d : Deed) → serve image c.thread c (Begin k) (cell m (key_of (Begin k))) ≡ Some d → d.answer ≡ Gives None
        begin-answer k d e = begin-is k d e

        by_answer : (more : Name → Bool) → Grows here more → (a : Answer) → a ≡ Gives None → Modes more (complete image (Begin k) a mode ls)
        by_answer more g a e = begun-mode more a k mode ls e (b, lower-grows image here more g types ls low)

    asked-fits : (mode : Mode) (ls : List Level) (n : Next) (k : ℕ) → Right (performed image m c mode ls n) → Lower image types here ls → ((e : Name) → LevelsFit image types here (Some e) ls) → Right (asked image m c mode ls n k (slice_get m.classes k))
    asked-fits mode ls n k r low raise = by_state (slice_get m.classes k) refl
      where
        by_own : (u : ℕ) (b : Bool) → Right (if b then performed image m c mode ls n else None)
        by_own u true = r
        by_own u false = nowhere

        by_state : (o : Option ClassState) → slice_get m.classes k ≡ o → Right (asked image m c mode ls n k o)
        by_state None e = nowhere
        by_state (Some class_state.Done) e = r
        by_state (Some (class_state.Running u)) e = by_own u (u == c.thread)
        by_state (Some class_state.Untouched) e = begun-fits mode ls k (subst (λ z. k < z) s.classes (within m.classes k _ e)) low
        by_state (Some class_state.Failed) e = fault-fits 27 mode ls refl raise

    planned-fits : (mode : Mode) (ls : List Level) (p : Plan) → Right (performed image m c mode ls p.next) → ((k : ℕ) → p.asks ≡ Some k → Lower image types here ls × ((e : Name) → LevelsFit image types here (Some e) ls)) → Right (planned image m c mode ls p)
    planned-fits mode ls p r h = by_ask p.asks refl
      where
        by_ask : (o : Option ℕ) → p.asks ≡ o → Right (from (performed image m c mode ls p.next) (λ k. asked image m c mode ls p.next k (slice_get m.classes k)) o)
        by_ask None e = r
        by_ask (Some k) e = asked-fits mode ls p.next k r (h k e).0 (h k e).1

    called-any : (k : ℕ) (vs : List Value) (ls : List Level) → ((x : MethodCode) → code_of image k ≡ Some x → FrameFits image types here (new_frame image k vs x)) → LiesOn image k (noted ls) → Lower image types here (noted ls) → Right (alone (called image k vs ls))
    called-any k vs ls h on low = by_code (code_of image k) refl
      where
        by_code : (o : Option MethodCode) → code_of image k ≡ o → Right (alone (called image k vs ls))
        by_code None e = subst (λ z. Right (alone (from None (λ c. Some (Running, Code (new_frame image k vs c) ∷ noted ls)) z))) (sym e) nowhere
        by_code (Some x) e = called-levels k vs x ls e (h x e) on low

    -- a call of the machine itself, its depth looked at
    calls-fit : (w : Who) (mode : Mode) (k : ℕ) (vs : List Value) (ls : List Level) → ((x : MethodCode) → code_of image k ≡ Some x → FrameFits image types here (new_frame image k vs x)) → LiesOn image k (noted ls) → Lower image types here (noted ls) → ((e : Name) → LevelsFit image types here (Some e) ls) → Right (performed image m c mode ls (calls w k vs))
    calls-fit w mode k vs ls h on low raise = by_test (nat_lt w.depth max_depth)
      where
        by_test : (b : Bool) → Right (performed image m c mode ls (if b then Calls k vs else Needs (Fault 32)))
        by_test true = called-any k vs ls h on low
        by_test false = fault-fits 32 mode ls refl raise

    -- a request whose every answer leaves fitting levels
    ends-well : (mode : Mode) (ls : List Level) (r : Request) → Asks image here r [] → ((more : Name → Bool) → Grows here more → (v : Option Value) → Modes more (given image r v mode ls)) → ((more : Name → Bool) → Grows here more → (e : Name) → IsThrown image more e → Modes more (raised_by r e ls)) → ((more : Name → Bool) → Grows here more → (k : ℕ) → Modes more (slept image (waited_lock r) k mode ls)) → Right (served image m c mode ls r)
    unfolding complete
    ends-well mode ls r a g r1 sl = served-fits mode ls r [] a (λ d q h. by_answer (there_in (changed d.changes m).heap) (changes-grow d.changes m) d.answer h.answer)
      where
        by_answer : (more : Name → Bool) → Grows here more → (b : Answer) → AnswerFits image more b [] → Modes more (complete image r b mode ls)
        by_answer more gr (Gives v) h = g more gr v
        by_answer more gr (Raises e) h = r1 more gr e h
        by_answer more gr (Slept k) h = sl more gr k

    levels-more : (raised : Option Name) (ls : List Level) → LevelsFit image types here raised ls → (more : Name → Bool) → Grows here more → LevelsFit image types more raised ls
    levels-more raised ls h more g = levels-grow image here more g types raised ls h

    lower-more : (raised : Option Name) (ls : List Level) → Lower image types here ls → (more : Name → Bool) → Grows here more → LevelsFit image types more raised ls
    lower-more raised ls h more g = lower-levels more raised ls (lower-grows image here more g types ls h)

    clinit-frame : (k j : ℕ) → clinit_of image k ≡ Some j → (x : MethodCode) → code_of image j ≡ Some x → FrameFits image types here (new_frame image j [] x)
    clinit-frame k j e x q =
        let a = accepted.starts.clinits k j e in
        new-frame image types accepted here holders j x [] q a.bound (static-call image types accepted here holders j nothing_desc [] a.is_desc a.fixed refl refl)

    -- ---- a level of initialisation

    init-fits : (w : Who) (k : ℕ) (b : Bool) (ls : List Level) → (k < length image.classes) × Lower image types here ls → Right (planned image m c Running (Init k b ∷ ls) (init_plan image w k b))
    init-fits w k true ls h = ends-well Running (Init k true ∷ ls) (InitDone k) refl (λ more g v. done more g ls h.1) (λ more g e x. (x, levels-more (Some e) (Init k true ∷ ls) h more g)) (λ more g j. levels-more None (Init k true ∷ ls) h more g)
      where
        done : (more : Name → Bool) → Grows here more → (ls : List Level) → Lower image types here ls → Modes more (after_init ls, ls)
        done more g [] low = refl
        done more g (l ∷ ls) low = lower-more None (l ∷ ls) low more g
    init-fits w k false ls h = planned-fits Running (Init k false ∷ ls) (init_plan image w k false) (by_clinit (clinit_of image k) refl) (λ j e. (h, λ x. h))
      where
        done : (more : Name → Bool) → Grows here more → (ls : List Level) → Lower image types here ls → Modes more (after_init ls, ls)
        done more g [] low = refl
        done more g (l ∷ ls) low = lower-more None (l ∷ ls) low more g

        by_clinit : (o : Option ℕ) → clinit_of image k ≡ o → Right (performed image m c Running (Init k false ∷ ls) (from (Needs (InitDone k)) (λ j. calls w j []) o))
        by_clinit None e = ends-well Running (Init k false ∷ ls) (InitDone k) refl (λ more g v. done more g ls h.1) (λ more g e x. (x, levels-more (Some e) (Init k false ∷ ls) h more g)) (λ more g j. levels-more None (Init k false ∷ ls) h more g)
        by_clinit (Some j) e = calls-fit w Running j [] (Init k false ∷ ls) (clinit-frame k j e) e h (λ x. h)

    module _ (intrinsics : (f : Frame) (t : FrameFits image types here f) → IntrinsicsFine image types accepted here holders f t) where
      -- ---- running

      frame-fits : (w : Who) → WhoFits image here w → (f : Frame) (ls : List Level) → LevelsFit image types here None (Code f ∷ ls) → Right (planned image m c Running (Code f ∷ ls) (frame_plan image w f f.phase f.lock))
      frame-fits w wf f ls h = by_phase f.phase refl f.lock refl h.1.0
        where
          by_phase : (p : Phase) → f.phase ≡ p → (o : Option Name) → f.lock ≡ o → PhaseFits image here None f p → Right (planned image m c Running (Code f ∷ ls) (frame_plan image w f p o))
          by_phase phase.Body e o q x =
              let t : TopBody here f ls = record { fits = h.0; body = e; on = h.1.1.0; low = h.1.1.1 } in
              planned-fits Running (Code f ∷ ls) (body_plan image w f) (body-performed f ls t _ (body-fine image types accepted here s.premade f h.0 (intrinsics f h.0) w wf)) (λ k a. (body-lower here f ls t, λ z. body-levels here (Some z) f ls t))
          by_phase phase.Lock e (Some n) q x = ends-well Running (Code f ∷ ls) (Enter n) (subst (λ z. from true here z ≡ true) q h.0.lock, refl) (λ more g v. enters more g) (λ more g z y. (y, lock-raise more g z)) (λ more g k. levels-more None (Code f ∷ ls) h more g)
            where
              entered-lock : entered image (Code f ∷ ls) ≡ Code (record f { phase = phase.Body }) ∷ ls
              entered-lock = rw e refl

              enters : (more : Name → Bool) → Grows here more → LevelsFit image types more None (entered image (Code f ∷ ls))
              enters more g = subst (λ z. LevelsFit image types more None z) (sym entered-lock) (rephased more f phase.Body (frame-grows image here more g types f h.0), (tt, (h.1.1.0, lower-grows image here more g types ls h.1.1.1)))

              lock-raise : (more : Name → Bool) → Grows here more → (z : Name) → LevelsFit image types more (Some z) (Code f ∷ ls)
              lock-raise more g z = (frame-grows image here more g types f h.0, (subst (λ y. PhaseFits image more (Some z) f y) (sym e) x, (h.1.1.0, lower-grows image here more g types ls h.1.1.1)))
          by_phase phase.Lock e None q x = let y : false ≡ true = subst (λ z. is_some z ≡ true) q x in absurd cc
          by_phase (phase.Unlock v) e o q x = alone-fits (Running, answer_top image v ls) (left-levels f.method v ls x h.1.1.0 h.1.1.1)

      running-fits : (w : Who) → WhoFits image here w → (ls : List Level) → LevelsFit image types here None ls → Right (planned image m c Running ls (running_plan image w ls))
      running-fits w wf [] h = ends-well Running [] (Finish None) refl (λ more g v. tt) (λ more g e x. (x, tt)) (λ more g k. tt)
      running-fits w wf (Code f ∷ ls) h = frame-fits w wf f ls h
      running-fits w wf (Init k b ∷ ls) h = init-fits w k b ls h

      -- ---- raising

      raising-frame : (e : Name) (f : Frame) (ls : List Level) → IsThrown image here e → LevelsFit image types here (Some e) (Code f ∷ ls) → Right (performed image m c (Raising e) (Code f ∷ ls) (from (unwinds f.phase f.lock) (handled f e) (handler_for image f e)))
      raising-frame e f ls x h = by_body f.phase refl
        where
          drops : Right (performed image m c (Raising e) (Code f ∷ ls) Drops)
          drops = alone-fits (Raising e, ls) (x, lower-levels here (Some e) ls h.1.1.1)

          unlocks : (n : Name) → f.phase ≡ phase.Body → f.lock ≡ Some n → handler_of image f.method f.at e.class ≡ None → Right (performed image m c (Raising e) (Code f ∷ ls) (Needs (Exit n true)))
          unlocks n b q hn = ends-well (Raising e) (Code f ∷ ls) (Exit n true) (subst (λ z. from true here z ≡ true) q h.0.lock, refl) (λ more g v. (thrown-more more g e x, (rephased more f (phase.Unlock None) (frame-grows image here more g types f h.0), (hn, (h.1.1.0, lower-grows image here more g types ls h.1.1.1))))) (λ more g z y. (y, (frame-grows image here more g types f h.0, (subst (λ p. PhaseFits image more (Some z) f p) (sym b) tt, (h.1.1.0, lower-grows image here more g types ls h.1.1.1))))) (λ more g k. (thrown-more more g e x, levels-more (Some e) (Code f ∷ ls) h more g))

          catches : (to : ℕ) → f.phase ≡ phase.Body → handler_of image f.method f.at e.class ≡ Some to → Right (performed image m c (Raising e) (Code f ∷ ls) (handled f e to))
          catches to b q =
              let t : TopBody here f ls = record { fits = h.0; body = b; on = h.1.1.0; low = h.1.1.1 } in
              let go : FlowsTo image (with_stack h.0.work (class_type image e.class ∷ [])) (types f.method to) = accepted.handlers f.method f.at e.class to h.0.work h.0.is_typed q x.fits in
              let held : Both image f.method here (Ref e ∷ []) (class_type image e.class ∷ []) = class-held image f.method here accepted.subs e e.class x.is_here (type-refl (superclasses image) accepted.subs.tree (class_type image e.class)) in
              let g : FrameFits image types here (frame_moved f to (Ref e ∷ [])) = arrives image types accepted here f (frame_moved f to (Ref e ∷ [])) (with_stack h.0.work (class_type image e.class ∷ [])) h.0 refl refl refl (record { locals_held = h.0.fits.locals_held; stack = held }) go in
              alone-fits (Running, Code (frame_moved f to (Ref e ∷ [])) ∷ ls) (body-levels here None (frame_moved f to (Ref e ∷ [])) ls (replaced-top here f (frame_moved f to (Ref e ∷ [])) ls t g refl refl))

          in_body : f.phase ≡ phase.Body → (o : Option ℕ) → handler_of image f.method f.at e.class ≡ o → (l : Option Name) → f.lock ≡ l → Right (performed image m c (Raising e) (Code f ∷ ls) (from (unwinds phase.Body l) (handled f e) o))
          in_body b (Some to) q l r = catches to b q
          in_body b None q None r = drops
          in_body b None q (Some n) r = unlocks n b r q

          by_body : (p : Phase) → f.phase ≡ p → Right (performed image m c (Raising e) (Code f ∷ ls) (from (unwinds p f.lock) (handled f e) (if is_body p then handler_of image f.method f.at e.class else None)))
          by_body phase.Body b = in_body b (handler_of image f.method f.at e.class) refl f.lock refl
          by_body phase.Lock b = drops
          by_body (phase.Unlock v) b = drops

      raising-fits : (e : Name) (ls : List Level) → IsThrown image here e → LevelsFit image types here (Some e) ls → Right (planned image m c (Raising e) ls (raising_plan image e ls))
      raising-fits e [] x h = ends-well (Raising e) [] (Finish (Some e)) refl (λ more g v. (thrown-more more g e x, tt)) (λ more g z y. (y, tt)) (λ more g k. (thrown-more more g e x, tt))
      raising-fits e (Code f ∷ ls) x h = raising-frame e f ls x h
      raising-fits e (Init k b ∷ ls) x h = ends-well (Raising e) (Init k b ∷ ls) (InitFail k _) refl (λ more g v. (thrown-more more g e x, lower-more (Some e) ls h.1 more g)) (λ more g z y. (y, lower-more (Some z) ls h.1 more g)) (λ more g j. (thrown-more more g e x, levels-more (Some e) (Init k b ∷ ls) h more g))

      -- ---- entry

      main-frame : (x : MethodCode) → code_of image image.main ≡ Some x → FrameFits image types here (new_frame image image.main (Ref (arguments image) ∷ []) x)
      main-frame x q =
          let a = accepted.starts.main in
          let ha : there_in m.heap (arguments image) ≡ true = s.premade (arguments image) the_arguments in
          new-frame image types accepted here holders image.main x (Ref (arguments image) ∷ []) q a.bound (record { here = and_both _ _ ha refl; held = accepted.starts.main_held here ha; operands = accepted.starts.main_operands; begins = inl a.fixed })

      run-frame : (n : Name) (k : ℕ) → here n ≡ true → select_of image.classes image.methods n.class (thread_run image) false ≡ Found k → (x : MethodCode) → code_of image k ≡ Some x → FrameFits image types here (new_frame image k (Ref n ∷ []) x)
      run-frame n k hn e x q =
          let z : Selects image n.class (thread_run image) k = selected image types accepted n.class (thread_run image) false k e in
          new-frame image types accepted here holders k x (Ref n ∷ []) q z.bound (receiver-call image types accepted here holders k nothing_desc n [] (z.same ∙ accepted.starts.run) z.not_static z.has_body hn z.fits refl refl)

      run-fits : (w : Who) → here w.object ≡ true → (t : Selected) → select_of image.classes image.methods w.object.class (thread_run image) false ≡ t → Right (performed image m c Entry [] (runs_thread image w t))
      run-fits w h (Found k) e = calls-fit w Entry k (Ref w.object ∷ []) [] (run-frame w.object k h e) tt tt (λ x. tt)
      run-fits w h NoBody e = fault-fits 29 Entry [] refl (λ x. tt)
      run-fits w h NoInterface e = fault-fits 28 Entry [] refl (λ x. tt)
      run-fits w h NotPublic e = fault-fits 30 Entry [] refl (λ x. tt)

      entry-fits : (w : Who) → here w.object ≡ true → Right (planned image m c Entry [] (entry_plan image w))
      entry-fits w h = by_first w.first
        where
          by_first : (b : Bool) → Right (planned image m c Entry [] (if b then asking (owner_of image image.main) (calls w image.main (Ref (arguments image) ∷ [])) else plain (runs_thread image w (select_of image.classes image.methods w.object.class (thread_run image) false))))
          by_first true = planned-fits Entry [] (asking (owner_of image image.main) (calls w image.main (Ref (arguments image) ∷ []))) (calls-fit w Entry image.main (Ref (arguments image) ∷ []) [] main-frame tt tt (λ x. tt)) (λ k e. (tt, λ x. tt))
          by_first false = run-fits w h (select_of image.classes image.methods w.object.class (thread_run image) false) refl

      -- ---- all modes

      retaken-fits : (ls : List Level) (n : Name) (k : ℕ) → here n ≡ true → LevelsFit image types here None ls → Right (retaken m c ls n k)
      retaken-fits ls n k x h z e ok = by_deed (retakes c.thread n k (owner_at m.monitors n) (waiters_of n m.waiting)) refl e
        where
          by_deed : (o : Option Deed) → retakes c.thread n k (owner_at m.monitors n) (waiters_of n m.waiting) ≡ o → from None (λ d. Some (record { deed = d; stand = (Running, ls) })) o ≡ Some z → TakenFits image types m z
          by_deed None q e = absurd cc
          by_deed (Some d) q e =
              let y : record { deed = d; stand = (Running, ls) } ≡ z = some_is e in
              let w : name_fits m.heap c.name d.makes ≡ true = subst (λ (v : Taken). name_fits m.heap c.name v.deed.makes ≡ true) (sym y) ((and_parts (pick_fits c.pick z.deed.waiters) (name_fits m.heap c.name z.deed.makes) ok).1) in
              let f : DeedFits image m d [] = serves.retaking n k d x q w in
              subst (λ (v : Taken). TakenFits image types m v) y (record { changes = f.changes; mode = levels-more None ls h (there_in (changed d.changes m).heap) (changes-grow d.changes m) })

      pub attempt-fits : (th : ThreadState) → ThreadFits image types here th → Right (attempt image m c th)
      unfolding attempt plan
      attempt-fits th t = by_mode_of th.mode refl t.levels
        where
          by_mode_of : (mode : Mode) → th.mode ≡ mode → ModeFits image types here mode th.levels → Right (by_mode image m c th mode)
          by_mode_of Entry e h = subst (λ z. Right (planned image m c z th.levels (plan image (who m.heap c.thread th) z th.levels))) (sym e) (subst (λ z. Right (planned image m c Entry z (entry_plan image (who m.heap c.thread th)))) (sym h) (entry-fits (who m.heap c.thread th) t.object.is_here))
          by_mode_of Running e h = subst (λ z. Right (planned image m c z th.levels (plan image (who m.heap c.thread th) z th.levels))) (sym e) (running-fits (who m.heap c.thread th) (who-fits th t) th.levels h)
          by_mode_of (Raising x) e h = subst (λ z. Right (planned image m c z th.levels (plan image (who m.heap c.thread th) z th.levels))) (sym e) (raising-fits x th.levels h.0 h.1)
          by_mode_of (Waiting n k) e h = retaken-fits th.levels n k h.0 h.1
          by_mode_of Ended e h = nowhere
