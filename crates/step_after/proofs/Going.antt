-- A thread can go on, where what comes of it fits the typing.
use Rattle.std.proofs.Common.{◌≡◌, ◌≢◌, ℕ, ◌≤◌, Bool, true, false, List, [], ◌∷◌, length, Option, Some, None, refl, sym, ap, subst, ◌∙◌, arith}
use Rattle.std.specs.Option.{option_to_list}
use Rattle.jvm_base.specs.Tops.{below, with_top}
use Rattle.jvm_base.specs.declared.frame.Frame.{Frame}
use Rattle.jvm_base.specs.declared.frame.Phase.{Phase}
use Rattle.jvm_base.specs.declared.frame.Phase.TheVariants as phase
use Rattle.jvm_base.specs.declared.frame.Level.{Level}
use Rattle.jvm_base.specs.declared.frame.Level.TheVariants.{Code, Init}
use Rattle.jvm_base.specs.declared.name.Name.{Name}
use Rattle.jvm_base.specs.declared.value.Value.{Value}
use Rattle.code_table.specs.declared.code.Placed.{Placed}
use Rattle.code_table.specs.declared.op.Op.{Op}
use Rattle.code_table.specs.declared.op.Op.TheVariants as op
use Rattle.program_image.specs.Program.{Program, target_of}
use Rattle.program_image.specs.Words.{instruction_at}
use Rattle.frame_ops.specs.declared.answer.Given.{Given}
use Rattle.frame_ops.specs.Stepping.{CanRun, CanTake}
use Rattle.machine_state.specs.declared.request.Request.{Request}
use Rattle.machine_state.specs.declared.request.Request.TheVariants.{Get, Put, Load, Store, Len, Make, MakeText, Fault, Enter, Exit, Wait, Notify, NotifyAll, Begin, InitDone, InitFail, Start, Join, Finish, Buffer, Print}
use Rattle.machine_state.specs.declared.request.Answer.{Answer}
use Rattle.machine_state.specs.declared.request.Answer.TheVariants.{Gives, Raises, Slept}
use Rattle.machine_state.specs.declared.state.Mode.{Mode}
use Rattle.machine_state.specs.declared.state.Mode.TheVariants.{Entry, Running, Raising, Waiting, Ended}
use Rattle.machine_state.specs.Complete.{Stand, answer_top, entered, entered_by, left, left_by, left_by_op, complete}
use Rattle.machine_state.specs.Instructions.{given_to}
use Rattle.machine_state.specs.Next.{answered}
use Rattle.frame_soundness.specs.AcceptedProgram.{Types, Accepted}
use Rattle.frame_soundness.specs.Conditions.{MayTake}
use Rattle.frame_soundness.specs.Frames.{FrameFits}
use Rattle.frame_soundness.proofs.ConditionLaws.{meets-condition}
use Rattle.machine_soundness.specs.Levels.{CallsOne, InBody, LiesOn, Lower, PhaseFits, LevelsFit, ModeFits}
use Rattle.step_complete.specs.Asked.{request_like, asked_for}
use Rattle.step_complete.specs.Condition.{TakesAnswer, CanTurnFrame, CanTurn, CanComplete, given_turn, is_return}
use Rattle.step_complete.specs.declared.asked.Asked.{Asked}
use Rattle.step_complete.specs.declared.asked.Asked.TheVariants as asked
use Rattle.step_complete.specs.declared.turns.Turn.TheVariants as turn
use Rattle.step_complete.specs.Turns.{turned, frame_caught}
use Rattle.step_after.specs.Conditions.{AsksHere, ReturnsOrAsks, FrameAsks, LevelsAsk, TopAsks, RaisesFault}
use Rattle.step_after.proofs.Answering.{room_of, takes_answer}

-- the levels fit, whatever the mode
pub record HasLevels (p : Program) (types : Types) (there : Name → Bool) (ls : List Level) : Type 0 where
  pub raised : Option Name
  pub fit : LevelsFit p types there raised ls

pub levels_of : (p : Program) (types : Types) (there : Name → Bool) (mode : Mode) (ls : List Level) → ModeFits p types there mode ls → HasLevels p types there ls
levels_of p types there Entry ls h = record { raised = None; fit = subst (λ (x : List Level). LevelsFit p types there None x) (sym h) tt }
levels_of p types there Running ls h = record { raised = None; fit = h }
levels_of p types there (Raising e) ls h = record { raised = Some e; fit = h.1 }
levels_of p types there (Waiting n k) ls h = record { raised = None; fit = h.1 }
levels_of p types there Ended ls h = record { raised = h.0; fit = h.1 }

-- the frame on top fits
top_fits : (p : Program) (types : Types) (there : Name → Bool) (f : Frame) (ls : List Level) → HasLevels p types there (Code f ∷ ls) → FrameFits p types there f
top_fits p types there f ls h = h.fit.0

-- ---- the program and its typing, the objects before and after

module _ (p : Program) (types : Types) (a : Accepted p types) (there after : Name → Bool) where
  -- the top frame's instruction is answered
  frame_answers : (v : Option Value) (f : Frame) (ls : List Level) → HasLevels p types there (Code f ∷ ls) → HasLevels p types after (Code (answered p v f) ∷ ls) → AsksHere p f → TakesAnswer p v f
  frame_answers v f ls h k asks = takes_answer p types a there after v f (top_fits p types there f ls h) (top_fits p types after (answered p v f) ls k) asks

  pub top_answers : (v : Option Value) (ls : List Level) → HasLevels p types there ls → HasLevels p types after (answer_top p v ls) → TopAsks p ls → CanTurn p (turn.Answers v) ls
  top_answers v [] h k asks = tt
  top_answers v (Init c b ∷ ls) h k asks = tt
  top_answers v (Code f ∷ ls) h k asks = frame_answers v f ls h k asks

  -- a frame that called may be answered
  called_asks : (f : Frame) (m : ℕ) → CallsOne p f m → AsksHere p f
  called_asks f m c i e =
      let same : Some i ≡ Some c.placed = sym e ∙ c.is_placed in
      let one : i ≡ c.placed = cc in
      subst (λ (o : Op). MayTake o None) (sym (ap (λ (k : Placed). k.op) one ∙ c.is_call)) (omega arith)

  -- the frame below the top one, which called it
  below_asks : (m : ℕ) (ls : List Level) → LiesOn p m ls → TopAsks p ls
  below_asks m [] h = tt
  below_asks m (Init c b ∷ ls) h = tt
  below_asks m (Code f ∷ ls) h = called_asks f m h

  below_fits : (m : ℕ) (ls : List Level) → LiesOn p m ls → Lower p types there ls → HasLevels p types there ls
  below_fits m [] h k = record { raised = None; fit = tt }
  below_fits m (Init c b ∷ ls) h k = record { raised = None; fit = k }
  below_fits m (Code f ∷ ls) h k = record { raised = None; fit = (k.0, (in_body f.phase k.1.0, (k.1.1.0, k.1.1.1))) }
    where
      in_body : (h : Phase) → InBody h → PhaseFits p there None f h
      in_body phase.Body u = tt
      in_body phase.Lock u = absurd u
      in_body (phase.Unlock v) u = absurd u

  -- a frame leaves, and the one below goes on with its result
  pub leaves_fit : (v : Option Value) (g : Frame) (ls : List Level) → HasLevels p types there (Code g ∷ ls) → HasLevels p types after (answer_top p v ls) → CanTurn p (turn.Answers v) (below (Code g ∷ ls))
  leaves_fit v g ls h k =
      let lies = h.fit.1.1.0 in
      top_answers v ls (below_fits g.method ls lies h.fit.1.1.1) k (below_asks g.method ls lies)

  -- a lock is entered by an instruction
  entered_elsewhere : (f : Frame) (ls : List Level) (h : Phase) → h ≢ phase.Lock → entered_by p f ls h ≡ Code (answered p None f) ∷ ls
  entered_elsewhere f ls phase.Lock away = absurd (away refl)
  entered_elsewhere f ls phase.Body away = refl
  entered_elsewhere f ls (phase.Unlock v) away = refl

  pub enters_fit : (f : Frame) (ls : List Level) → HasLevels p types there (Code f ∷ ls) → HasLevels p types after (entered p (Code f ∷ ls)) → (f.phase ≢ phase.Lock → AsksHere p f) → CanTurnFrame p turn.Enters f
  enters_fit f ls h k asks away =
      frame_answers None f ls h (subst (λ (x : List Level). HasLevels p types after x) (entered_elsewhere f ls f.phase away) k) (asks away)

  -- a lock is left by an instruction that doesn't return
  left_otherwise : (f : Frame) (o : Op) → is_return o ≡ false → left_by_op p f o ≡ answered p None f
  left_otherwise f (op.Return o) e = absurd cc
  left_otherwise f _ e = refl

  left_here : (f : Frame) (i : Placed) → instruction_at p f.method f.at ≡ Some i → is_return i.op ≡ false → left_by p f (instruction_at p f.method f.at) ≡ answered p None f
  left_here f i e away = ap (left_by p f) e ∙ left_otherwise f i.op away

  pub lock_left_fits : (f : Frame) (ls : List Level) → HasLevels p types there (Code f ∷ ls) → HasLevels p types after (left p (Code f ∷ ls)) → ReturnsOrAsks p f → CanTurnFrame p turn.Leaves f
  lock_left_fits f ls h k asks i e away =
      frame_answers None f ls h (subst (λ (g : Frame). HasLevels p types after (Code g ∷ ls)) (left_here f i e away) k) (λ j there. asks j there (subst (λ (x : Placed). is_return x.op ≡ false) (here j there) away)) i e
    where
      here : (j : Placed) → instruction_at p f.method f.at ≡ Some j → i ≡ j
      here j there = let same : Some i ≡ Some j = sym e ∙ there in cc

  -- a frame catches
  pub catches_fit : (e : Name) (to : ℕ) (f : Frame) (ls : List Level) → HasLevels p types after (with_top (frame_caught f e to) (Code f ∷ ls)) → 1 ≤ f.stack.room
  catches_fit e to f ls k = room_of p types a after (frame_caught f e to) (top_fits p types after (frame_caught f e to) ls k)

  -- a frame moves
  pub moves_fit : (given : Given) (f : Frame) (ls : List Level) → HasLevels p types there (Code f ∷ ls) → ((i : Placed) → instruction_at p f.method f.at ≡ Some i → given ≡ given_to p i.op (target_of p f.method f.at) f.stack.values) → CanTurnFrame p (turn.Moves given) f
  moves_fit given f ls h told i e =
      let met = meets-condition p types a there f (top_fits p types there f ls h) in
      let same : Some i ≡ Some met.placed = sym e ∙ met.is_placed in
      let one : i ≡ met.placed = cc in
      subst (λ (g : Given). CanRun i g f) (sym (told i e)) (subst (λ (k : Placed). CanRun k (given_to p k.op (target_of p f.method f.at) f.stack.values) f) (sym one) met.runs)

  -- ---- what was asked is answered

  top_of : (r : Request) → ((f : Frame) → FrameAsks p r f → AsksHere p f) → (ls : List Level) → LevelsAsk p r ls → TopAsks p ls
  top_of r same [] h = tt
  top_of r same (Init c b ∷ ls) h = tt
  top_of r same (Code f ∷ ls) h = same f h

  notes_fit : (ls : List Level) → CanTurn p turn.Notes ls
  notes_fit [] = tt
  notes_fit (Init c b ∷ ls) = tt
  notes_fit (Code f ∷ ls) = tt

  unlocks_fit : (ls : List Level) → CanTurn p turn.Unlocks ls
  unlocks_fit [] = tt
  unlocks_fit (Init c b ∷ ls) = tt
  unlocks_fit (Code f ∷ ls) = tt

  given_enter : (n : Name) (ls : List Level) → HasLevels p types there ls → HasLevels p types after (entered p ls) → LevelsAsk p (Enter n) ls → CanTurn p turn.Enters ls
  given_enter n [] h k asks = tt
  given_enter n (Init c b ∷ ls) h k asks = tt
  given_enter n (Code f ∷ ls) h k asks = enters_fit f ls h k asks

  given_leave : (n : Name) (ls : List Level) → HasLevels p types there ls → HasLevels p types after (left p ls) → LevelsAsk p (Exit n false) ls → CanTurn p turn.Leaves ls
  given_leave n [] h k asks = tt
  given_leave n (Init c b ∷ ls) h k asks = tt
  given_leave n (Code f ∷ ls) h k asks = lock_left_fits f ls h k asks

  gives_fit : (r : Request) (v : Option Value) (mode : Mode) (ls : List Level) → RaisesFault r (Gives v) → HasLevels p types there ls → HasLevels p types after (complete p (request_like (asked_for r)) (Gives v) mode ls).1 → LevelsAsk p r ls → CanTurn p (given_turn (asked_for r) v) ls
  unfolding complete
  gives_fit (Enter n) v mode ls raises h k asks = given_enter n ls h k asks
  gives_fit (Exit n true) v mode ls raises h k asks = unlocks_fit ls
  gives_fit (Exit n false) v mode ls raises h k asks = given_leave n ls h k asks
  gives_fit (Wait n) v mode ls raises h k asks = top_answers v ls h k (top_of (Wait n) (λ f x. x) ls asks)
  gives_fit (Begin c) v mode ls raises h k asks = notes_fit ls
  gives_fit (InitDone c) v mode ls raises h k asks = notes_fit ls
  gives_fit (InitFail c made) v mode ls raises h k asks = notes_fit ls
  gives_fit (Finish e) v mode ls raises h k asks = notes_fit ls
  gives_fit (Get n i) v mode ls raises h k asks = top_answers v ls h k (top_of (Get n i) (λ f x. x) ls asks)
  gives_fit (Put n i w) v mode ls raises h k asks = top_answers v ls h k (top_of (Put n i w) (λ f x. x) ls asks)
  gives_fit (Load n i) v mode ls raises h k asks = top_answers v ls h k (top_of (Load n i) (λ f x. x) ls asks)
  gives_fit (Store n i w) v mode ls raises h k asks = top_answers v ls h k (top_of (Store n i w) (λ f x. x) ls asks)
  gives_fit (Len n) v mode ls raises h k asks = top_answers v ls h k (top_of (Len n) (λ f x. x) ls asks)
  gives_fit (Make c sizes) v mode ls raises h k asks = top_answers v ls h k (top_of (Make c sizes) (λ f x. x) ls asks)
  gives_fit (MakeText us) v mode ls raises h k asks = top_answers v ls h k (top_of (MakeText us) (λ f x. x) ls asks)
  gives_fit (Notify n) v mode ls raises h k asks = top_answers v ls h k (top_of (Notify n) (λ f x. x) ls asks)
  gives_fit (NotifyAll n) v mode ls raises h k asks = top_answers v ls h k (top_of (NotifyAll n) (λ f x. x) ls asks)
  gives_fit (Start n) v mode ls raises h k asks = top_answers v ls h k (top_of (Start n) (λ f x. x) ls asks)
  gives_fit (Join n) v mode ls raises h k asks = top_answers v ls h k (top_of (Join n) (λ f x. x) ls asks)
  gives_fit (Buffer n b us) v mode ls raises h k asks = top_answers v ls h k (top_of (Buffer n b us) (λ f x. x) ls asks)
  gives_fit (Print us) v mode ls raises h k asks = top_answers v ls h k (top_of (Print us) (λ f x. x) ls asks)
  gives_fit (Fault c) v mode ls raises h k asks = absurd raises

  -- a thread that falls asleep has its call answered
  slept_fit : (r : Request) (count : ℕ) (mode : Mode) (ls : List Level) → HasLevels p types there ls → HasLevels p types after (complete p (request_like (asked_for r)) (Slept count) mode ls).1 → LevelsAsk p r ls → CanComplete p (asked_for r) (Slept count) ls
  unfolding complete
  slept_fit (Wait n) count mode ls h k asks = top_answers None ls h k (top_of (Wait n) (λ f x. x) ls asks)
  slept_fit (Exit n true) count mode ls h k asks = tt
  slept_fit (Exit n false) count mode ls h k asks = tt
  slept_fit _ count mode ls h k asks = tt

  -- whatever is answered
  pub completes_fit : (r : Request) (answer : Answer) (mode : Mode) (ls : List Level) → RaisesFault r answer → HasLevels p types there ls → HasLevels p types after (complete p (request_like (asked_for r)) answer mode ls).1 → LevelsAsk p r ls → CanComplete p (asked_for r) answer ls
  completes_fit r (Gives v) mode ls raises h k asks = gives_fit r v mode ls raises h k asks
  completes_fit r (Raises e) mode ls raises h k asks = tt
  completes_fit r (Slept count) mode ls raises h k asks = slept_fit r count mode ls h k asks
