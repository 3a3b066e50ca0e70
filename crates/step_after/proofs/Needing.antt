-- What a plan asks for can be answered where it is asked.
use Rattle.std.proofs.Common.{◌≡◌, ℕ, Bool, true, false, List, [], ◌∷◌, Option, Some, None, refl, sym, ap, subst, ◌∙◌}
use Rattle.jvm_base.specs.Words.{from}
use Rattle.jvm_base.specs.declared.frame.Frame.{Frame}
use Rattle.jvm_base.specs.declared.frame.Phase.{Phase}
use Rattle.jvm_base.specs.declared.frame.Phase.TheVariants as phase
use Rattle.jvm_base.specs.declared.frame.Level.{Level}
use Rattle.jvm_base.specs.declared.frame.Level.TheVariants.{Code, Init}
use Rattle.jvm_base.specs.declared.name.Name.{Name}
use Rattle.jvm_base.specs.declared.value.Value.{Value}
use Rattle.code_table.specs.declared.code.Placed.{Placed}
use Rattle.program_image.specs.declared.info.Target.{Target}
use Rattle.program_image.specs.Program.{Program, target_of}
use Rattle.program_image.specs.Words.{instruction_at}
use Rattle.frame_ops.specs.Moves.{Move, Goes, Jumps, Sets, Raises, Throws as ThrowsIt, Asks, Calls, Leaves as LeavesIt, Stuck as StuckThere}
use Rattle.frame_ops.specs.Stepping.{move_at}
use Rattle.machine_state.specs.declared.request.Request.{Request}
use Rattle.machine_state.specs.declared.request.Request.TheVariants.{Get, Put, Load, Store, Len, Make, MakeText, Fault, Enter, Exit, Wait, Notify, NotifyAll, Begin, InitDone, InitFail, Start, Join, Finish, Buffer, Print}
use Rattle.machine_state.specs.declared.state.Mode.{Mode}
use Rattle.machine_state.specs.declared.state.Mode.TheVariants.{Entry, Running, Raising, Waiting, Ended}
use Rattle.machine_state.specs.Instructions.{given_to, fault_class, by_move, instruction_plan, returns}
use Rattle.machine_state.specs.Next.{Next, Needs, Stuck, Plan, Who, plain}
use Rattle.machine_state.specs.Plan.{plan, body_plan, frame_plan, unwinds, handled, handler_for}
use Rattle.frame_soundness.specs.Conditions.{MayTake}
use Rattle.step_complete.specs.Condition.{is_return}
use Rattle.step_after.specs.Conditions.{AsksHere, FrameAsks, LevelsAsk}
use Rattle.step_after.proofs.Asking.{Kind, returns as it_returns, asks as it_asks, plain as it_is_plain, kind_of}

-- a frame whose instruction may be answered may be answered whatever is asked
asked_here : (p : Program) (r : Request) (f : Frame) → AsksHere p f → FrameAsks p r f
asked_here p (Get n i) f h = h
asked_here p (Put n i v) f h = h
asked_here p (Load n i) f h = h
asked_here p (Store n i v) f h = h
asked_here p (Len n) f h = h
asked_here p (Make c sizes) f h = h
asked_here p (MakeText us) f h = h
asked_here p (Fault c) f h = tt
asked_here p (Enter n) f h = λ away. h
asked_here p (Exit n true) f h = tt
asked_here p (Exit n false) f h = λ i e away. h i e
asked_here p (Wait n) f h = h
asked_here p (Notify n) f h = h
asked_here p (NotifyAll n) f h = h
asked_here p (Begin c) f h = tt
asked_here p (InitDone c) f h = tt
asked_here p (InitFail c made) f h = tt
asked_here p (Start n) f h = h
asked_here p (Join n) f h = h
asked_here p (Finish e) f h = tt
asked_here p (Buffer n k us) f h = h
asked_here p (Print us) f h = h

-- the instruction in its place is the one that is there
here : (p : Program) (f : Frame) (i k : Placed) → instruction_at p f.method f.at ≡ Some i → instruction_at p f.method f.at ≡ Some k → i ≡ k
here p f i k a b = let e : Some i ≡ Some k = sym a ∙ b in cc

-- a return asks for its lock alone, to leave it
returned : (p : Program) (f : Frame) (i : Placed) (v : Option Value) (r : Request) → instruction_at p f.method f.at ≡ Some i → is_return i.op ≡ true → (lock : Option Name) → returns lock v ≡ Needs r → FrameAsks p r f
returned p f i v r at back None e = absurd cc
returned p f i v r at back (Some lock) e =
    let is : Exit lock false ≡ r = cc in
    subst (λ (s : Request). FrameAsks p s f) is (λ k there away. let same : i ≡ k = here p f i k at there in absurd cc)

-- by the move that the instruction comes to
moved_asks : (p : Program) (who : Who) (f : Frame) (i : Placed) (t : Option Target) (r : Request) → instruction_at p f.method f.at ≡ Some i → (m : Move) → Kind i.op m → (by_move p who f i t m).next ≡ Needs r → FrameAsks p r f
moved_asks p who f i t r at Asks (it_asks may stays) e = asked_here p r f (λ k there. subst (λ (j : Placed). MayTake j.op None) (here p f i k at there) may)
moved_asks p who f i t r at Calls (it_asks may stays) e = asked_here p r f (λ k there. subst (λ (j : Placed). MayTake j.op None) (here p f i k at there) may)
moved_asks p who f i t r at Asks (it_is_plain h) e = absurd h
moved_asks p who f i t r at Calls (it_is_plain h) e = absurd h
moved_asks p who f i t r at Asks (it_returns back left) e = absurd left
moved_asks p who f i t r at Calls (it_returns back left) e = absurd left
moved_asks p who f i t r at (LeavesIt v) (it_returns back left) e = returned p f i v r at back f.lock e
moved_asks p who f i t r at (LeavesIt v) (it_asks may stays) e = absurd stays
moved_asks p who f i t r at (LeavesIt v) (it_is_plain h) e = absurd h
moved_asks p who f i t r at (Raises kind) k e = let is : Fault (fault_class kind) ≡ r = cc in subst (λ (s : Request). FrameAsks p s f) is tt
moved_asks p who f i t r at (ThrowsIt n) k e = absurd cc
moved_asks p who f i t r at StuckThere k e = absurd cc
moved_asks p who f i t r at (Goes vs) k e = absurd cc
moved_asks p who f i t r at (Jumps to vs) k e = absurd cc
moved_asks p who f i t r at (Sets l new vs) k e = absurd cc

-- by the instruction in its place
body_asks : (p : Program) (who : Who) (f : Frame) (r : Request) → (o : Option Placed) → instruction_at p f.method f.at ≡ o → (body_plan p who f).next ≡ Needs r → FrameAsks p r f
body_asks p who f r None at e =
    let is : (body_plan p who f).next ≡ Stuck = ap (λ o. (from (plain Stuck) (λ i. instruction_plan p who f i (target_of p f.method f.at)) o).next) at in
    let bad : Stuck ≡ Needs r = sym is ∙ e in
    absurd cc
body_asks p who f r (Some i) at e =
    let is : (body_plan p who f).next ≡ (instruction_plan p who f i (target_of p f.method f.at)).next = ap (λ o. (from (plain Stuck) (λ i. instruction_plan p who f i (target_of p f.method f.at)) o).next) at in
    moved_asks p who f i (target_of p f.method f.at) r at _ (kind_of i.op (given_to p i.op (target_of p f.method f.at) f.stack.values) f.locals f.stack.values) (sym is ∙ e)

-- by the frame's phase
frame_asks : (p : Program) (who : Who) (f : Frame) (r : Request) → (h : Phase) → f.phase ≡ h → (lock : Option Name) → (frame_plan p who f h lock).next ≡ Needs r → FrameAsks p r f
frame_asks p who f r phase.Lock at (Some lock) e =
    let is : Enter lock ≡ r = cc in
    subst (λ (s : Request). FrameAsks p s f) is (λ away. absurd (away at))
frame_asks p who f r phase.Lock at None e = absurd cc
frame_asks p who f r phase.Body at lock e = body_asks p who f r (instruction_at p f.method f.at) refl e
frame_asks p who f r (phase.Unlock v) at lock e = absurd cc

-- a frame that unwinds asks for its lock alone
unwinding_asks : (p : Program) (f : Frame) (r : Request) → (h : Phase) (lock : Option Name) → unwinds h lock ≡ Needs r → FrameAsks p r f
unwinding_asks p f r phase.Body (Some lock) e =
    let is : Exit lock true ≡ r = cc in
    subst (λ (s : Request). FrameAsks p s f) is tt
unwinding_asks p f r phase.Body None e = absurd cc
unwinding_asks p f r phase.Lock (Some lock) e = absurd cc
unwinding_asks p f r phase.Lock None e = absurd cc
unwinding_asks p f r (phase.Unlock v) (Some lock) e = absurd cc
unwinding_asks p f r (phase.Unlock v) None e = absurd cc

raising_asks : (p : Program) (f : Frame) (e : Name) (r : Request) → (to : Option ℕ) → from (unwinds f.phase f.lock) (handled f e) to ≡ Needs r → FrameAsks p r f
raising_asks p f e r None h = unwinding_asks p f r f.phase f.lock h
raising_asks p f e r (Some to) h = absurd cc

-- a thread that has begun, and neither waits nor has ended
pub needs_asks : (p : Program) (who : Who) (mode : Mode) (ls : List Level) (r : Request) → (mode ≡ Entry → ls ≡ []) → (plan p who mode ls).next ≡ Needs r → LevelsAsk p r ls
unfolding plan
needs_asks p who mode [] r begun e = tt
needs_asks p who mode (Init c b ∷ ls) r begun e = tt
needs_asks p who Entry (Code f ∷ ls) r begun e = let bad : (Code f ∷ ls) ≡ [] = begun refl in absurd cc
needs_asks p who Running (Code f ∷ ls) r begun e = frame_asks p who f r f.phase refl f.lock e
needs_asks p who (Raising n) (Code f ∷ ls) r begun e = raising_asks p f n r (handler_for p f n) e
needs_asks p who (Waiting n k) (Code f ∷ ls) r begun e = absurd cc
needs_asks p who Ended (Code f ∷ ls) r begun e = absurd cc
