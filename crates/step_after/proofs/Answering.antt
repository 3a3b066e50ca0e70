-- A frame that asked can be answered, where what comes of it fits the typing.
use Rattle.std.proofs.Common.{◌≡◌, ◌∙◌, sym, ap, subst, refl, ℕ, ◌≤◌, Bool, true, List, [], ◌∷◌, length, Option, Some, None, arith}
use Rattle.jvm_base.specs.declared.frame.Frame.{Frame}
use Rattle.jvm_base.specs.declared.name.Name.{Name}
use Rattle.jvm_base.specs.declared.value.Value.{Value}
use Rattle.jvm_base.specs.Words.{from}
use Rattle.code_table.specs.declared.code.Placed.{Placed}
use Rattle.program_image.specs.Program.{Program}
use Rattle.program_image.specs.Words.{instruction_at}
use Rattle.instruction_table.specs.Working.{slots}
use Rattle.frame_ops.specs.Stepping.{CanTake, placed_answered}
use Rattle.machine_state.specs.Next.{answered}
use Rattle.frame_soundness.specs.AcceptedProgram.{Types, Accepted}
use Rattle.frame_soundness.specs.Conditions.{MayTake}
use Rattle.frame_soundness.specs.Frames.{FrameFits}
use Rattle.frame_soundness.proofs.ConditionLaws.{meets-condition, held-length, slots-length}
use Rattle.step_complete.specs.Condition.{TakesAnswer}
use Rattle.step_after.specs.Conditions.{AsksHere}

-- a frame that fits has no more operands than it has room for
pub room_of : (p : Program) (types : Types) → Accepted p types → (there : Name → Bool) (f : Frame) → FrameFits p types there f → length f.stack.values ≤ f.stack.room
room_of p types a there f fits =
    let held = held-length p f.method there f.stack.values fits.work.stack fits.fits.stack.held in
    let deep : slots fits.work.stack ≤ fits.code.max_stack = (a.instructions f.method f.at fits.work fits.is_typed).before fits.code fits.is_code in
    omega (arith, held, slots-length fits.work.stack, deep, fits.room)

-- the frame that it comes to is the answered one
here : (p : Program) (v : Option Value) (f : Frame) (i : Placed) → instruction_at p f.method f.at ≡ Some i → answered p v f ≡ placed_answered i v f
here p v f i e = ap (λ o. from f (λ k. placed_answered k v f) o) e

pub takes_answer : (p : Program) (types : Types) → Accepted p types → (there after : Name → Bool) (v : Option Value) (f : Frame) → FrameFits p types there f → FrameFits p types after (answered p v f) → AsksHere p f → TakesAnswer p v f
takes_answer p types a there after v f before fits asks i e =
    let met = meets-condition p types a there f before in
    let same : Some i ≡ Some met.placed = sym e ∙ met.is_placed in
    let one : i ≡ met.placed = cc in
    let nothing : CanTake i None f = subst (λ (k : Placed). MayTake k.op None → CanTake k None f) (sym one) (met.takes None) (asks i e) in
    let is = here p v f i e in
    record {
      few = nothing.few;
      enough = nothing.enough;
      room = subst (λ (g : Frame). length g.stack.values ≤ g.stack.room) is (room_of p types a after (answered p v f) fits);
    }
