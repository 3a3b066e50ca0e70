-- What the code tells of a move is all of it.
use Rattle.std.proofs.Common.{◌≡◌, ◌≢◌, ℕ, List, refl}
use Rattle.jvm_base.specs.declared.value.Value.{Value}
use Rattle.jvm_base.specs.declared.frame.Frame.{Frame}
use Rattle.frame_ops.specs.declared.answer.Pure.TheVariants as pure
use Rattle.frame_ops.specs.Condition.{IsDefined, stack_after}
use Rattle.frame_ops.specs.Jumping.{moved_of, answer_of, address_after, locals_after, KeepsLocals}
use Rattle.frame_ops.specs.Moves.{Move, Goes, Jumps, Sets, Stuck, frame_after, pure_answer}

-- the answer
pub answer_is_told : (m : Move) → IsDefined m → answer_of (moved_of m) ≡ pure_answer m
answer_is_told Stuck h = absurd h
answer_is_told _ h = refl

-- the frame
pub frame_is_told : (m : Move) (next : ℕ) (f : Frame) → IsDefined m → record f { at = address_after (moved_of m) next f.at; locals = locals_after m f.locals; stack = stack_after m f.stack } ≡ frame_after m next f
frame_is_told Stuck next f h = absurd h
frame_is_told _ next f h = refl

-- the locals
pub locals_are_kept : (m : Move) (locals : List Value) → KeepsLocals m → locals ≡ locals_after m locals
locals_are_kept (Sets i new vs) locals h = absurd h
locals_are_kept _ locals h = refl

-- where it doesn't go on, the frame is as before
pub frame_is_kept : (m : Move) (next : ℕ) (f : Frame) → pure_answer m ≢ pure.Next → frame_after m next f ≡ f
frame_is_kept (Goes vs) next f h = absurd (h refl)
frame_is_kept (Jumps to vs) next f h = absurd (h refl)
frame_is_kept (Sets i new vs) next f h = absurd (h refl)
frame_is_kept _ next f h = refl
