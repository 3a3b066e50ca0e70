-- What comes of an instruction, by the answer of its frame.
use Rattle.std.proofs.Common.{◌≡◌, Option, refl}
use Rattle.jvm_base.specs.declared.frame.Frame.{Frame}
use Rattle.code_table.specs.declared.code.Placed.{Placed}
use Rattle.program_image.specs.declared.info.Target.{Target}
use Rattle.program_image.specs.Program.{Program}
use Rattle.frame_ops.specs.declared.answer.Pure.{Pure}
use Rattle.frame_ops.specs.declared.answer.Pure.TheVariants as pure
use Rattle.frame_ops.specs.Condition.{IsDefined}
use Rattle.frame_ops.specs.Moves.{Move, Stuck as StuckThere, frame_after, pure_answer}
use Rattle.machine_state.specs.Instructions.{by_move, shared_plan, call_plan, returns, fault_class}
use Rattle.machine_state.specs.Next.{Next, Alone, Throws, Plan, Who, plain, fault}

-- by the answer, where the frame may go on
abbrev pub by_answer : Program → Who → Frame → Placed → Option Target → Next → Pure → Plan
by_answer p who f i t on pure.Next = plain on
by_answer p who f i t on (pure.Raise kind) = plain (fault (fault_class kind))
by_answer p who f i t on (pure.Throw e) = plain (Throws e)
by_answer p who f i t on pure.Heap = shared_plan p i.op t f.stack.values
by_answer p who f i t on pure.Call = call_plan p who f i.op t f.stack.values
by_answer p who f i t on (pure.Leave v) = plain (returns f.lock v)

-- it is by the move
pub by_move_is : (p : Program) (who : Who) (f : Frame) (i : Placed) (t : Option Target) (m : Move) → IsDefined m → by_move p who f i t m ≡ by_answer p who f i t (Alone (frame_after m i.next f)) (pure_answer m)
by_move_is p who f i t StuckThere h = absurd h
by_move_is p who f i t _ h = refl
