-- A frame's step at its instruction: by itself, or once what it asked for is answered.
use Rattle.std.specs.Prelude.{◌≡◌, ℕ, ◌+◌, ◌==◌, ◌<◌, ◌≤◌, if◌then◌else◌, List, length, reverse, take, find, Option, Some}
use Rattle.std.specs.List.{AllPairs}
use Rattle.jvm_base.specs.Tops.{frame_answered}
use Rattle.jvm_base.specs.Words.{from}
use Rattle.jvm_base.specs.declared.desc.MethodDesc.{MethodDesc}
use Rattle.jvm_base.specs.declared.value.Value.{Value}
use Rattle.jvm_base.specs.declared.frame.Frame.{Frame}
use Rattle.code_table.specs.declared.code.Code.{Code}
use Rattle.code_table.specs.declared.code.Placed.{Placed}
use Rattle.code_table.specs.declared.op.Op.{Op}
use Rattle.code_table.specs.declared.op.Op.TheVariants as op
use Rattle.code_table.specs.declared.opcode.TheConstants as code
use Rattle.frame_ops.specs.declared.answer.Given.{Given}
use Rattle.frame_ops.specs.declared.answer.Pure.{Pure}
use Rattle.frame_ops.specs.declared.answer.Pure.TheVariants as pure
use Rattle.frame_ops.specs.Condition.{CanMove}
use Rattle.frame_ops.specs.Moves.{Move, frame_after, pure_answer}
use Rattle.frame_ops.specs.Table.{move_of}

-- the instruction at an address of some code
abbrev pub placed_in : Code → ℕ → Option Placed
placed_in code at = find (λ i. i.at == at) code.ops

-- ---- what decoding owes

-- addresses rise from one instruction to the next
abbrev pub IsRising : List Placed → Type 0
IsRising ops = AllPairs (λ p q. p.at < q.at) ops

-- a method takes at most 255 arguments (JVMS2 4.10)
abbrev pub HasFewArguments : Op → Type 0
HasFewArguments (op.Invoke o i d) = length d.args ≤ 255
HasFewArguments _ = Unit {0}

-- ---- by itself

-- what the frame's instruction comes to
abbrev pub move_at : Placed → Given → Frame → Move
move_at i given f = move_of i.op given f.locals f.stack.values

-- the frame has what its instruction takes, and room for what it puts
pub record CanRun (i : Placed) (given : Given) (f : Frame) : Type 0 where
  pub few : HasFewArguments i.op
  pub moves : CanMove (move_at i given f) f.stack

-- a frame with this code is at such an instruction
pub record CanStep (code : Code) (given : Given) (f : Frame) : Type 0 where
  pub placed : Placed
  pub here : placed_in code f.at ≡ Some placed
  pub runs : CanRun placed given f

-- what the step of a frame with this code answers
abbrev pub step_answer : Code → Given → Frame → Pure
step_answer code given f =
    from pure.Next (λ i. pure_answer (move_at i given f)) (placed_in code f.at)

-- and the frame after it
abbrev pub step_frame : Code → Given → Frame → Frame
step_frame code given f =
    from f (λ i. frame_after (move_at i given f) i.next f) (placed_in code f.at)

-- ---- once it is answered

-- how many values a call takes: the receiver, where there is one, and the arguments
abbrev pub call_count : ℕ → MethodDesc → ℕ
call_count o d = length d.args + (if o == code.INVOKESTATIC then 0 else 1)

-- these values, the receiver first
abbrev pub call_values : ℕ → List Value → List Value
call_values n vs = reverse (take n vs)

-- how many operands an instruction takes that is answered from outside
abbrev pub operand_count : Op → ℕ
operand_count (op.ArrayLoad o) = 2
operand_count (op.ArrayStore o) = 3
operand_count (op.Static o i d) = if o == code.GETSTATIC then 0 else 1
operand_count (op.Field o i d) = if o == code.GETFIELD then 1 else 2
operand_count (op.Invoke o i d) = call_count o d
operand_count (op.New i) = 0
operand_count (op.MultiNewArray i n) = n
operand_count _ = 1

-- the frame behind its instruction, with the answer, if any, in place of the operands
abbrev pub placed_answered : Placed → Option Value → Frame → Frame
placed_answered i answer f = frame_answered i.next (operand_count i.op) answer f

-- the same of a frame with this code
abbrev pub completed : Code → Option Value → Frame → Frame
completed code answer f = from f (λ i. placed_answered i answer f) (placed_in code f.at)

-- the frame has what its instruction takes, and room for the answer
pub record CanTake (i : Placed) (answer : Option Value) (f : Frame) : Type 0 where
  pub few : HasFewArguments i.op
  pub enough : operand_count i.op ≤ length f.stack.values
  pub room : length (placed_answered i answer f).stack.values ≤ f.stack.room

-- a frame with this code is at such an instruction
pub record CanComplete (code : Code) (answer : Option Value) (f : Frame) : Type 0 where
  pub placed : Placed
  pub here : placed_in code f.at ≡ Some placed
  pub takes : CanTake placed answer f
