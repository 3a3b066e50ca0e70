-- What an instruction comes to, from its frame alone.
use Rattle.std.specs.Prelude.{ℕ, ◌+◌, List, [], ◌∷◌, Option, slice_set}
use Rattle.jvm_base.specs.declared.name.Name.{Name}
use Rattle.jvm_base.specs.declared.value.Value.{Value}
use Rattle.jvm_base.specs.declared.frame.Frame.{Frame}
use Rattle.frame_ops.specs.declared.answer.Fault.{Fault}
use Rattle.frame_ops.specs.declared.answer.Pure.{Pure}
use Rattle.frame_ops.specs.declared.answer.Pure.TheVariants as pure

-- It goes to the next instruction or jumps to an address, with these operands; sets locals from one
-- on, with these operands; raises or throws; asks for something that threads share; calls; or
-- leaves with a result. Stuck is no instruction that was verified: its operands are missing or of
-- another kind.
pub data Move : Type 0 where
  Goes : List Value → Move
  Jumps : ℕ → List Value → Move
  Sets : ℕ → List Value → List Value → Move
  Raises : Fault → Move
  Throws : Name → Move
  Asks : Move
  Calls : Move
  Leaves : Option Value → Move
  Stuck : Move

-- a frame at another address, with other operands
abbrev pub frame_moved : Frame → ℕ → List Value → Frame
frame_moved f at vs = record f { at = at; stack = record { values = vs; room = f.stack.room } }

-- the locals with these values from one on
abbrev pub locals_set : ℕ → List Value → List Value → List Value
locals_set i [] locals = locals
locals_set i (v ∷ vs) locals = locals_set (i + 1) vs (slice_set locals i v)

-- the frame after a move, where the next instruction stands at an address
abbrev pub frame_after : Move → ℕ → Frame → Frame
frame_after (Goes vs) next f = frame_moved f next vs
frame_after (Jumps to vs) next f = frame_moved f to vs
frame_after (Sets i new vs) next f =
    record (frame_moved f next vs) { locals = locals_set i new f.locals }
frame_after _ next f = f

-- what a move is called
abbrev pub pure_answer : Move → Pure
pure_answer (Raises fault) = pure.Raise fault
pure_answer (Throws e) = pure.Throw e
pure_answer Asks = pure.Heap
pure_answer Calls = pure.Call
pure_answer (Leaves v) = pure.Leave v
pure_answer _ = pure.Next
