-- When a frame can take a step: what its instruction asks of operands, locals and room.
use Rattle.std.specs.Prelude.{◌≤◌, List, length}
use Rattle.jvm_base.specs.Stack.{Stack}
use Rattle.jvm_base.specs.declared.value.Value.{Value}
use Rattle.frame_ops.specs.Moves.{Move, Goes, Jumps, Sets, Stuck}

-- the operands are there and of the kinds that are asked
abbrev pub IsDefined : Move → Type 0
IsDefined Stuck = ⊥
IsDefined _ = Unit {0}

-- the operands after a move
abbrev pub values_after : Move → List Value → List Value
values_after (Goes vs) old = vs
values_after (Jumps to vs) old = vs
values_after (Sets i new vs) old = vs
values_after _ old = old

-- a stack after a move
abbrev pub stack_after : Move → Stack → Stack
stack_after move s = record { values = values_after move s.values; room = s.room }

-- a move that a stack can take
pub record CanMove (move : Move) (s : Stack) : Type 0 where
  pub defined : IsDefined move
  pub room : length (values_after move s.values) ≤ s.room
