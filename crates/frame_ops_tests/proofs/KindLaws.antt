-- Operands of the kinds that an instruction takes are what it asks for.
use Rattle.std.proofs.Common.{◌+◌, ◌≤◌, List, length, IsTrue, arith}
use Rattle.jvm_base.specs.declared.value.Value.{Value}
use Rattle.jvm_base.specs.Stack.{Stack}
use Rattle.code_table.specs.declared.op.Op.{Op}
use Rattle.frame_ops.specs.declared.answer.Given.{Given}
use Rattle.frame_ops.specs.Condition.{CanMove, IsDefined, values_after}
use Rattle.frame_ops.specs.Table.{move_of}
use Rattle.frame_ops_tests.specs.Kinds.{takes}
use Rattle.frame_ops_tests.specs.Room.{HasRoom}

-- they are there
pub are_there : (o : Op) (given : Given) (locals vs : List Value) → IsTrue (takes o locals vs) → IsDefined (move_of o given locals vs)
are_there o given locals vs h = grind arith

-- at most two operands more are left
pub grows : (o : Op) (given : Given) (locals vs : List Value) → length (values_after (move_of o given locals vs) vs) ≤ length vs + 2
grows o given locals vs = grind arith

-- the move can be made
pub can_move : (o : Op) (given : Given) (locals : List Value) (s : Stack) → IsTrue (takes o locals s.values) → HasRoom s → CanMove (move_of o given locals s.values) s
can_move o given locals s h room = record { defined = are_there o given locals s.values h; room = grind (arith, grows) }
