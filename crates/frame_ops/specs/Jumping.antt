-- Where a move leads, and what it leaves in the locals.
use Rattle.std.specs.Prelude.{ℕ, List}
use Rattle.jvm_base.specs.declared.value.Value.{Value}
use Rattle.frame_ops.specs.declared.answer.Pure.{Pure}
use Rattle.frame_ops.specs.declared.answer.Pure.TheVariants as pure
use Rattle.frame_ops.specs.declared.moved.Moved.{Moved}
use Rattle.frame_ops.specs.declared.moved.Moved.TheVariants.{Behind, At, Elsewhere}
use Rattle.frame_ops.specs.Moves.{Move, Goes, Jumps, Sets, Raises, Throws, Asks, Calls, Leaves, Stuck, locals_set}

-- the locals after it
abbrev pub locals_after : Move → List Value → List Value
locals_after (Sets i new vs) locals = locals_set i new locals
locals_after _ locals = locals

-- how the code tells what a move came to
abbrev pub moved_of : Move → Moved
moved_of (Jumps to vs) = At to
moved_of (Goes vs) = Behind
moved_of (Sets i new vs) = Behind
moved_of (Raises fault) = Elsewhere (pure.Raise fault)
moved_of (Throws e) = Elsewhere (pure.Throw e)
moved_of Asks = Elsewhere pure.Heap
moved_of Calls = Elsewhere pure.Call
moved_of (Leaves v) = Elsewhere (pure.Leave v)
moved_of Stuck = Behind

-- what the step answers then
abbrev pub answer_of : Moved → Pure
answer_of (Elsewhere answer) = answer
answer_of _ = pure.Next

-- and where the frame is, whose next instruction stands at an address
abbrev pub address_after : Moved → ℕ → ℕ → ℕ
address_after Behind next at = next
address_after (At to) next at = to
address_after (Elsewhere answer) next at = at

-- it sets no local
abbrev pub KeepsLocals : Move → Type 0
KeepsLocals (Sets i new vs) = ⊥
KeepsLocals _ = Unit {0}
