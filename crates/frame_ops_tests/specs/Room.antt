-- Room on a stack.
use Rattle.std.specs.Prelude.{◌+◌, ◌≤◌, length}
use Rattle.jvm_base.specs.Stack.{Stack}

-- the stack has room for two operands more
abbrev pub HasRoom : Stack → Type 0
HasRoom s = length s.values + 2 ≤ s.room
