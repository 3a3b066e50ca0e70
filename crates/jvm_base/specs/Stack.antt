-- Operands, the newest first, and how many there may be.
use Rattle.std.specs.Prelude.{ℕ, ◌∷◌, List}
use Rattle.jvm_base.specs.declared.value.Value.{Value}

-- operands, newest first, and for how many there is room
pub record Stack : Type 0 where
  pub values : List Value
  pub room : ℕ

-- one value more on top
abbrev pub pushed : Value → Stack → Stack
pushed value s = record { values = value ∷ s.values; room = s.room }
