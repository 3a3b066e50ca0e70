-- What the answers of reading tell.
use Rattle.std.specs.Prelude.{ℕ, Option, Some, None}
use Rattle.order_text.specs.declared.error.OrderErr.{OrderErr}
use Rattle.order_text.specs.declared.error.OrderErr.TheVariants.{BadOrder, NoMemory}

-- the line of the first fault
abbrev pub told : OrderErr → Option ℕ
told (BadOrder line) = Some line
told NoMemory = None
