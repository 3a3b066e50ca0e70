-- Small words on options.
use Rattle.std.specs.Prelude.{Option, Some, None}

-- what f makes of an option's value, and d where there is none
abbrev pub from : {A B : Type 0} → B → (A → B) → Option A → B
from d f None = d
from d f (Some a) = f a
