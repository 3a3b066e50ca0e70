-- Computing up to the first refusal. These words are this project's own.
use Rattle.std.specs.Prelude.{Option, Some, None, Result, Ok, Err, Bool, if◌then◌else◌}

-- what follows computes with the value, if there is one
infixl 10 ◌>>=◌
abbrev pub ◌>>=◌ : {A B E : Type 0} → Result A E → (A → Result B E) → Result B E
(Ok x) >>= f = f x
(Err e) >>= f = Err e

-- goes on only where the test holds
abbrev pub need : {E : Type 0} → Bool → E → Result (Unit {0}) E
need b e = if b then Ok tt else Err e

-- goes on only where there is a value
abbrev pub want : {A E : Type 0} → Option A → E → Result A E
want (Some x) e = Ok x
want None e = Err e
