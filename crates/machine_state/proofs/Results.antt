-- What follows from what a call answered.
use Rattle.std.specs.Prelude.{Result, Ok, Err, OnErr, OnOk}

-- what follows from what holds where it failed
pub on_err_more : {A E : Type 0} {P Q : Type 0} (r : Result A E) → (P → Q) → OnErr r P → OnErr r Q
on_err_more (Ok a) f h = tt
on_err_more (Err e) f h = f h

-- the same where it succeeded
pub on_ok_more : {A E : Type 0} {P Q : Type 0} (r : Result A E) → (P → Q) → OnOk r P → OnOk r Q
on_ok_more (Ok a) f h = f h
on_ok_more (Err e) f h = tt

-- what follows from both
pub by_result : {A E P Q R : Type 0} (r : Result A E) → OnOk r P → OnErr r Q → (P → R) → (Q → R) → R
by_result (Ok a) p q f g = f p
by_result (Err e) p q f g = g q
