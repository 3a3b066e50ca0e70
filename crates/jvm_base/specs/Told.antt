-- What a call answers where a definition says what is due, and memory may run out at any time.
-- For each error type `told` says what an error tells: nothing where it is want of memory.
use Rattle.std.specs.Prelude.{◌≡◌, Option, Result, Ok, Err}
use Rattle.std.specs.Option.{IfSome}

-- what an error tells has P; want of memory tells nothing
abbrev pub Tells : {E F : Type 0} → (E → Option F) → (F → Type 0) → E → Type 0
Tells told P e = IfSome (told e) P

-- the refusal is the defined one, unless memory ran out
abbrev pub Fails : {X E F : Type 0} → (E → Option F) → E → Result X F → Type 0
Fails told e defined = IfSome (told e) (λ f. defined ≡ Err f)

-- a call returned what is defined, its value seen by `view`, unless memory ran out
abbrev pub Gives : {X Y E F : Type 0} → (E → Option F) → (X → Y) → Result X E → Result Y F → Type 0
Gives told view (Ok x) defined = defined ≡ Ok (view x)
Gives told view (Err e) defined = Fails told e defined

-- a value seen as it is
abbrev pub itself : {X : Type 0} → X → X
itself x = x
