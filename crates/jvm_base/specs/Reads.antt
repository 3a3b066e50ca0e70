-- What a call that reads a text or a descriptor answers.
use Rattle.std.specs.Prelude.{◌≡◌, ◌≢◌, ℕ, List, Option, Some, None, Result}
use Rattle.jvm_base.specs.declared.units.NameErr.{NameErr}
use Rattle.jvm_base.specs.declared.units.NameErr.TheVariants.{NoMemory}
use Rattle.jvm_base.specs.Refusing.{want}
use Rattle.jvm_base.specs.Told.{Gives, Tells, itself}

-- what an error of reading tells
abbrev pub told : NameErr → Option NameErr
told NoMemory = None
told e = Some e

-- what was read, or the refusal where there is nothing, unless memory ran out
abbrev pub Reads : {X : Type 0} → NameErr → Result X NameErr → Option X → Type 0
Reads refusal result read = Gives told itself result (want read refusal)

-- no value that fits is spelled so
abbrev pub SpellsNone : {X : Type 0} → (X → Type 0) → (X → List ℕ) → List ℕ → Type 0
SpellsNone {X} Fits text t = (x : X) → Fits x → t ≢ text x

-- the error is this refusal, and P holds, unless memory ran out
abbrev pub Refuses : NameErr → Type 0 → NameErr → Type 0
Refuses refusal P e = Tells told (λ f. (f ≡ refusal) × P) e
