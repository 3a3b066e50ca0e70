-- The texts that numbers have.
use Rattle.std.specs.Prelude.{ℕ, List, []}
use Rattle.std.specs.Fmt.{signed_decimal}
use Rattle.jvm_base.specs.declared.value.Value.{Value}
use Rattle.jvm_base.specs.declared.value.Value.TheVariants.{Int, Long, Ref, Null}

-- the value is a number
abbrev pub IsNumber : Value → Type 0
IsNumber (Ref n) = ⊥
IsNumber Null = ⊥
IsNumber _ = Unit {0}

-- an int or long in decimal, with `-` before a negative one
abbrev pub number_text : Value → List ℕ
number_text (Int a) = signed_decimal a
number_text (Long a) = signed_decimal a
number_text _ = []
