-- The values of an intrinsic's call: the first two are all that it looks at.
use Rattle.std.specs.Prelude.{List, [], ◌∷◌, Option}
use Rattle.std.specs.Option.{option_to_list}
use Rattle.jvm_base.specs.Words.{from}
use Rattle.jvm_base.specs.declared.value.Value.{Value}

-- a value, and the one behind it, if there is one
abbrev pub two_of : Option Value → Option Value → List Value
two_of first second = from [] (λ v. v ∷ option_to_list second) first
