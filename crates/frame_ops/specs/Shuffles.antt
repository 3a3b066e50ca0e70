-- Values taken off a stack and put back: the code's view.
use Rattle.std.specs.Prelude.{List, [], ◌∷◌, ◌++◌, Option, Some, None}
use Rattle.jvm_base.specs.Stack.{Stack}
use Rattle.jvm_base.specs.declared.value.Value.{Value}
use Rattle.frame_ops.specs.declared.shuffles.Few.{Few}

-- a value and one below it, where they are there
abbrev pub two_values : Option Value → Option Value → List Value
two_values None None = []
two_values None (Some w) = w ∷ []
two_values (Some v) None = v ∷ []
two_values (Some v) (Some w) = v ∷ w ∷ []

-- what was taken
abbrev pub few_values : Few → List Value
few_values few = two_values few.first few.second

-- a stack with it on top
abbrev pub put_values : Few → Stack → Stack
put_values few s = record { values = few_values few ++ s.values; room = s.room }
