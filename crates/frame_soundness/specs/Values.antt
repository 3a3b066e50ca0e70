-- Whether a value is of a type of the verifier.
use Rattle.std.specs.Prelude.{ℕ, Bool, true, false, ◌&&◌, List, [], ◌∷◌}
use Rattle.jvm_base.specs.declared.name.Name.{Name}
use Rattle.jvm_base.specs.declared.value.Value.{Value}
use Rattle.jvm_base.specs.declared.value.Value.TheVariants.{Ref}
use Rattle.program_image.specs.Program.{Program}
use Rattle.flow_types.specs.Tree.{superclasses}
use Rattle.flow_types.specs.Types.{type_fits}
use Rattle.flow_types.specs.declared.flow_type.FlowType.{FlowType}
use Rattle.flow_types.specs.declared.flow_type.FlowType.TheVariants as flow
use Rattle.instruction_table.specs.ClassTypes.{value_type, owner_of, new_class}

-- the object that the value names, if it names one, is among those that are there
abbrev pub is_there : (Name → Bool) → Value → Bool
is_there there (Ref n) = there n
is_there there _ = true

-- what a value of a type is, in the code of a method: an object that isn't initialised yet is of the
-- class that it was made of, and any value may stand in the second half of a long
abbrev pub erased : Program → ℕ → FlowType → FlowType
erased p method (flow.Fresh at) = flow.Class (new_class p method at)
erased p method flow.FreshThis = flow.Class (owner_of p method)
erased p method flow.High = flow.Unusable
erased p method t = t

-- the value is of the type, in the code of the method
abbrev pub typed : Program → ℕ → Value → FlowType → Bool
typed p method v t = type_fits (superclasses p) (value_type p v) (erased p method t)

-- the same, and its object is there
abbrev pub held : Program → ℕ → (Name → Bool) → Value → FlowType → Bool
held p method there v t = is_there there v && typed p method v t

-- values are of types, place by place
abbrev pub all_held : Program → ℕ → (Name → Bool) → List Value → List FlowType → Bool
all_held p method there [] [] = true
all_held p method there (v ∷ vs) (t ∷ ts) =
    held p method there v t && all_held p method there vs ts
all_held p method there [] (t ∷ ts) = false
all_held p method there (v ∷ vs) [] = false
