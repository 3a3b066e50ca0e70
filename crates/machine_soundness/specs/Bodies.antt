-- When an object holds what its class says.
use Rattle.std.specs.Prelude.{Bool, true, false, ◌&&◌, not, List, [], ◌∷◌, Option, Some, None, is_none}
use Rattle.jvm_base.specs.declared.name.Name.{Name}
use Rattle.jvm_base.specs.declared.value.Value.{Value}
use Rattle.jvm_base.specs.declared.value.ObjectBody.{ObjectBody}
use Rattle.jvm_base.specs.declared.value.ObjectBody.TheVariants.{Fields, Array, Text}
use Rattle.program_image.specs.declared.info.ArrayInfo.{ArrayInfo}
use Rattle.program_image.specs.Program.{Program}
use Rattle.flow_types.specs.Tree.{superclasses}
use Rattle.flow_types.specs.Types.{type_fits}
use Rattle.flow_types.specs.declared.flow_type.FlowType.{FlowType}
use Rattle.instruction_table.specs.ClassTypes.{array_at, value_type}
use Rattle.machine_state.specs.State.{Heap, body_at}
use Rattle.frame_soundness.specs.Holding.{slots_of, component_type, is_text}
use Rattle.frame_soundness.specs.Values.{is_there}

-- which objects a heap has
abbrev pub there_in : Heap → Name → Bool
there_in heap n = not (is_none (body_at heap n))

-- a value may stand in a place of the type, and its object is there
abbrev pub suits : Program → (Name → Bool) → Value → FlowType → Bool
suits p there v t = is_there there v && type_fits (superclasses p) (value_type p v) t

-- so may values in places, one by one
abbrev pub all_suit : Program → (Name → Bool) → List Value → List FlowType → Bool
all_suit p there [] [] = true
all_suit p there (v ∷ vs) (t ∷ ts) = suits p there v t && all_suit p there vs ts
all_suit p there [] (t ∷ ts) = false
all_suit p there (v ∷ vs) [] = false

-- so may each of these values
abbrev pub each_suits : Program → (Name → Bool) → List Value → FlowType → Bool
each_suits p there [] t = true
each_suits p there (v ∷ vs) t = suits p there v t && each_suits p there vs t

-- an array has elements of its type, a String or StringBuffer has a text, and another object has
-- fields of their types
abbrev pub kind_fits :
    Program → (Name → Bool) → Name → Option ArrayInfo → Bool → ObjectBody → Bool
kind_fits p there n (Some a) text (Array vs) = each_suits p there vs (component_type p a)
kind_fits p there n None true (Text us) = true
kind_fits p there n None false (Fields vs) = all_suit p there vs (slots_of p n)
kind_fits p there n _ text b = false

-- by the name's class
abbrev pub body_fits : Program → (Name → Bool) → Name → ObjectBody → Bool
body_fits p there n b = kind_fits p there n (array_at p n.class) (is_text n.class) b
