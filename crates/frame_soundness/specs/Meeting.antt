-- Whether a value is what an operand must be: the needs of the rows, over values.
use Rattle.std.specs.Prelude.{Bool, true, false, ◌&&◌, List, [], ◌∷◌}
use Rattle.jvm_base.specs.declared.value.Value.{Value}
use Rattle.jvm_base.specs.declared.value.Value.TheVariants.{Int, Long, Ref, Null}
use Rattle.program_image.specs.Program.{Program}
use Rattle.flow_types.specs.Tree.{superclasses}
use Rattle.flow_types.specs.Types.{type_fits}
use Rattle.flow_types.specs.declared.flow_type.FlowType.{FlowType}
use Rattle.flow_types.specs.declared.flow_type.FlowType.TheVariants as flow
use Rattle.instruction_table.specs.ClassTypes.{class_type}
use Rattle.instruction_table.specs.Needs.{is_array_of, is_reference_array, is_array}
use Rattle.instruction_table.specs.declared.row.Need.{Need}
use Rattle.instruction_table.specs.declared.row.Need.TheVariants as need

-- an object whose class has the type is what is needed
abbrev pub object_meets : Program → Need → FlowType → Bool
object_meets p need.Int t = false
object_meets p need.Long t = false
object_meets p (need.Fitting broken wanted) t = type_fits (superclasses p) t wanted
object_meets p (need.Primitives k) t = is_array_of k t
object_meets p need.References t = is_reference_array t
object_meets p need.Array t = is_array t
object_meets p (need.Own c) t = type_fits (superclasses p) t (flow.Class c)

-- the value is; null is, wherever a reference is needed
abbrev pub met : Program → Need → Value → Bool
met p need.Int (Int a) = true
met p need.Long (Long a) = true
met p n (Int a) = false
met p n (Long a) = false
met p need.Int Null = false
met p need.Long Null = false
met p n Null = true
met p n (Ref o) = object_meets p n (class_type p o.class)

-- the newest values are what is needed
abbrev pub all_met : Program → List Need → List Value → Bool
all_met p [] vs = true
all_met p (n ∷ ns) [] = false
all_met p (n ∷ ns) (v ∷ vs) = met p n v && all_met p ns vs
