-- What fields, statics and elements of objects hold, by their types.
use Rattle.std.specs.Prelude.{ℕ, ◌-◌, Bool, ◌==◌, ◌&&◌, ◌||◌, not, if◌then◌else◌, List, map, filter, reverse, Option, Some, None, is_none}
use Rattle.std.specs.List.{flat_map}
use Rattle.jvm_base.specs.Words.{from}
use Rattle.jvm_base.specs.declared.desc.MethodDesc.{MethodDesc}
use Rattle.jvm_base.specs.declared.name.Name.{Name}
use Rattle.class_format.specs.Flags.{is_static}
use Rattle.program_image.specs.declared.info.ArrayInfo.{ArrayInfo}
use Rattle.program_image.specs.declared.info.FieldInfo.{FieldInfo}
use Rattle.program_image.specs.Buffers.{is_buffer}
use Rattle.program_image.specs.Program.{Program}
use Rattle.program_image.specs.Selection.{supers}
use Rattle.program_image.specs.Words.{fields_of}
use Rattle.flow_types.specs.declared.flow_type.FlowType.{FlowType}
use Rattle.flow_types.specs.declared.flow_type.FlowType.TheVariants as flow
use Rattle.instruction_table.specs.ClassTypes.{method_at, array_at, element_type, ground_type, desc_type}
use Rattle.machine_state.specs.BootClasses.{class_class, string}
use Rattle.machine_state.specs.PreMade.{no_node}

-- the fields of an object of the class, by their places: those of superclasses come first
abbrev pub instance_fields : Program → ℕ → List FieldInfo
instance_fields p c =
    flat_map (λ k. filter (λ f. not (is_static f.flags)) (fields_of p k))
    (reverse (supers p.classes c))

-- their types
abbrev pub field_types : Program → ℕ → List FlowType
field_types p c = map (λ f. desc_type p f.desc) (instance_fields p c)

-- the types of a class's statics
abbrev pub static_types : Program → ℕ → List FlowType
static_types p c =
    map (λ f. desc_type p f.desc) (filter (λ f. is_static f.flags) (fields_of p c))

-- the name of an object that holds a class's statics
abbrev pub is_holder : Name → Bool
is_holder n = n.node == no_node && n.class == class_class

-- the types of what an object holds, by places
abbrev pub slots_of : Program → Name → List FlowType
slots_of p n = if is_holder n then static_types p n.index else field_types p n.class

-- the type of an array's elements
abbrev pub component_type : Program → ArrayInfo → FlowType
component_type p a =
    if a.dims == 1 then ground_type p a.elem
    else flow.Array (a.dims - 1) (element_type p a.elem)

-- objects of the class have a text: Strings and StringBuffers
abbrev pub is_text : ℕ → Bool
is_text c = is_buffer c || c == string

-- objects of the class have fields
abbrev pub has_fields : Program → ℕ → Bool
has_fields p c = is_none (array_at p c) && not (is_text c)

-- the descriptor of a method
abbrev pub desc_of : Program → ℕ → Option MethodDesc
desc_of p m = from None (λ i. Some i.desc) (method_at p m)

-- the type of what a method of a descriptor gives; None for void
abbrev pub answer_type : Program → MethodDesc → Option FlowType
answer_type p d = from None (λ r. Some (desc_type p r)) d.ret
