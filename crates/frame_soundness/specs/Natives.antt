-- The intrinsics by number, by the types of what they take and give (docs/BOOT.md).
use Rattle.std.specs.Prelude.{◌≡◌, ◌<◌, ℕ, Bool, true, false, List, [], ◌∷◌, map, slice_get}
use Rattle.std.specs.Option.{option_to_list}
use Rattle.jvm_base.specs.Words.{from}
use Rattle.jvm_base.specs.declared.desc.MethodDesc.{MethodDesc}
use Rattle.program_image.specs.Buffers.{string_buffer}
use Rattle.program_image.specs.Program.{Program}
use Rattle.flow_types.specs.declared.flow_type.FlowType.{FlowType}
use Rattle.flow_types.specs.declared.flow_type.FlowType.TheVariants as flow
use Rattle.instruction_table.specs.ClassTypes.{plain, desc_type, owner_of, is_static_method}
use Rattle.machine_state.specs.BootClasses.{string, print_stream, thread}
use Rattle.frame_soundness.specs.Holding.{answer_type}

-- whether it has no receiver, the class that declares it, and the types of its arguments and result
pub record Native : Type 0 where
  pub fixed : Bool
  pub owner : ℕ
  pub args : List FlowType
  pub result : List FlowType

-- of a class, on an object
abbrev pub on : ℕ → List FlowType → List FlowType → Native
on owner args result = record { fixed = false; owner = owner; args = args; result = result }

-- of a class, without one
abbrev pub alone : ℕ → List FlowType → List FlowType → Native
alone owner args result = record { fixed = true; owner = owner; args = args; result = result }

-- a String
abbrev pub string_type : FlowType
string_type = flow.Class string

-- a StringBuffer
abbrev pub buffer_type : FlowType
buffer_type = flow.Class string_buffer

-- a Thread
abbrev pub thread_type : FlowType
thread_type = flow.Class thread

-- a method of StringBuffer that appends a value of a type
abbrev pub appends : FlowType → Native
appends t = on string_buffer (t ∷ []) (buffer_type ∷ [])

-- a method of PrintStream
abbrev pub prints : List FlowType → Native
prints args = on print_stream args []

-- each at its number
abbrev pub natives : List Native
natives =
    on 0 [] [] ∷ on 0 [] [] ∷ on 0 [] []
    ∷ on string [] (flow.Int ∷ []) ∷ on string (flow.Int ∷ []) (flow.Int ∷ [])
    ∷ on string (flow.Class 0 ∷ []) (flow.Int ∷ [])
    ∷ on string (string_type ∷ []) (string_type ∷ [])
    ∷ alone string (flow.Int ∷ []) (string_type ∷ [])
    ∷ alone string (flow.Long ∷ []) (string_type ∷ [])
    ∷ on string_buffer [] [] ∷ on string_buffer (string_type ∷ []) []
    ∷ appends flow.Int ∷ appends flow.Long ∷ appends flow.Int ∷ appends flow.Int
    ∷ appends string_type
    ∷ on string_buffer [] (string_type ∷ []) ∷ on string_buffer [] (flow.Int ∷ [])
    ∷ prints (flow.Int ∷ []) ∷ prints (flow.Long ∷ []) ∷ prints (flow.Int ∷ [])
    ∷ prints (flow.Int ∷ []) ∷ prints (string_type ∷ [])
    ∷ prints (flow.Int ∷ []) ∷ prints (flow.Long ∷ []) ∷ prints (flow.Int ∷ [])
    ∷ prints (flow.Int ∷ []) ∷ prints (string_type ∷ []) ∷ prints []
    ∷ on thread [] [] ∷ on thread [] [] ∷ alone thread [] (thread_type ∷ [])
    ∷ alone thread (flow.Long ∷ []) [] ∷ alone thread [] [] ∷ []

-- the one of a number
abbrev pub native_at : ℕ → Native
native_at k = from (alone 0 [] []) (λ r. r) (slice_get natives k)

-- a method that does the intrinsic of a number is declared as that one
pub record NativeFits (p : Program) (m k : ℕ) (d : MethodDesc) : Type 0 where
  pub few : k < 34
  pub fixed : is_static_method p m ≡ (native_at k).fixed
  pub owner : owner_of p m ≡ (native_at k).owner
  pub no_interface : plain p (owner_of p m) ≡ owner_of p m
  pub args : map (desc_type p) d.args ≡ (native_at k).args
  pub result : option_to_list (answer_type p d) ≡ (native_at k).result
