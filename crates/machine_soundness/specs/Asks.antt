-- What a request is right of, and the types of its answer: all that a thread's plan and the serving
-- of its request know of each other.
use Rattle.std.specs.Prelude.{◌≡◌, ℕ, suc, ◌==◌, ◌||◌, Bool, true, if◌then◌else◌, List, [], ◌∷◌, length, Some, None, slice_get}
use Rattle.jvm_base.specs.declared.name.Name.{Name}
use Rattle.jvm_base.specs.declared.value.Value.{Value}
use Rattle.hierarchy.specs.Walks.{has}
use Rattle.program_image.specs.declared.info.ArrayInfo.{ArrayInfo}
use Rattle.program_image.specs.Buffers.{string_buffer}
use Rattle.program_image.specs.Program.{Program}
use Rattle.flow_types.specs.Tree.{superclasses}
use Rattle.flow_types.specs.Types.{type_fits}
use Rattle.flow_types.specs.declared.flow_type.FlowType.{FlowType}
use Rattle.flow_types.specs.declared.flow_type.FlowType.TheVariants as flow
use Rattle.instruction_table.specs.ClassTypes.{class_type, array_at, value_type}
use Rattle.machine_state.specs.declared.request.Request.{Request}
use Rattle.machine_state.specs.declared.request.Request.TheVariants.{Get, Put, Load, Store, Len, Make, MakeText, Fault, Enter, Exit, Wait, Notify, NotifyAll, Begin, InitDone, InitFail, Start, Join, Finish, Buffer, Print}
use Rattle.machine_state.specs.Bodies.{takes_value}
use Rattle.machine_state.specs.Intrinsics.{new_buffer, buffer_of, buffer_text, buffer_length}
use Rattle.frame_soundness.specs.AcceptedProgram.{AreArrays, faults}
use Rattle.frame_soundness.specs.Holding.{component_type, has_fields, slots_of}
use Rattle.frame_soundness.specs.Natives.{string_type, buffer_type}
use Rattle.frame_soundness.specs.Values.{is_there}
use Rattle.machine_soundness.specs.Bodies.{suits}
use Rattle.machine_soundness.specs.Levels.{IsThread}

-- a place of an object with fields has the type
pub record IsSlot (p : Program) (there : Name → Bool) (n : Name) (place : ℕ) (t : FlowType) :
    Type 0 where
  pub is_here : there n ≡ true
  pub kind : has_fields p n.class ≡ true
  pub slot : slice_get (slots_of p n) place ≡ Some t

-- an array of the kind
pub record IsArray (p : Program) (there : Name → Bool) (n : Name) (a : ArrayInfo) : Type 0 where
  pub is_here : there n ≡ true
  pub array : array_at p n.class ≡ Some a

-- an element that an array takes suits it
pub record StoreFits (p : Program) (there : Name → Bool) (c : ℕ) (a : ArrayInfo) (v : Value) :
    Type 0 where
  pub is_here : is_there there v ≡ true
  pub suits : takes_value p c v ≡ true →
      type_fits (superclasses p) (value_type p v) (component_type p a) ≡ true

-- what a method of StringBuffer answers, by its number
abbrev pub buffer_answer : ℕ → List FlowType
buffer_answer k =
    if k == new_buffer || k == buffer_of then []
    else (if k == buffer_text then string_type ∷ []
    else (if k == buffer_length then flow.Int ∷ [] else buffer_type ∷ []))

-- what is asked is right, among the objects that are there, and is answered by values of these types
abbrev pub Asks : Program → (Name → Bool) → Request → List FlowType → Type 0
Asks p there (Get n i) ts = (t : FlowType) × IsSlot p there n i t × (ts ≡ t ∷ [])
Asks p there (Put n i v) ts =
    (t : FlowType) × IsSlot p there n i t × (suits p there v t ≡ true) × (ts ≡ [])
Asks p there (Load n i) ts =
    (a : ArrayInfo) × (t : FlowType) × IsArray p there n a
    × (type_fits (superclasses p) (component_type p a) t ≡ true) × (ts ≡ t ∷ [])
Asks p there (Store n i v) ts =
    (a : ArrayInfo) × IsArray p there n a × StoreFits p there n.class a v × (ts ≡ [])
Asks p there (Len n) ts = (a : ArrayInfo) × IsArray p there n a × (ts ≡ flow.Int ∷ [])
Asks p there (Make c []) ts = (array_at p c ≡ None) × (ts ≡ class_type p c ∷ [])
Asks p there (Make c (n ∷ ns)) ts =
    AreArrays p (suc (length ns)) c × (ts ≡ class_type p c ∷ [])
Asks p there (MakeText us) ts = ts ≡ string_type ∷ []
Asks p there (Fault c) ts = has faults c ≡ true
Asks p there (Enter n) ts = (there n ≡ true) × (ts ≡ [])
Asks p there (Exit n raising) ts = (there n ≡ true) × (ts ≡ [])
Asks p there (Wait n) ts = (there n ≡ true) × (ts ≡ [])
Asks p there (Notify n) ts = (there n ≡ true) × (ts ≡ [])
Asks p there (NotifyAll n) ts = (there n ≡ true) × (ts ≡ [])
Asks p there (Start n) ts = IsThread p there n × (ts ≡ [])
Asks p there (Join n) ts = (there n ≡ true) × (ts ≡ [])
Asks p there (Buffer n k us) ts =
    (there n ≡ true) × (n.class ≡ string_buffer) × (ts ≡ buffer_answer k)
Asks p there (Print us) ts = ts ≡ []
Asks p there (Begin c) ts = ts ≡ []
Asks p there (InitDone c) ts = ts ≡ []
Asks p there (InitFail c made) ts = ts ≡ []
Asks p there (Finish e) ts = ts ≡ []
