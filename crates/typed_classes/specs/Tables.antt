-- A program's table of classes, as linking makes it, and what it owes to the types of classes.
use Rattle.std.specs.Prelude.{◌≡◌, ℕ, ◌<◌, ◌==◌, ◌||◌, Bool, true, false, List, [], Some, None, slice_get}
use Rattle.jvm_base.specs.Words.{from}
use Rattle.hierarchy.specs.Walks.{has}
use Rattle.program_image.specs.Buffers.{string_buffer}
use Rattle.program_image.specs.Program.{Program}
use Rattle.program_image.specs.declared.info.ArrayInfo.{ArrayInfo}
use Rattle.flow_types.specs.Tree.{superclasses, superclass, is_below, IsTree}
use Rattle.flow_types.specs.Types.{type_fits}
use Rattle.flow_types.specs.declared.flow_type.FlowType.{FlowType}
use Rattle.flow_types.specs.declared.flow_type.FlowType.TheVariants as flow
use Rattle.instruction_table.specs.ClassTypes.{plain, class_at, array_at, class_type, is_an_interface}
use Rattle.machine_state.specs.BootClasses.{class_class, string}
use Rattle.frame_soundness.specs.AcceptedProgram.{HasField, Subs}
use Rattle.frame_soundness.specs.Holding.{field_types, component_type, is_text}
use Rattle.frame_soundness.specs.Natives.{string_type, buffer_type}

-- ---- the table

-- the interfaces that a class lists
abbrev pub listed_at : Program → ℕ → List ℕ
listed_at p c = from [] (λ info. info.interfaces) (class_at p c)

-- a class is Class, String or StringBuffer: none of them has fields, or subclasses
abbrev pub is_closed : ℕ → Bool
is_closed c = c == class_class || is_text c

-- a class that is the superclass of another
pub record IsSuper (p : Program) (k : ℕ) : Type 0 where
  pub no_interface : is_an_interface p k ≡ false
  pub no_array : array_at p k ≡ None
  pub no_closed : is_closed k ≡ false

-- a class of arrays: it is right below Object (JVMS2 2.15)
pub record IsArrayAt (p : Program) (c : ℕ) (a : ArrayInfo) : Type 0 where
  pub no_interface : is_an_interface p c ≡ false
  pub above : superclass (superclasses p) c ≡ Some 0
  pub deep : 0 < a.dims
  pub part_typed : (part : ℕ) → a.part ≡ Some part → class_type p part ≡ component_type p a

-- the table of a linked program: superclasses form a tree, Object alone is above interfaces and
-- arrays, and what a class lists are interfaces
pub record IsTable (p : Program) : Type 0 where
  pub tree : IsTree (superclasses p)
  pub supers : (c k : ℕ) → superclass (superclasses p) c ≡ Some k → IsSuper p k
  pub interfaces : (c k : ℕ) → is_an_interface p c ≡ true →
      superclass (superclasses p) c ≡ Some k → k ≡ 0
  pub listed : (c k : ℕ) → has (listed_at p c) k ≡ true → is_an_interface p k ≡ true
  pub arrays : (c : ℕ) (a : ArrayInfo) → array_at p c ≡ Some a → IsArrayAt p c a
  pub object : array_at p 0 ≡ None
  pub closed : (c : ℕ) → is_closed c ≡ true → superclass (superclasses p) c ≡ Some 0

-- ---- what it owes

-- the types of classes
pub record AreClassesTyped (p : Program) : Type 0 where
  pub subs : Subs p
  pub supers_fit : (c k : ℕ) → array_at p k ≡ None → is_below (superclasses p) c k ≡ true →
      type_fits (superclasses p) (class_type p c) (flow.Class (plain p k)) ≡ true
  pub strings : (k : ℕ) →
      type_fits (superclasses p) (class_type p k) string_type ≡ true → k ≡ string
  pub buffers : (k : ℕ) →
      type_fits (superclasses p) (class_type p k) buffer_type ≡ true → k ≡ string_buffer
  pub parts : (c part : ℕ) (a : ArrayInfo) → array_at p c ≡ Some a → a.part ≡ Some part →
      class_type p part ≡ component_type p a
  pub fields : (c place : ℕ) (t : FlowType) → (c == 0 || is_closed c) ≡ false →
      slice_get (field_types p c) place ≡ Some t →
      (k : ℕ) → type_fits (superclasses p) (class_type p k) (flow.Class c) ≡ true →
      HasField p k place t

-- each table owes them
abbrev pub ClassesLaw : Type 0
ClassesLaw = (p : Program) → IsTable p → AreClassesTyped p
