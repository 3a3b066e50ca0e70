-- What a typing of a program's methods and its linking owe to a machine that runs it.
use Rattle.std.specs.Prelude.{◌≡◌, ◌<◌, ◌≤◌, ℕ, ℤ, zero, suc, ◌+◌, ◌==◌, Bool, true, false, List, [], ◌∷◌, ◌++◌, map, length, Option, Some, None, slice_get}
use Rattle.jvm_base.specs.declared.desc.MethodDesc.{MethodDesc}
use Rattle.jvm_base.specs.declared.name.Name.{Name}
use Rattle.jvm_base.specs.declared.value.Value.{Value}
use Rattle.jvm_base.specs.declared.value.Value.TheVariants.{Ref}
use Rattle.code_table.specs.declared.code.Code.{Code}
use Rattle.code_table.specs.declared.code.Placed.{Placed}
use Rattle.code_table.specs.declared.op.Op.{Op}
use Rattle.code_table.specs.declared.op.Op.TheVariants as op
use Rattle.code_table.specs.declared.opcode.TheConstants as code
use Rattle.hierarchy.specs.Walks.{has}
use Rattle.program_image.specs.declared.info.ArrayInfo.{ArrayInfo}
use Rattle.program_image.specs.declared.info.Body.TheVariants.{Intrinsic, Abstract}
use Rattle.program_image.specs.declared.info.FieldInfo.{FieldInfo}
use Rattle.program_image.specs.declared.info.Target.{Target}
use Rattle.program_image.specs.declared.info.Target.TheVariants as target
use Rattle.program_image.specs.Buffers.{string_buffer}
use Rattle.program_image.specs.Handlers.{code_of, handler_of}
use Rattle.program_image.specs.Program.{Program, target_of}
use Rattle.program_image.specs.Selection.{methods_of}
use Rattle.program_image.specs.Subclass.{is_sub_of}
use Rattle.program_image.specs.Words.{fields_of, instruction_at}
use Rattle.flow_types.specs.Tree.{superclasses, is_below, IsTree}
use Rattle.flow_types.specs.Types.{type_fits}
use Rattle.flow_types.specs.TypeLists.{AreOperands}
use Rattle.flow_types.specs.Primitives.{primitive_of}
use Rattle.flow_types.specs.declared.element.Element.TheVariants.{Primitive}
use Rattle.flow_types.specs.declared.flow_type.FlowType.{FlowType}
use Rattle.flow_types.specs.declared.flow_type.FlowType.TheVariants as flow
use Rattle.instruction_table.specs.ClassTypes.{plain, class_type, desc_type, array_at, array_over, class_in, method_in, value_type, owner_of, args_of, is_initialiser, is_static_method}
use Rattle.instruction_table.specs.Rows.{row, jumps, falls, throwable}
use Rattle.instruction_table.specs.Under.{Under}
use Rattle.instruction_table.specs.Working.{site_of, slots, row_rules, next, with_stack}
use Rattle.instruction_table.specs.declared.work.Work.{Work}
use Rattle.flow_verifier.specs.Given.{work_of}
use Rattle.flow_verifier.specs.Methods.{receiver, parameters, method_with}
use Rattle.flow_verifier.specs.Typing.{entry_frame}
use Rattle.frame_ops.specs.Operands.{table_target}
use Rattle.frame_ops.specs.Stepping.{HasFewArguments}
use Rattle.machine_state.specs.BootClasses.{class_class, string, system, print_stream, thread, arithmetic, null_pointer, array_index, string_index, negative_size, array_store, class_cast, monitor_state, thread_state, initializer_error, no_class_found, class_change, abstract_method, illegal_access, stack_overflow}
use Rattle.machine_state.specs.Classes.{array_class_of, array_class_over, body_of, clinit_of, thread_run}
use Rattle.machine_state.specs.PreMade.{arguments, text_name}
use Rattle.frame_soundness.specs.Values.{all_held}
use Rattle.frame_soundness.specs.Holding.{field_types, static_types, component_type, has_fields, desc_of}
use Rattle.frame_soundness.specs.Natives.{NativeFits, string_type, buffer_type}

-- ---- the typing

-- a frame at work, or none, for each method and address
abbrev pub Types : Type 0
Types = ℕ → ℕ → Option Work

-- what is given may flow to the frame there
pub record FlowsTo (p : Program) (w : Work) (o : Option Work) : Type 0 where
  pub work : Work
  pub is_work : o ≡ Some work
  pub under : Under (superclasses p) w work
  pub operands : AreOperands work.stack

-- what the instruction at an address makes of a frame
abbrev pub next_at : Program → ℕ → ℕ → Op → Work → Work
next_at p m at o w = next (site_of p m) (row p m at o) w

-- an instruction with a frame breaks no rule, there is room before and after it, and what it gives
-- fits where it leads
pub record Instruction (p : Program) (types : Types) (m at : ℕ) (w : Work) : Type 0 where
  pub placed : Placed
  pub is_placed : instruction_at p m at ≡ Some placed
  pub few : HasFewArguments placed.op
  pub keeps : row_rules (site_of p m) (row p m at placed.op) w ≡ []
  pub before : (c : Code) → code_of p m ≡ Some c → slots w.stack ≤ c.max_stack
  pub deep : (c : Code) → code_of p m ≡ Some c →
      slots (next_at p m at placed.op w).stack ≤ c.max_stack
  pub after : falls placed.op ≡ true →
      FlowsTo p (next_at p m at placed.op w) (types m placed.next)
  pub jumps_to : (to : ℕ) → has (jumps placed.op) to ≡ true →
      FlowsTo p (next_at p m at placed.op w) (types m to)

-- the types of a call's values: the receiver, where there is one, and the parameters
abbrev pub entry_types : Program → ℕ → List FlowType
entry_types p m = receiver p m ++ map (desc_type p) (args_of p m)

-- the frame in which a method with this code begins; its parameters have locals
pub record Enters (p : Program) (types : Types) (m : ℕ) (c : Code) : Type 0 where
  pub room : length (parameters p m) ≤ c.max_locals
  pub flows : FlowsTo p (work_of (entry_frame (method_with p m c))) (types m 0)

-- ---- what instructions name

-- an int or a long, or the String of a literal
abbrev pub IsLiteral : Program → Value → Type 0
IsLiteral p (Ref n) =
    (i : ℕ) × (i < length p.literals) × (n ≡ text_name (length p.classes + i))
IsLiteral p v = Unit {0}

-- the class, its part, that one's part: n arrays
abbrev pub AreArrays : Program → ℕ → ℕ → Type 0
AreArrays p zero c = Unit {0}
AreArrays p (suc zero) c = (a : ArrayInfo) × (array_at p c ≡ Some a)
AreArrays p (suc (suc n)) c =
    (a : ArrayInfo) × (part : ℕ)
    × (array_at p c ≡ Some a) × (a.part ≡ Some part) × AreArrays p (suc n) part

-- objects of the class have a field of the type at the place
pub record HasField (p : Program) (k place : ℕ) (t : FlowType) : Type 0 where
  pub kind : has_fields p k ≡ true
  pub no_holder : (k == class_class) ≡ false
  pub slot : slice_get (field_types p k) place ≡ Some t

-- a switch leads to one of its targets, whatever the key
abbrev pub IsSwitch : Op → Type 0
IsSwitch (op.TableSwitch other low high to) =
    (key : ℤ) → has (other ∷ to) (table_target other low high to key) ≡ true
IsSwitch _ = Unit {0}

-- what an instruction pushes that names a constant
abbrev pub IsConstant : Program → Option Target → Type 0
IsConstant p t = (v : Value) × (t ≡ Some (target.Constant v)) × IsLiteral p v

-- a class whose objects are arrays of a type
abbrev pub IsArrayClass : Program → ℕ → FlowType → Type 0
IsArrayClass p c t = (a : ArrayInfo) × (array_at p c ≡ Some a) × (class_type p c ≡ t)

-- what an instruction names is there and of its kind; `invokespecial` names nothing abstract
abbrev pub IsLinked : Program → Op → Option Target → Type 0
IsLinked p (op.Ldc i) t = IsConstant p t
IsLinked p (op.Ldc2 i) t = IsConstant p t
IsLinked p (op.Static o i d) t =
    (c place : ℕ) × (t ≡ Some (target.Field c place true)) × (c < length p.classes)
    × (slice_get (static_types p c) place ≡ Some (desc_type p d))
IsLinked p (op.Field o i d) t =
    (c place : ℕ) × (t ≡ Some (target.Field c place false)) × (plain p c ≡ c)
    × ((k : ℕ) → type_fits (superclasses p) (class_type p k) (flow.Class c) ≡ true →
    HasField p k place (desc_type p d))
IsLinked p (op.Invoke o i d) t =
    (desc_of p (method_in t) ≡ Some d)
    × (is_static_method p (method_in t) ≡ (o == code.INVOKESTATIC))
    × (owner_of p (method_in t) < length p.classes)
    × ((o == code.INVOKESPECIAL) ≡ true → body_of p (method_in t) ≡ Abstract → ⊥)
IsLinked p (op.New i) t =
    (class_in t < length p.classes) × (array_at p (class_in t) ≡ None)
    × (class_type p (class_in t) ≡ flow.Class (class_in t))
IsLinked p (op.NewArray k) t =
    IsArrayClass p (array_class_of p k) (flow.Array 1 (Primitive (primitive_of k)))
IsLinked p (op.AnewArray i) t =
    IsArrayClass p (array_class_over p (class_in t)) (array_over (class_type p (class_in t)))
IsLinked p (op.MultiNewArray i n) t = (0 < n) × AreArrays p n (class_in t)
IsLinked p o t = IsSwitch o

-- ---- classes

-- the classes of the exceptions that the machine makes
abbrev pub faults : List ℕ
faults =
    arithmetic ∷ null_pointer ∷ array_index ∷ string_index ∷ negative_size ∷ array_store
    ∷ class_cast ∷ monitor_state ∷ thread_state ∷ initializer_error ∷ no_class_found
    ∷ class_change ∷ abstract_method ∷ illegal_access ∷ stack_overflow ∷ []

-- an object of such a class may be thrown, and has fields
pub record IsFault (p : Program) (c : ℕ) : Type 0 where
  pub thrown : type_fits (superclasses p) (class_type p c) (flow.Class throwable) ≡ true
  pub kind : has_fields p c ≡ true
  pub no_holder : (c == class_class) ≡ false

-- superclasses form a tree, and a class below another is of its type
pub record Subs (p : Program) : Type 0 where
  pub tree : IsTree (superclasses p)
  pub sub_fits : (a c : ℕ) → is_sub_of p.classes a c ≡ true →
      type_fits (superclasses p) (class_type p a) (class_type p c) ≡ true

-- a method that the class of a number declares is of that class, which is no array
pub record IsOwned (p : Program) (k m : ℕ) : Type 0 where
  pub owner : owner_of p m ≡ k
  pub bound : k < length p.classes
  pub no_array : array_at p k ≡ None

-- what boot classes, arrays and methods owe. Strings and StringBuffers have no subclasses.
pub record Classes (p : Program) : Type 0 where
  pub fault : (c : ℕ) → has faults c ≡ true → IsFault p c
  pub holders : has_fields p class_class ≡ true
  pub string_class : (array_at p string ≡ None) × (class_type p string ≡ string_type)
  pub buffer_class : (array_at p string_buffer ≡ None) × (class_type p string_buffer ≡ buffer_type)
  pub natives : (m k : ℕ) (d : MethodDesc) → body_of p m ≡ Intrinsic k →
      desc_of p m ≡ Some d → NativeFits p m k d
  pub strings : (k : ℕ) →
      type_fits (superclasses p) (class_type p k) string_type ≡ true → k ≡ string
  pub buffers : (k : ℕ) →
      type_fits (superclasses p) (class_type p k) buffer_type ≡ true → k ≡ string_buffer
  pub supers_fit : (c k : ℕ) → array_at p k ≡ None → is_below (superclasses p) c k ≡ true →
      type_fits (superclasses p) (class_type p c) (flow.Class (plain p k)) ≡ true
  pub owners : (k m : ℕ) → has (methods_of p.classes k) m ≡ true → IsOwned p k m
  pub coded_in : (m : ℕ) (c : Code) → code_of p m ≡ Some c → array_at p (owner_of p m) ≡ None
  pub inits : (m : ℕ) → is_static_method p m ≡ false → is_initialiser p m ≡ true →
      (body_of p m ≡ Abstract → ⊥) → plain p (owner_of p m) ≡ owner_of p m
  pub parts : (c part : ℕ) (a : ArrayInfo) → array_at p c ≡ Some a → a.part ≡ Some part →
      class_type p part ≡ component_type p a

-- ---- where the machine begins

-- what takes nothing and gives nothing
abbrev pub nothing_desc : MethodDesc
nothing_desc = record { args = []; ret = None }

-- a method of that descriptor that has no receiver, of a class that is there
pub record IsAlone (p : Program) (m : ℕ) (d : MethodDesc) : Type 0 where
  pub is_desc : desc_of p m ≡ Some d
  pub fixed : is_static_method p m ≡ true
  pub bound : owner_of p m < length p.classes

-- the methods that no instruction calls: initialisers of classes, `main`, and `run` of threads
pub record Entries (p : Program) : Type 0 where
  pub clinits : (c m : ℕ) → clinit_of p c ≡ Some m → IsAlone p m nothing_desc
  pub main_desc : MethodDesc
  pub main : IsAlone p p.main main_desc
  pub main_held : (there : Name → Bool) → there (arguments p) ≡ true →
      all_held p p.main there (Ref (arguments p) ∷ []) (entry_types p p.main) ≡ true
  pub main_operands : AreOperands (entry_types p p.main)
  pub run : desc_of p (thread_run p) ≡ Some nothing_desc

-- a field's constant is a literal of the field's type
pub record ConstantFits (p : Program) (f : FieldInfo) (v : Value) : Type 0 where
  pub literal : IsLiteral p v
  pub suits : type_fits (superclasses p) (value_type p v) (desc_type p f.desc) ≡ true

-- so is each constant of these fields
abbrev pub ConstantsFit : Program → List FieldInfo → Type 0
ConstantsFit p [] = Unit {0}
ConstantsFit p (f ∷ fs) =
    ((v : Value) → f.constant ≡ Some v → ConstantFits p f v) × ConstantsFit p fs

-- a class whose objects have fields, of the type that its number has
pub record IsPlainClass (p : Program) (c : ℕ) : Type 0 where
  pub kind : has_fields p c ≡ true
  pub type : class_type p c ≡ flow.Class c

-- what the objects are that are there before the first step
pub record Starts (p : Program) : Type 0 where
  pub constants : (c : ℕ) → ConstantsFit p (fields_of p c)
  pub out : static_types p system ≡ flow.Class print_stream ∷ []
  pub stream_class : IsPlainClass p print_stream
  pub thread_class : IsPlainClass p thread
  pub strings_class : (a : ArrayInfo)
      × (array_at p (array_class_over p string) ≡ Some a) × (component_type p a ≡ string_type)

-- ---- all of it

-- a linked program, in which each method with code has this typing
pub record Accepted (p : Program) (types : Types) : Type 0 where
  pub subs : Subs p
  pub classes : Classes p
  pub starts : Entries p
  pub begins : Starts p
  pub instructions : (m at : ℕ) (w : Work) → types m at ≡ Some w → Instruction p types m at w
  pub entries : (m : ℕ) (c : Code) → code_of p m ≡ Some c → Enters p types m c
  pub handlers : (m at e to : ℕ) (w : Work) → types m at ≡ Some w →
      handler_of p m at e ≡ Some to →
      type_fits (superclasses p) (class_type p e) (flow.Class throwable) ≡ true →
      FlowsTo p (with_stack w (class_type p e ∷ [])) (types m to)
  pub links : (m at : ℕ) (placed : Placed) → instruction_at p m at ≡ Some placed →
      IsLinked p placed.op (target_of p m at)
