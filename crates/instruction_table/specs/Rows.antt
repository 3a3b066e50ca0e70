-- The one table of instructions: what each takes and gives (JVMS2 6). The verifier reads it over
-- types, and laws of the machine over values.
use Rattle.std.specs.Prelude.{ℕ, ◌%◌, Bool, true, false, ◌==◌, ◌&&◌, ◌||◌, not, if◌then◌else◌, List, [], ◌∷◌, ◌++◌, map, reverse, replicate, Option, is_none}
use Rattle.jvm_base.specs.Words.{from}
use Rattle.jvm_base.specs.declared.desc.Desc.{Desc}
use Rattle.jvm_base.specs.declared.desc.MethodDesc.{MethodDesc}
use Rattle.code_table.specs.declared.op.Op.{Op}
use Rattle.code_table.specs.declared.op.Op.TheVariants as op
use Rattle.program_image.specs.Program.{Program, target_of}
use Rattle.flow_types.specs.Tree.{superclasses, is_below}
use Rattle.flow_types.specs.Tables.{in_table}
use Rattle.flow_types.specs.Primitives.{primitive_of}
use Rattle.flow_types.specs.declared.element.Element.TheVariants.{Primitive}
use Rattle.flow_types.specs.declared.element.Primitive.{Primitive as PrimitiveType}
use Rattle.flow_types.specs.declared.element.Primitive.TheVariants as primitive
use Rattle.flow_types.specs.declared.flow_type.FlowType.{FlowType}
use Rattle.flow_types.specs.declared.flow_type.FlowType.TheVariants as flow
use Rattle.instruction_table.specs.ClassTypes.{plain, class_type, desc_type, array_over, class_in, field_class_in, method_in, constant_type, owner_of, result_of, is_initialiser, is_private_method, is_super}
use Rattle.instruction_table.specs.Needs.{is_int, is_long, is_reference}
use Rattle.instruction_table.specs.declared.row.Need.{Need}
use Rattle.instruction_table.specs.declared.row.Need.TheVariants as need
use Rattle.instruction_table.specs.declared.row.Gives.{Gives}
use Rattle.instruction_table.specs.declared.row.Gives.TheVariants as gives
use Rattle.instruction_table.specs.declared.row.Slot.{Slot}
use Rattle.instruction_table.specs.declared.row.Slot.TheVariants as slot
use Rattle.instruction_table.specs.declared.row.Group.TheVariants as group
use Rattle.instruction_table.specs.declared.row.Row.{Row}
use Rattle.instruction_table.specs.declared.row.Row.TheVariants.{Acts, Reads, Writes, Bumps, Drops, Doubles, Swaps, Inits, Ends}
use Rattle.instruction_table.specs.declared.rule.TheConstants as rule
use Rattle.code_table.specs.declared.opcode.TheConstants as code

-- ---- words of the table

-- the row of an instruction that takes operands and pushes what they give
abbrev pub acts : List Need → Gives → Row
acts needs g = Acts needs g

-- an instruction on ints has an even opcode, the same on longs the odd one after it (JVMS2 9)
abbrev pub is_on_ints : ℕ → Bool
is_on_ints o = o % 2 == 0

-- an operand of an instruction on numbers, by its opcode
abbrev pub number : ℕ → Need
number o = if is_on_ints o then need.Int else need.Long

-- the result of an instruction on numbers, by its opcode
abbrev pub number_type : ℕ → FlowType
number_type o = if is_on_ints o then flow.Int else flow.Long

-- a value of a type; a reference that doesn't fit breaks the rule
abbrev pub value : ℕ → FlowType → Need
value broken flow.Int = need.Int
value broken flow.Long = need.Long
value broken t = need.Fitting broken t

-- an initialised reference
abbrev pub reference : Need
reference = need.Fitting rule.REFERENCE (flow.Class 0)

-- an initialised reference to an object of the class
abbrev pub object_of : Program → ℕ → Need
object_of p c = need.Fitting rule.REFERENCE (flow.Class (plain p c))

-- the class java/lang/Throwable
abbrev pub throwable : ℕ
throwable = 8

-- ---- loads, stores and moves, by opcodes; the one that no table names is what is left

-- what a load reads
abbrev pub load_slot : ℕ → Slot
load_slot o = in_table ((code.LLOAD, slot.Long) ∷ (code.ILOAD, slot.Int) ∷ []) slot.Reference o

-- what a store writes
abbrev pub store_slot : ℕ → Slot
store_slot o = in_table ((code.LSTORE, slot.Long) ∷ (code.ISTORE, slot.Int) ∷ []) slot.Reference o

-- an element of an array over the primitive type, by the index above the array
abbrev pub loads_from : PrimitiveType → FlowType → Row
loads_from k t = Acts (need.Int ∷ need.Primitives k ∷ []) (gives.One t)

-- the loads from arrays of primitive types
abbrev pub array_loads : List (ℕ × Row)
array_loads =
    (code.IALOAD, loads_from primitive.Int flow.Int)
    ∷ (code.LALOAD, loads_from primitive.Long flow.Long)
    ∷ (code.BALOAD, loads_from primitive.Byte flow.Int)
    ∷ (code.CALOAD, loads_from primitive.Char flow.Int)
    ∷ (code.SALOAD, loads_from primitive.Short flow.Int)
    ∷ []

-- a load from an array; aaload pushes an element of the array of references that it takes
abbrev pub array_load : ℕ → Row
array_load o = in_table array_loads (Acts (need.Int ∷ need.References ∷ []) gives.Part) o

-- a value into an array over the primitive type, above the index and the array
abbrev pub stores_into : PrimitiveType → Need → Row
stores_into k v = Acts (v ∷ need.Int ∷ need.Primitives k ∷ []) gives.Nothing

-- the stores into arrays of primitive types
abbrev pub array_stores : List (ℕ × Row)
array_stores =
    (code.IASTORE, stores_into primitive.Int need.Int)
    ∷ (code.LASTORE, stores_into primitive.Long need.Long)
    ∷ (code.BASTORE, stores_into primitive.Byte need.Int)
    ∷ (code.CASTORE, stores_into primitive.Char need.Int)
    ∷ (code.SASTORE, stores_into primitive.Short need.Int)
    ∷ []

-- a store into an array; aastore checks the value's class when it runs
abbrev pub array_store : ℕ → Row
array_store o =
    in_table array_stores (Acts (reference ∷ need.Int ∷ need.References ∷ []) gives.Nothing) o

-- pop or pop2
abbrev pub pop_row : ℕ → Row
pop_row o = in_table ((code.POP, Drops group.One) ∷ []) (Drops group.Wide) o

-- the copies of a group, by what lies between the two
abbrev pub dups : List (ℕ × Row)
dups =
    (code.DUP, Doubles group.One group.Nothing)
    ∷ (code.DUP_X1, Doubles group.One group.One)
    ∷ (code.DUP_X2, Doubles group.One group.Wide)
    ∷ (code.DUP2, Doubles group.Wide group.Nothing)
    ∷ (code.DUP2_X1, Doubles group.Wide group.One)
    ∷ []

-- a copy of a group; dup2_x2 is the one that is left
abbrev pub dup_row : ℕ → Row
dup_row o = in_table dups (Doubles group.Wide group.Wide) o

-- the conversions from or to long
abbrev pub resizes : List (ℕ × Row)
resizes =
    (code.I2L, Acts (need.Int ∷ []) (gives.One flow.Long))
    ∷ (code.L2I, Acts (need.Long ∷ []) (gives.One flow.Int))
    ∷ []

-- a conversion of an integer; the others keep an int an int
abbrev pub resize_row : ℕ → Row
resize_row o = in_table resizes (Acts (need.Int ∷ []) (gives.One flow.Int)) o

-- ---- returns

-- any initialised reference, where the result isn't one
abbrev pub returned_object : Need
returned_object = need.Fitting rule.RETURN (flow.Class 0)

-- a reference that fits the method's result
abbrev pub returned_reference : Option FlowType → Need
returned_reference result =
    from returned_object
    (λ t. if is_reference t then need.Fitting rule.RETURN t else returned_object)
    result

-- a value of the method's result, or any of the instruction's kind where they are unlike
abbrev pub return_need : ℕ → Option FlowType → Need
return_need o result =
    in_table ((code.IRETURN, need.Int) ∷ (code.LRETURN, need.Long) ∷ [])
    (returned_reference result) o

-- a type is of the kind that a return instruction gives
abbrev pub is_of_kind : ℕ → FlowType → Bool
is_of_kind o t =
    in_table ((code.IRETURN, is_int t) ∷ (code.LRETURN, is_long t) ∷ []) (is_reference t) o

-- a return from a method of that result, of which it must be
abbrev pub return_row : ℕ → Option FlowType → Row
return_row o result =
    if o == code.RETURN then Ends [] (is_none result)
    else Ends (return_need o result ∷ []) (from false (is_of_kind o) result)

-- ---- fields and calls

-- getstatic or putstatic of a field of the type
abbrev pub static_row : ℕ → FlowType → Row
static_row o t =
    if o == code.GETSTATIC then Acts [] (gives.One t)
    else Acts (value rule.REFERENCE t ∷ []) gives.Nothing

-- getfield or putfield of a field of the type, which the class c declares
abbrev pub field_row : Program → ℕ → FlowType → ℕ → Row
field_row p o t c =
    if o == code.GETFIELD then Acts (object_of p c ∷ []) (gives.One t)
    else Acts (value rule.REFERENCE t ∷ need.Own c ∷ []) gives.Nothing

-- invokespecial of a private method, or where no superclass of the current class declares it
abbrev pub is_direct : Program → ℕ → ℕ → Bool
is_direct p current m =
    is_private_method p m
    || (not (is_super p current)
    || (owner_of p m == current || not (is_below (superclasses p) current (owner_of p m))))

-- the class that the receiver must fit: the method's, or the current one where the search begins
-- at the direct superclass
abbrev pub receiver_class : Program → ℕ → ℕ → ℕ → ℕ
receiver_class p current o m =
    if o == code.INVOKESPECIAL && not (is_direct p current m) then current else owner_of p m

-- arguments, the last one first
abbrev pub arguments : Program → List Desc → List Need
arguments p args = reverse (map (λ d. value rule.REFERENCE (desc_type p d)) args)

-- what a call pushes
abbrev pub result : Program → Option Desc → Gives
result p ret = from gives.Nothing (λ d. gives.One (desc_type p d)) ret

-- an instruction that calls a method of a class, named by one that stands in another
abbrev pub invoke_row : Program → ℕ → ℕ → MethodDesc → ℕ → Row
invoke_row p current o d m =
    if o == code.INVOKESTATIC then Acts (arguments p d.args) (result p d.ret)
    else (if o == code.INVOKESPECIAL && is_initialiser p m
    then Inits (arguments p d.args) (owner_of p m) (result p d.ret)
    else Acts (arguments p d.args ++ object_of p (receiver_class p current o m) ∷ [])
    (result p d.ret))

-- checkcast to the type, or instanceof
abbrev pub cast_row : ℕ → FlowType → Row
cast_row o t =
    if o == code.CHECKCAST then Acts (reference ∷ []) (gives.One t)
    else Acts (reference ∷ []) (gives.One flow.Int)

-- multianewarray of n sizes
abbrev pub sizes_row : ℕ → FlowType → Row
sizes_row n t = Acts (replicate n need.Int) (gives.One t)

-- ---- the table

-- what the instruction at an address of a method takes and gives
abbrev pub row : Program → ℕ → ℕ → Op → Row
row p m at op.Nop = Acts [] gives.Nothing
row p m at op.AconstNull = Acts [] (gives.One flow.Null)
row p m at (op.Iconst n) = Acts [] (gives.One flow.Int)
row p m at (op.Lconst n) = Acts [] (gives.One flow.Long)
row p m at (op.Push n) = Acts [] (gives.One flow.Int)
row p m at (op.Ldc i) = Acts [] (gives.One (constant_type p (target_of p m at)))
row p m at (op.Ldc2 i) = Acts [] (gives.One (constant_type p (target_of p m at)))
row p m at (op.Load o n) = Reads (load_slot o) n
row p m at (op.ArrayLoad o) = array_load o
row p m at (op.Store o n) = Writes (store_slot o) n
row p m at (op.ArrayStore o) = array_store o
row p m at (op.Pop o) = pop_row o
row p m at (op.Dup o) = dup_row o
row p m at op.Swap = Swaps
row p m at (op.Arith o) = Acts (number o ∷ number o ∷ []) (gives.One (number_type o))
row p m at (op.Divide o) = Acts (number o ∷ number o ∷ []) (gives.One (number_type o))
row p m at (op.Negate o) = Acts (number o ∷ []) (gives.One (number_type o))
row p m at (op.Shift o) = Acts (need.Int ∷ number o ∷ []) (gives.One (number_type o))
row p m at (op.Bits o) = Acts (number o ∷ number o ∷ []) (gives.One (number_type o))
row p m at (op.Iinc n by) = Bumps n
row p m at (op.Resize o) = resize_row o
row p m at op.Lcmp = Acts (need.Long ∷ need.Long ∷ []) (gives.One flow.Int)
row p m at (op.IfZero o to) = Acts (need.Int ∷ []) gives.Nothing
row p m at (op.IfInts o to) = Acts (need.Int ∷ need.Int ∷ []) gives.Nothing
row p m at (op.IfRefs o to) = Acts (reference ∷ reference ∷ []) gives.Nothing
row p m at (op.IfNull o to) = Acts (reference ∷ []) gives.Nothing
row p m at (op.Goto to) = Acts [] gives.Nothing
row p m at (op.TableSwitch other low high to) = Acts (need.Int ∷ []) gives.Nothing
row p m at (op.LookupSwitch other pairs) = Acts (need.Int ∷ []) gives.Nothing
row p m at (op.Return o) = return_row o (result_of p m)
row p m at (op.Static o i d) = static_row o (desc_type p d)
row p m at (op.Field o i d) =
    field_row p o (desc_type p d) (field_class_in (target_of p m at))
row p m at (op.Invoke o i d) =
    invoke_row p (owner_of p m) o d (method_in (target_of p m at))
row p m at (op.New i) = Acts [] (gives.One (flow.Fresh at))
row p m at (op.NewArray k) =
    Acts (need.Int ∷ []) (gives.One (flow.Array 1 (Primitive (primitive_of k))))
row p m at (op.AnewArray i) =
    Acts (need.Int ∷ []) (gives.One (array_over (class_type p (class_in (target_of p m at)))))
row p m at (op.MultiNewArray i n) =
    sizes_row n (class_type p (class_in (target_of p m at)))
row p m at op.ArrayLength = Acts (need.Array ∷ []) (gives.One flow.Int)
row p m at op.Athrow =
    Acts (need.Fitting rule.REFERENCE (flow.Class throwable) ∷ []) gives.Nothing
row p m at (op.Cast o i) = cast_row o (class_type p (class_in (target_of p m at)))
row p m at (op.Monitor o) = Acts (reference ∷ []) gives.Nothing

-- the addresses to which an instruction may jump
abbrev pub jumps : Op → List ℕ
jumps (op.IfZero o to) = to ∷ []
jumps (op.IfInts o to) = to ∷ []
jumps (op.IfRefs o to) = to ∷ []
jumps (op.IfNull o to) = to ∷ []
jumps (op.Goto to) = to ∷ []
jumps (op.TableSwitch other low high to) = other ∷ to
jumps (op.LookupSwitch other pairs) = other ∷ map (λ p. p.1) pairs
jumps _ = []

-- control may go on at the instruction behind it
abbrev pub falls : Op → Bool
falls (op.Goto to) = false
falls (op.TableSwitch other low high to) = false
falls (op.LookupSwitch other pairs) = false
falls (op.Return o) = false
falls op.Athrow = false
falls _ = true
