-- What an instruction plans: what the table of moves says, and what those ask that aren't of their
-- frame alone (JVMS2 6).
use Rattle.std.specs.Prelude.{ℕ, ℤ, pos, ◌==◌, false, if◌then◌else◌, unsigned_abs, List, [], ◌∷◌, map, Option, Some, None}
use Rattle.jvm_base.specs.declared.desc.Desc.{Desc}
use Rattle.jvm_base.specs.declared.desc.Elem.{Elem}
use Rattle.jvm_base.specs.declared.desc.Elem.TheVariants as elem
use Rattle.jvm_base.specs.declared.name.Name.{Name}
use Rattle.jvm_base.specs.declared.value.Value.{Value}
use Rattle.jvm_base.specs.declared.value.Value.TheVariants.{Int, Ref}
use Rattle.jvm_base.specs.declared.frame.Frame.{Frame}
use Rattle.code_table.specs.declared.code.Placed.{Placed}
use Rattle.code_table.specs.declared.op.Op.{Op}
use Rattle.code_table.specs.declared.op.Op.TheVariants as op
use Rattle.code_table.specs.declared.opcode.TheConstants as code
use Rattle.program_image.specs.declared.info.Target.{Target}
use Rattle.program_image.specs.declared.info.Target.TheVariants as target
use Rattle.program_image.specs.Program.{Program}
use Rattle.program_image.specs.Subclass.{is_sub_of}
use Rattle.instruction_table.specs.ClassTypes.{class_in, method_in}
use Rattle.frame_ops.specs.declared.answer.Fault.{Fault}
use Rattle.frame_ops.specs.declared.answer.Fault.TheVariants as fault_kind
use Rattle.frame_ops.specs.declared.answer.Given.{Given}
use Rattle.frame_ops.specs.declared.answer.Given.TheVariants as given
use Rattle.frame_ops.specs.Moves.{Move, Asks, Calls, Raises, Throws as ThrowsIt, Leaves as LeavesIt, Stuck as StuckThere, frame_after}
use Rattle.frame_ops.specs.Narrowing.{as_byte, as_unit, as_short}
use Rattle.frame_ops.specs.Stepping.{move_at, call_count, call_values}
use Rattle.machine_state.specs.BootClasses.{arithmetic, null_pointer, negative_size, class_cast}
use Rattle.machine_state.specs.Calls.{invokes}
use Rattle.machine_state.specs.Classes.{is_constant, array_class_of, array_class_over, constant_in}
use Rattle.machine_state.specs.Next.{Next, Alone, Throws, Leaves, Needs, Stuck, Plan, Who, plain, asking, fault}
use Rattle.machine_state.specs.PreMade.{holder}
use Rattle.machine_state.specs.declared.request.Request.TheVariants.{Get, Put, Load, Store, Len, Make, Enter, Exit}

-- ---- values as they are stored

-- an int cut to what the element type of a field or array holds
abbrev pub cut : Elem → ℤ → ℤ
cut elem.Byte a = as_byte a
cut elem.Boolean a = as_byte a
cut elem.Char a = pos (as_unit a)
cut elem.Short a = as_short a
cut _ a = a

-- into a field of a type
abbrev pub put_value : Desc → Value → Value
put_value d (Int a) = if d.dims == 0 then Int (cut d.elem a) else Int a
put_value d v = v

-- into an element, by the opcode
abbrev pub stored_value : ℕ → Value → Value
stored_value o (Int a) =
    if o == code.BASTORE then Int (as_byte a)
    else (if o == code.CASTORE then Int (pos (as_unit a))
    else (if o == code.SASTORE then Int (as_short a) else Int a))
stored_value o v = v

-- ---- what is asked

-- a read of an element
abbrev pub loads : List Value → Next
loads (Int i ∷ Ref n ∷ vs) = Needs (Load n i)
loads _ = Stuck

-- a write of one
abbrev pub stores : ℕ → List Value → Next
stores o (v ∷ Int i ∷ Ref n ∷ vs) = Needs (Store n i (stored_value o v))
stores o _ = Stuck

-- a read of a field
abbrev pub gets : ℕ → List Value → Next
gets place (Ref n ∷ vs) = Needs (Get n place)
gets place _ = Stuck

-- a write of one
abbrev pub puts : Desc → ℕ → List Value → Next
puts d place (v ∷ Ref n ∷ vs) = Needs (Put n place (put_value d v))
puts d place _ = Stuck

-- a write of a static, which is a field of its class's holder
abbrev pub puts_static : Desc → Name → ℕ → List Value → Next
puts_static d n place (v ∷ vs) = Needs (Put n place (put_value d v))
puts_static d n place [] = Stuck

-- something of the newest operand
abbrev pub of_reference : (Name → Next) → List Value → Next
of_reference f (Ref n ∷ vs) = f n
of_reference f _ = Stuck

-- a size
abbrev pub size_of : Value → ℕ
size_of (Int n) = unsigned_abs n
size_of _ = 0

-- an array of a class, with so many sizes, the outermost first
abbrev pub makes_array : ℕ → ℕ → List Value → Next
makes_array c n vs = Needs (Make c (map size_of (call_values n vs)))

-- ---- those instructions

-- a static asks for its class, unless it is final and has a constant
abbrev pub asked_class : Program → ℕ → ℕ → Option ℕ
asked_class p c place = if is_constant p c place then None else Some c

-- a read of a static, or a write
abbrev pub static_next : ℕ → Desc → Name → ℕ → List Value → Next
static_next o d n place vs =
    if o == code.GETSTATIC then Needs (Get n place) else puts_static d n place vs

-- an instruction on a static
abbrev pub static_plan : Program → ℕ → Desc → Option Target → List Value → Plan
static_plan p o d (Some (target.Field c place fixed)) vs = record {
  asks = asked_class p c place;
  next = static_next o d (holder c) place vs;
}
static_plan p o d _ vs = plain Stuck

-- an instruction on a field of an object
abbrev pub field_next : ℕ → Desc → Option Target → List Value → Next
field_next o d (Some (target.Field c place fixed)) vs =
    if o == code.GETFIELD then gets place vs else puts d place vs
field_next o d _ vs = Stuck

-- by instruction; `new` asks for its class
abbrev pub shared_plan : Program → Op → Option Target → List Value → Plan
shared_plan p (op.ArrayLoad o) t vs = plain (loads vs)
shared_plan p (op.ArrayStore o) t vs = plain (stores o vs)
shared_plan p (op.Static o i d) t vs = static_plan p o d t vs
shared_plan p (op.Field o i d) t vs = plain (field_next o d t vs)
shared_plan p (op.New i) t vs = asking (class_in t) (Needs (Make (class_in t) []))
shared_plan p (op.NewArray k) t vs = plain (makes_array (array_class_of p k) 1 vs)
shared_plan p (op.AnewArray i) t vs = plain (makes_array (array_class_over p (class_in t)) 1 vs)
shared_plan p (op.MultiNewArray i n) t vs = plain (makes_array (class_in t) n vs)
shared_plan p op.ArrayLength t vs = plain (of_reference (λ n. Needs (Len n)) vs)
shared_plan p (op.Monitor o) t vs =
    plain (of_reference (λ n. Needs (if o == code.MONITORENTER then Enter n else Exit n false)) vs)
shared_plan p o t vs = plain Stuck

-- a call
abbrev pub call_plan : Program → Who → Frame → Op → Option Target → List Value → Plan
call_plan p who f (op.Invoke o i d) t vs =
    invokes p who f o (method_in t) (call_values (call_count o d) vs)
call_plan p who f o t vs = plain Stuck

-- a return gives its value; that of a synchronized method leaves its lock first
abbrev pub returns : Option Name → Option Value → Next
returns None v = Leaves v
returns (Some lock) v = Needs (Exit lock false)

-- ---- all of them

-- the exception of a fault
abbrev pub fault_class : Fault → ℕ
fault_class fault_kind.Arithmetic = arithmetic
fault_class fault_kind.NullPointer = null_pointer
fault_class fault_kind.ClassCast = class_cast
fault_class fault_kind.NegativeSize = negative_size

-- whether an object is of the class that is named
abbrev pub given_fits : Program → Option Target → List Value → Given
given_fits p t (Ref n ∷ vs) = given.Fits (is_sub_of p.classes n.class (class_in t))
given_fits p t _ = given.Nothing

-- what the program tells an instruction
abbrev pub given_to : Program → Op → Option Target → List Value → Given
given_to p (op.Ldc i) t vs = given.Constant (constant_in t)
given_to p (op.Ldc2 i) t vs = given.Constant (constant_in t)
given_to p (op.Cast o i) t vs = given_fits p t vs
given_to p _ t vs = given.Nothing

-- by the move that it comes to
abbrev pub by_move : Program → Who → Frame → Placed → Option Target → Move → Plan
by_move p who f i t Asks = shared_plan p i.op t f.stack.values
by_move p who f i t Calls = call_plan p who f i.op t f.stack.values
by_move p who f i t (Raises kind) = plain (fault (fault_class kind))
by_move p who f i t (ThrowsIt e) = plain (Throws e)
by_move p who f i t (LeavesIt v) = plain (returns f.lock v)
by_move p who f i t StuckThere = plain Stuck
by_move p who f i t m = plain (Alone (frame_after m i.next f))

-- of the instruction in its place, with what it names
abbrev pub instruction_plan : Program → Who → Frame → Placed → Option Target → Plan
instruction_plan p who f i t = by_move p who f i t (move_at i (given_to p i.op t f.stack.values) f)
