-- The form that an opcode of some kind has.
use Rattle.std.specs.Prelude.{ℕ, pos, ◌+◌, ◌-◌, ◌/◌, ◌%◌, ◌-ℤ◌}
use Rattle.code_table.specs.declared.kind.Kind.{Kind}
use Rattle.code_table.specs.declared.kind.Kind.TheVariants as kind
use Rattle.code_table.specs.declared.kind.Simple.{Simple}
use Rattle.code_table.specs.declared.kind.Simple.TheVariants as simple
use Rattle.code_table.specs.declared.kind.Access.{Access}
use Rattle.code_table.specs.declared.kind.Access.TheVariants as access
use Rattle.code_table.specs.declared.kind.Jump.{Jump}
use Rattle.code_table.specs.declared.kind.Jump.TheVariants as jump
use Rattle.code_table.specs.declared.kind.Member.{Member}
use Rattle.code_table.specs.declared.kind.Member.TheVariants as member
use Rattle.code_table.specs.declared.kind.Use.{Use}
use Rattle.code_table.specs.declared.kind.Use.TheVariants as purpose
use Rattle.code_table.specs.declared.opcode.TheConstants.{ICONST_0, LCONST_0, ILOAD, ILOAD_0, ISTORE, ISTORE_0}
use Rattle.code_table.specs.declared.op.Op.{Op}
use Rattle.code_table.specs.declared.op.Op.TheVariants as op
use Rattle.jvm_base.specs.declared.desc.Desc.{Desc}
use Rattle.code_table.specs.Forms.{Form, Alone, Byte, Short, Local, LocalAndByte, Near, Far, Constant, ConstantW, Constant2W, OnField, OnMethod, OnInterface, OnClass, ElementClass, ElementKind, Dimensions, TableSwitch, LookupSwitch, Wide, LeftOut, LeftOutLocal, Unknown}

-- an instruction without operands, by its opcode
abbrev pub simple_of : Simple → ℕ → Op
simple_of simple.Nop b = op.Nop
simple_of simple.AconstNull b = op.AconstNull
simple_of simple.Iconst b = op.Iconst (pos b -ℤ pos ICONST_0)
simple_of simple.Lconst b = op.Lconst (pos b -ℤ pos LCONST_0)
simple_of simple.LoadN b = op.Load (ILOAD + (b - ILOAD_0) / 4) ((b - ILOAD_0) % 4)
simple_of simple.ArrayLoad b = op.ArrayLoad b
simple_of simple.StoreN b = op.Store (ISTORE + (b - ISTORE_0) / 4) ((b - ISTORE_0) % 4)
simple_of simple.ArrayStore b = op.ArrayStore b
simple_of simple.Pop b = op.Pop b
simple_of simple.Dup b = op.Dup b
simple_of simple.Swap b = op.Swap
simple_of simple.Arith b = op.Arith b
simple_of simple.Divide b = op.Divide b
simple_of simple.Negate b = op.Negate b
simple_of simple.Shift b = op.Shift b
simple_of simple.Bits b = op.Bits b
simple_of simple.Resize b = op.Resize b
simple_of simple.Lcmp b = op.Lcmp
simple_of simple.Return b = op.Return b
simple_of simple.ArrayLength b = op.ArrayLength
simple_of simple.Athrow b = op.Athrow
simple_of simple.Monitor b = op.Monitor b

-- a load or store of a local
abbrev pub access_of : Access → ℕ → ℕ → Op
access_of access.Load b local = op.Load b local
access_of access.Store b local = op.Store b local

-- a jump to an address
abbrev pub jump_of : Jump → ℕ → ℕ → Op
jump_of jump.IfZero b to = op.IfZero b to
jump_of jump.IfInts b to = op.IfInts b to
jump_of jump.IfRefs b to = op.IfRefs b to
jump_of jump.IfNull b to = op.IfNull b to
jump_of jump.Goto b to = op.Goto to

-- an instruction on a field
abbrev pub member_of : Member → ℕ → ℕ → Desc → Op
member_of member.Static b item desc = op.Static b item desc
member_of member.Field b item desc = op.Field b item desc

-- an instruction on a class
abbrev pub use_of : Use → ℕ → ℕ → Op
use_of purpose.New b item = op.New item
use_of purpose.Cast b item = op.Cast b item

-- the form of an opcode that has this kind
abbrev pub form_of : Kind → ℕ → Form
form_of (kind.Alone simple) b = Alone (simple_of simple b)
form_of kind.Byte b = Byte op.Push
form_of kind.Short b = Short op.Push
form_of (kind.Local access) b = Local (access_of access b)
form_of kind.LocalAndByte b = LocalAndByte op.Iinc
form_of (kind.Near jump) b = Near (jump_of jump b)
form_of kind.Far b = Far op.Goto
form_of kind.Constant b = Constant
form_of kind.ConstantW b = ConstantW
form_of kind.Constant2W b = Constant2W
form_of (kind.OnField member) b = OnField (member_of member b)
form_of kind.OnMethod b = OnMethod (op.Invoke b)
form_of kind.OnInterface b = OnInterface (op.Invoke b)
form_of (kind.OnClass purpose) b = OnClass (use_of purpose b)
form_of kind.ElementClass b = ElementClass op.AnewArray
form_of kind.ElementKind b = ElementKind op.NewArray
form_of kind.Dimensions b = Dimensions op.MultiNewArray
form_of kind.TableSwitch b = TableSwitch
form_of kind.LookupSwitch b = LookupSwitch
form_of kind.Wide b = Wide
form_of kind.LeftOut b = LeftOut
form_of kind.LeftOutLocal b = LeftOutLocal
form_of kind.Unknown b = Unknown
