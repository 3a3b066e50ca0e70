-- What stands behind an opcode, and what instruction the two are (JVMS2 6).
use Rattle.std.specs.Prelude.{ℕ, ℤ, List, Result, Ok, Err}
use Rattle.std.specs.Int.{w8, w16, w32}
use Rattle.jvm_base.specs.declared.pool.PoolItem.{PoolItem}
use Rattle.jvm_base.specs.declared.desc.Desc.{Desc}
use Rattle.jvm_base.specs.declared.desc.MethodDesc.{MethodDesc}
use Rattle.code_table.specs.declared.error.CodeErr.{CodeErr}
use Rattle.code_table.specs.declared.error.CodeErr.TheVariants.{UnknownOp}
use Rattle.code_table.specs.declared.op.Op.{Op}
use Rattle.code_table.specs.Numbers.{number_at, signed_at, target}
use Rattle.code_table.specs.Pooled.{constant, constant_2w, field, method, interface_method, class, element_class, element_kind, dimensions}

-- what stands behind an opcode, with the instruction that it makes
pub data Form : Type 0 where
  -- nothing
  Alone : Op → Form
  -- a number with its sign, of one byte or of two
  Byte : (ℤ → Op) → Form
  Short : (ℤ → Op) → Form
  -- a local, or a local and a number with its sign, of one byte each, or behind `wide` of two
  Local : (ℕ → Op) → Form
  LocalAndByte : (ℕ → ℤ → Op) → Form
  -- the offset of a target, of two bytes or of four
  Near : (ℕ → Op) → Form
  Far : (ℕ → Op) → Form
  -- the index of a constant, of one byte or of two; and that of one of two slots, of two bytes
  Constant : Form
  ConstantW : Form
  Constant2W : Form
  -- an index of two bytes: a field's, a method's, a class's, or that of an array's element class
  OnField : (ℕ → Desc → Op) → Form
  OnMethod : (ℕ → MethodDesc → Op) → Form
  OnClass : (ℕ → Op) → Form
  ElementClass : (ℕ → Op) → Form
  -- the index of an interface's method, the count of the slots of a call of it, and a 0
  OnInterface : (ℕ → MethodDesc → Op) → Form
  -- the number of the kind of an array's elements
  ElementKind : (ℕ → Op) → Form
  -- the index of a class, and how many of its dimensions are made
  Dimensions : (ℕ → ℕ → Op) → Form
  -- operands whose number the opcode doesn't tell
  TableSwitch : Form
  LookupSwitch : Form
  Wide : Form
  -- an instruction that this machine leaves out, and such a one that may stand behind `wide`
  LeftOut : Form
  LeftOutLocal : Form
  -- no instruction
  Unknown : Form

-- how many bytes stand behind the opcode, where it alone tells that
abbrev pub size : Form → ℕ
size (Byte op) = 1
size (Short op) = 2
size (Local op) = 1
size (LocalAndByte op) = 2
size (Near op) = 2
size (Far op) = 4
size Constant = 1
size ConstantW = 2
size Constant2W = 2
size (OnField op) = 2
size (OnMethod op) = 2
size (OnClass op) = 2
size (ElementClass op) = 2
size (OnInterface op) = 4
size (ElementKind op) = 1
size (Dimensions op) = 3
size _ = 0

-- the instruction with these operands, by the pool, at an address; a form without a size has none
abbrev pub meaning : Form → List ℕ → List PoolItem → ℕ → Result Op CodeErr
meaning (Alone op) xs pool at = Ok op
meaning (Byte op) xs pool at = Ok (op (signed_at w8 xs 0))
meaning (Short op) xs pool at = Ok (op (signed_at w16 xs 0))
meaning (Local op) xs pool at = Ok (op (number_at w8 xs 0))
meaning (LocalAndByte op) xs pool at = Ok (op (number_at w8 xs 0) (signed_at w8 xs 1))
meaning (Near op) xs pool at = Ok (op (target at (signed_at w16 xs 0)))
meaning (Far op) xs pool at = Ok (op (target at (signed_at w32 xs 0)))
meaning Constant xs pool at = constant pool (number_at w8 xs 0) at
meaning ConstantW xs pool at = constant pool (number_at w16 xs 0) at
meaning Constant2W xs pool at = constant_2w pool (number_at w16 xs 0) at
meaning (OnField op) xs pool at = field op pool (number_at w16 xs 0) at
meaning (OnMethod op) xs pool at = method op pool (number_at w16 xs 0) at
meaning (OnClass op) xs pool at = class op pool (number_at w16 xs 0) at
meaning (ElementClass op) xs pool at = element_class op pool (number_at w16 xs 0) at
meaning (OnInterface op) xs pool at = interface_method op xs pool at
meaning (ElementKind op) xs pool at = element_kind op (number_at w8 xs 0) at
meaning (Dimensions op) xs pool at = dimensions op pool (number_at w16 xs 0) (number_at w8 xs 2) at
meaning _ xs pool at = Err (UnknownOp at)
