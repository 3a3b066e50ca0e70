-- Instructions by what the code looks at to run them.
use Rattle.std.specs.Prelude.{List, []}
use Rattle.jvm_base.specs.declared.value.Value.{Value}
use Rattle.code_table.specs.declared.op.Op.{Op}
use Rattle.code_table.specs.declared.op.Op.TheVariants as op
use Rattle.frame_ops.specs.declared.answer.Given.TheVariants as given
use Rattle.frame_ops.specs.declared.families.Family.{Family}
use Rattle.frame_ops.specs.declared.families.Family.TheVariants.{Constants, Told, Locals, Shuffles, Numbers, Jumps, Arrays, Objects, Ways}
use Rattle.frame_ops.specs.Moves.{Move}
use Rattle.frame_ops.specs.Table.{move_of}

-- the family of an instruction
abbrev pub family_of : Op → Family
family_of op.Nop = Constants
family_of op.AconstNull = Constants
family_of (op.Iconst n) = Constants
family_of (op.Lconst n) = Constants
family_of (op.Push n) = Constants
family_of (op.Ldc i) = Told
family_of (op.Ldc2 i) = Told
family_of (op.Cast o i) = Told
family_of (op.Load o i) = Locals
family_of (op.Store o i) = Locals
family_of (op.Iinc i by) = Locals
family_of (op.Pop o) = Shuffles
family_of (op.Dup o) = Shuffles
family_of op.Swap = Shuffles
family_of (op.Arith o) = Numbers
family_of (op.Divide o) = Numbers
family_of (op.Negate o) = Numbers
family_of (op.Shift o) = Numbers
family_of (op.Bits o) = Numbers
family_of (op.Resize o) = Numbers
family_of op.Lcmp = Numbers
family_of (op.IfZero o to) = Jumps
family_of (op.IfInts o to) = Jumps
family_of (op.IfRefs o to) = Jumps
family_of (op.IfNull o to) = Jumps
family_of (op.Goto to) = Jumps
family_of (op.TableSwitch other low high to) = Jumps
family_of (op.LookupSwitch other pairs) = Jumps
family_of (op.ArrayLoad o) = Arrays
family_of (op.ArrayStore o) = Arrays
family_of op.ArrayLength = Arrays
family_of (op.NewArray k) = Arrays
family_of (op.AnewArray i) = Arrays
family_of (op.MultiNewArray i n) = Arrays
family_of (op.Static o i d) = Objects
family_of (op.Field o i d) = Objects
family_of (op.New i) = Objects
family_of (op.Monitor o) = Objects
family_of (op.Invoke o i d) = Ways
family_of op.Athrow = Ways
family_of (op.Return o) = Ways

-- what an instruction comes to that looks at its operands alone
abbrev pub move_on : Op → List Value → Move
move_on o vs = move_of o given.Nothing [] vs

-- it looks at its operands alone
abbrev pub IsOnOperands : Family → Type 0
IsOnOperands Told = ⊥
IsOnOperands Locals = ⊥
IsOnOperands _ = Unit {0}

-- nothing comes of an instruction of the family but that the frame goes on
abbrev pub GoesOn : Family → Type 0
GoesOn Constants = Unit {0}
GoesOn Locals = Unit {0}
GoesOn Shuffles = Unit {0}
GoesOn Jumps = Unit {0}
GoesOn _ = ⊥
