-- The kinds of operands that instructions take (JVMS2 6).
use Rattle.std.specs.Prelude.{ℕ, ◌==◌, Bool, true, false, ◌&&◌, ◌||◌, if◌then◌else◌, List, length, Option, Some, is_some, slice_get}
use Rattle.jvm_base.specs.declared.value.Value.{Value}
use Rattle.jvm_base.specs.declared.value.Value.TheVariants.{Int, Long, Ref, Null}
use Rattle.code_table.specs.declared.op.Op.{Op}
use Rattle.code_table.specs.declared.op.Op.TheVariants as op
use Rattle.code_table.specs.declared.opcode.TheConstants as code
use Rattle.instruction_table.specs.Rows.{is_on_ints}

-- the value is there, and an int
abbrev pub has_int : Option Value → Bool
has_int (Some (Int a)) = true
has_int _ = false

-- a long
abbrev pub has_long : Option Value → Bool
has_long (Some (Long a)) = true
has_long _ = false

-- a reference
abbrev pub has_reference : Option Value → Bool
has_reference (Some (Ref n)) = true
has_reference (Some Null) = true
has_reference _ = false

-- an int or a long, by the opcode
abbrev pub has_number : ℕ → Option Value → Bool
has_number o v = if is_on_ints o then has_int v else has_long v

-- the two newest are of the opcode's kind
abbrev pub has_numbers : ℕ → List Value → Bool
has_numbers o vs = has_number o (slice_get vs 0) && has_number o (slice_get vs 1)

-- the newest is an int or a long
abbrev pub has_either : List Value → Bool
has_either vs = has_int (slice_get vs 0) || has_long (slice_get vs 0)

-- the frame has the operands and the local that an instruction takes
abbrev pub takes : Op → List Value → List Value → Bool
takes (op.Arith o) locals vs = has_numbers o vs
takes (op.Divide o) locals vs = has_numbers o vs
takes (op.Bits o) locals vs = has_numbers o vs
takes (op.Shift o) locals vs = has_int (slice_get vs 0) && has_number o (slice_get vs 1)
takes (op.Negate o) locals vs = has_either vs
takes (op.Resize o) locals vs = has_either vs
takes op.Lcmp locals vs = has_long (slice_get vs 0) && has_long (slice_get vs 1)
takes (op.IfZero o to) locals vs = has_int (slice_get vs 0)
takes (op.IfInts o to) locals vs = has_int (slice_get vs 0) && has_int (slice_get vs 1)
takes (op.IfRefs o to) locals vs = is_some (slice_get vs 1)
takes (op.IfNull o to) locals vs = is_some (slice_get vs 0)
takes (op.TableSwitch other low high to) locals vs = has_int (slice_get vs 0)
takes (op.LookupSwitch other pairs) locals vs = has_int (slice_get vs 0)
takes (op.Store o i) locals vs = is_some (slice_get vs 0)
takes (op.Iinc i by) locals vs = has_int (slice_get locals i)
takes (op.Cast o i) locals vs = is_some (slice_get vs 0)
takes (op.ArrayLoad o) locals vs = has_reference (slice_get vs 1)
takes (op.ArrayStore o) locals vs = has_reference (slice_get vs 2)
takes op.ArrayLength locals vs = has_reference (slice_get vs 0)
takes op.Athrow locals vs = has_reference (slice_get vs 0)
takes (op.Monitor o) locals vs = has_reference (slice_get vs 0)
takes (op.Field o i d) locals vs =
    has_reference (if o == code.GETFIELD then slice_get vs 0 else slice_get vs 1)
takes (op.Invoke o i d) locals vs =
    o == code.INVOKESTATIC || has_reference (slice_get vs (length d.args))
takes _ locals vs = true
