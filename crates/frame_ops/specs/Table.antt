-- The one table of what instructions do: a line for each (JVMS2 6).
use Rattle.std.specs.Prelude.{List, ◌∷◌, length}
use Rattle.jvm_base.specs.declared.value.Value.{Value}
use Rattle.jvm_base.specs.declared.value.Value.TheVariants.{Int, Long, Null}
use Rattle.code_table.specs.declared.op.Op.{Op}
use Rattle.code_table.specs.declared.op.Op.TheVariants as op
use Rattle.instruction_table.specs.Rows.{pop_row, dup_row}
use Rattle.instruction_table.specs.declared.row.Row.TheVariants as row
use Rattle.frame_ops.specs.declared.answer.Given.{Given}
use Rattle.frame_ops.specs.Numbers.{arithmetic, division, bitwise}
use Rattle.frame_ops.specs.Moves.{Move, Goes, Jumps, Asks, Leaves}
use Rattle.frame_ops.specs.Operands.{two_numbers, divides, negates, shifts, resizes, compares_longs, branches_zero, branches_ints, branches_refs, branches_null, switches_table, switches_pairs, local_at, stores, bumps, shuffled, with_reference, field_move, call_move, throws, with_sizes, casts, given_constant, given_fit, returned}

-- with what the program tells it, the frame's locals and its operands
abbrev pub move_of : Op → Given → List Value → List Value → Move
move_of op.Nop given locals vs = Goes vs
move_of op.AconstNull given locals vs = Goes (Null ∷ vs)
move_of (op.Iconst n) given locals vs = Goes (Int n ∷ vs)
move_of (op.Lconst n) given locals vs = Goes (Long n ∷ vs)
move_of (op.Push n) given locals vs = Goes (Int n ∷ vs)
move_of (op.Ldc i) given locals vs = Goes (given_constant given ∷ vs)
move_of (op.Ldc2 i) given locals vs = Goes (given_constant given ∷ vs)
move_of (op.Load o i) given locals vs = Goes (local_at locals i ∷ vs)
move_of (op.ArrayLoad o) given locals vs = with_reference 1 Asks vs
move_of (op.Store o i) given locals vs = stores i vs
move_of (op.ArrayStore o) given locals vs = with_reference 2 Asks vs
move_of (op.Pop o) given locals vs = Goes (shuffled (pop_row o) vs)
move_of (op.Dup o) given locals vs = Goes (shuffled (dup_row o) vs)
move_of op.Swap given locals vs = Goes (shuffled row.Swaps vs)
move_of (op.Arith o) given locals vs = two_numbers o (arithmetic o) vs
move_of (op.Divide o) given locals vs = divides o (division o) vs
move_of (op.Negate o) given locals vs = negates vs
move_of (op.Shift o) given locals vs = shifts o vs
move_of (op.Bits o) given locals vs = two_numbers o (bitwise o) vs
move_of (op.Iinc i by) given locals vs = bumps i by locals vs
move_of (op.Resize o) given locals vs = resizes o vs
move_of op.Lcmp given locals vs = compares_longs vs
move_of (op.IfZero o to) given locals vs = branches_zero o to vs
move_of (op.IfInts o to) given locals vs = branches_ints o to vs
move_of (op.IfRefs o to) given locals vs = branches_refs o to vs
move_of (op.IfNull o to) given locals vs = branches_null o to vs
move_of (op.Goto to) given locals vs = Jumps to vs
move_of (op.TableSwitch other low high to) given locals vs = switches_table other low high to vs
move_of (op.LookupSwitch other pairs) given locals vs = switches_pairs other pairs vs
move_of (op.Return o) given locals vs = Leaves (returned o vs)
move_of (op.Static o i d) given locals vs = Asks
move_of (op.Field o i d) given locals vs = field_move o vs
move_of (op.Invoke o i d) given locals vs = call_move o (length d.args) vs
move_of (op.New i) given locals vs = Asks
move_of (op.NewArray k) given locals vs = with_sizes 1 vs
move_of (op.AnewArray i) given locals vs = with_sizes 1 vs
move_of op.ArrayLength given locals vs = with_reference 0 Asks vs
move_of op.Athrow given locals vs = throws vs
move_of (op.Cast o i) given locals vs = casts o (given_fit given) vs
move_of (op.Monitor o) given locals vs = with_reference 0 Asks vs
move_of (op.MultiNewArray i n) given locals vs = with_sizes n vs
