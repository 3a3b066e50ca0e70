-- What instruction stands at an address of some code, or why none does: a function of the bytes, the
-- pool and the address (JVMS2 6).
use Rattle.std.specs.Prelude.{ℕ, ◌+◌, List, length, slice_range, Result, Ok, Err, nat_le, nat_lt}
use Rattle.std.specs.Int.{w8, w16}
use Rattle.jvm_base.specs.declared.pool.PoolItem.{PoolItem}
use Rattle.code_table.specs.declared.error.CodeErr.{CodeErr}
use Rattle.code_table.specs.declared.error.CodeErr.TheVariants.{UnknownOp, LeftOutOp, CutOp}
use Rattle.code_table.specs.declared.code.Placed.{Placed}
use Rattle.code_table.specs.declared.op.Op.{Op}
use Rattle.code_table.specs.Numbers.{number_at, signed_at}
use Rattle.jvm_base.specs.Refusing.{◌>>=◌, need}
use Rattle.code_table.specs.Forms.{Form, Local, LocalAndByte, TableSwitch, LookupSwitch, Wide, LeftOut, LeftOutLocal, Unknown, size, meaning}
use Rattle.code_table.specs.Table.{form_at}
use Rattle.code_table.specs.Switches.{table_switch_at, lookup_switch_at}

-- an instruction whose opcode tells its length
unfoldable pub sized_at : Form → List ℕ → List PoolItem → ℕ → Result Placed CodeErr
sized_at form code pool at = do
  let next = at + 1 + size form
  _ ← need (nat_le next (length code)) (CutOp at)
  op ← meaning form (slice_range code (at + 1) next) pool at
  Ok (record { at = at; next = next; op = op })

-- `wide` and an instruction, of which this many bytes of operands stand behind the two opcodes
unfoldable pub wide_of : ℕ → (List ℕ → Op) → List ℕ → ℕ → Result Placed CodeErr
wide_of size op code at = do
  let next = at + 2 + size
  _ ← need (nat_le next (length code)) (CutOp at)
  Ok (record { at = at; next = next; op = op (slice_range code (at + 2) next) })

-- `wide` and the instruction that it widens
abbrev pub widened : Form → List ℕ → ℕ → Result Placed CodeErr
widened (Local op) code at = wide_of 2 (λ xs. op (number_at w16 xs 0)) code at
widened (LocalAndByte op) code at =
    wide_of 4 (λ xs. op (number_at w16 xs 0) (signed_at w16 xs 2)) code at
widened LeftOutLocal code at = Err (LeftOutOp at)
widened _ code at = Err (UnknownOp at)

-- a `wide`, with the instruction that it widens
unfoldable pub wide_at : List ℕ → ℕ → Result Placed CodeErr
wide_at code at = do
  _ ← need (nat_lt (at + 1) (length code)) (CutOp at)
  widened (form_at (number_at w8 code (at + 1))) code at

-- the instruction at an address whose opcode has this form
abbrev pub by_form : Form → List ℕ → List PoolItem → ℕ → Result Placed CodeErr
by_form Unknown code pool at = Err (UnknownOp at)
by_form LeftOut code pool at = Err (LeftOutOp at)
by_form LeftOutLocal code pool at = Err (LeftOutOp at)
by_form TableSwitch code pool at = table_switch_at code at
by_form LookupSwitch code pool at = lookup_switch_at code at
by_form Wide code pool at = wide_at code at
by_form form code pool at = sized_at form code pool at

-- the instruction at an address below the code's length
unfoldable pub instruction_at : List ℕ → List PoolItem → ℕ → Result Placed CodeErr
instruction_at code pool at = by_form (form_at (number_at w8 code at)) code pool at
