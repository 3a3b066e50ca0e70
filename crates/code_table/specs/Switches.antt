-- Switches, whose operands begin at the next address that is a multiple of four (JVMS2 6). The bytes
-- before that may have any value, which is this project's own rule.
use Rattle.std.specs.Prelude.{ℕ, ℤ, pos, ◌+◌, ◌*◌, ◌/◌, ◌-ℤ◌, List, length, drop, map, Result, Ok, Bool, nat_le, unsigned_abs, int_lt, int_le}
use Rattle.std.specs.List.{range_with_len, zip, list_all}
use Rattle.std.specs.Int.{w32}
use Rattle.code_table.specs.declared.error.CodeErr.{CodeErr}
use Rattle.code_table.specs.declared.error.CodeErr.TheVariants.{CutOp, BadSwitch}
use Rattle.code_table.specs.declared.code.Placed.{Placed}
use Rattle.code_table.specs.declared.op.Op.TheVariants.{TableSwitch, LookupSwitch}
use Rattle.code_table.specs.Numbers.{signed_at, target}
use Rattle.jvm_base.specs.Refusing.{◌>>=◌, need}

-- where the operands of a switch begin
abbrev pub operands_from : ℕ → ℕ
operands_from at = at / 4 * 4 + 4

-- the targets of a switch, of which so many offsets lie from a place on
unfoldable pub targets_from : List ℕ → ℕ → ℕ → ℕ → List ℕ
targets_from code at place n =
    map (λ k. target at (signed_at w32 code (place + 4 * k))) (range_with_len 0 n)

-- the keys of a switch, each with its target, of which so many pairs lie from a place on
unfoldable pub pairs_from : List ℕ → ℕ → ℕ → ℕ → List (ℤ × ℕ)
pairs_from code at place n =
    map (λ k.
    (signed_at w32 code (place + 8 * k), target at (signed_at w32 code (place + 8 * k + 4))))
    (range_with_len 0 n)

-- each key is below the next
abbrev pub rise : List (ℤ × ℕ) → Bool
rise pairs = list_all (λ p. int_lt p.0.0 p.1.0) (zip pairs (drop 1 pairs))

-- tableswitch: the default, the lowest and the highest key, and an offset for each key between them
unfoldable pub table_switch_at : List ℕ → ℕ → Result Placed CodeErr
table_switch_at code at = do
  let place = operands_from at
  _ ← need (nat_le (place + 12) (length code)) (CutOp at)
  let low = signed_at w32 code (place + 4)
  let high = signed_at w32 code (place + 8)
  _ ← need (int_le low high) (BadSwitch at)
  let count = unsigned_abs (high -ℤ low) + 1
  let next = place + 12 + 4 * count
  _ ← need (nat_le next (length code)) (BadSwitch at)
  let other = target at (signed_at w32 code place)
  let op = TableSwitch other low high (targets_from code at (place + 12) count)
  Ok (record { at = at; next = next; op = op })

-- lookupswitch: the default, a count, and so many keys that rise, each with its offset
unfoldable pub lookup_switch_at : List ℕ → ℕ → Result Placed CodeErr
lookup_switch_at code at = do
  let place = operands_from at
  _ ← need (nat_le (place + 8) (length code)) (CutOp at)
  let count = signed_at w32 code (place + 4)
  _ ← need (int_le (pos 0) count) (BadSwitch at)
  let next = place + 8 + 8 * unsigned_abs count
  _ ← need (nat_le next (length code)) (BadSwitch at)
  let pairs = pairs_from code at (place + 8) (unsigned_abs count)
  _ ← need (rise pairs) (BadSwitch at)
  let op = LookupSwitch (target at (signed_at w32 code place)) pairs
  Ok (record { at = at; next = next; op = op })
