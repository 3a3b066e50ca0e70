-- Decoded code, or the first refusal.
use Rattle.std.specs.Prelude.{List, length, find, position, Result, Ok}
use Rattle.jvm_base.specs.declared.pool.PoolItem.{PoolItem}
use Rattle.jvm_base.specs.declared.code_item.CodeItem.{CodeItem}
use Rattle.code_table.specs.declared.error.CodeErr.{CodeErr}
use Rattle.code_table.specs.declared.error.CodeErr.TheVariants.{TargetOff, BadTable}
use Rattle.code_table.specs.declared.code.Code.{Code}
use Rattle.jvm_base.specs.Refusing.{◌>>=◌}
use Rattle.code_table.specs.Sequences.{instructions_of}
use Rattle.code_table.specs.Targets.{is_start, leads_off, is_bad_entry, refused}

-- First each instruction is decoded, then each target is asked, then each entry of the table.
unfoldable pub decoded : CodeItem → List PoolItem → Result Code CodeErr
decoded item pool = do
  ops ← instructions_of item.code pool
  _ ← refused (λ p. TargetOff p.at) (find (leads_off (is_start ops)) ops)
  _ ← refused BadTable (position (is_bad_entry (is_start ops) (length item.code)) item.table)
  Ok (record {
    max_stack = item.max_stack;
    max_locals = item.max_locals;
    ops = ops;
    table = item.table;
  })
