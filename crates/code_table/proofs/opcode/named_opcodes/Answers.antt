use Rattle.code_table.proofs.Rows.{rows_named}
use Rattle.code_table.proofs.opcode.named_opcodes.Goals as goal

pub returns : goal.returns
returns c = rows_named
