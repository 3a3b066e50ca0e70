use Rattle.code_table.proofs.ReadAt.{instruction_within, refusal_here}
use Rattle.code_table.proofs.decode.one_instruction.Goals as goal

pub returns-clause-within : goal.returns-clause-within
returns-clause-within c = instruction_within c.args.code.now c.args.pool.now

pub returns-clause-here : goal.returns-clause-here
returns-clause-here c = refusal_here c.args.code.now c.args.pool.now
