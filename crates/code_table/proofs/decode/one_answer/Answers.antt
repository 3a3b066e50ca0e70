use Rattle.code_table.proofs.Acceptance.{one_code, code_or_refusal, one_refusal}
use Rattle.code_table.proofs.decode.one_answer.Goals as goal

pub returns-clause-code : goal.returns-clause-code
returns-clause-code c = one_code c.args.item.now c.args.pool.now

pub returns-clause-either : goal.returns-clause-either
returns-clause-either c = code_or_refusal c.args.item.now c.args.pool.now

pub returns-clause-refusal : goal.returns-clause-refusal
returns-clause-refusal c = one_refusal c.args.item.now c.args.pool.now
