use Rattle.std.proofs.Common.{◌≡◌, rules}
use Rattle.cjvm_io.proofs.Answered.{answers_missing, answers_ok, answers_no_memory}
use Rattle.cjvm_io.proofs.mem_shelf.MemShelfShelf.read_file.Goals as goal

pub returns-in_default-clause-answer : goal.returns-in_default-clause-answer
returns-in_default-clause-answer c = answers_missing _ _ c.args.name.now c.args.limit (rw c.as_slice.ensures.value at c.in_default.ensures)

pub returns-in-Ok-clause-answer : goal.returns-in-Ok-clause-answer
returns-in-Ok-clause-answer c =
    let found = rw c.as_slice.ensures.value at c.in-Some.ensures in
    let same : c.in-Ok.copy.items ≡ c.in-Some.bytes.now.items = search rules in
    answers_ok _ _ c.args.name.now c.args.limit c.in-Ok.copy (rw same found) (rw same (search rules))

pub returns-in-Err-clause-answer : goal.returns-in-Err-clause-answer
returns-in-Err-clause-answer c =
    let found = rw c.as_slice.ensures.value at c.in-Some.ensures in
    answers_no_memory _ _ c.args.name.now c.args.limit c.in-Some.bytes.now.items found (search rules)
