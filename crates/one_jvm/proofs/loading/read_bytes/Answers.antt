use Rattle.std.proofs.Common.{rules}
use Rattle.one_jvm.proofs.LoadLemmas.{loaded, missing, too_long}
use Rattle.one_jvm.proofs.loading.read_bytes.Goals as goal

pub returns-in-Ok-clause-answer : goal.returns-in-Ok-clause-answer
returns-in-Ok-clause-answer g c =
    loaded c.args.name.now (g.S.Shelf.files c.args.shelf.now) c.args.order c.args.file (g.S.Shelf.faults c.args.shelf.now) (g.S.Shelf.faults c.read_file.new.self) c.in-Ok.bytes.items
    (λ fs e. (c.in-Ok.ensures.answer.of_told fs e).ok) (rw c.limit_of.ensures at c.in-Ok.ensures.answer.bound)

pub returns-in-Err-NotThere-clause-answer : goal.returns-in-Err-NotThere-clause-answer
returns-in-Err-NotThere-clause-answer g c =
    missing c.args.name.now (g.S.Shelf.files c.args.shelf.now) c.args.order c.args.file (g.S.Shelf.faults c.args.shelf.now) (g.S.Shelf.faults c.read_file.new.self)
    (λ fs e. (c.in-Err-NotThere.ensures.answer.of_told fs e).not_there (search rules))

pub returns-in-Err-TooLong-clause-answer : goal.returns-in-Err-TooLong-clause-answer
returns-in-Err-TooLong-clause-answer g c =
    too_long c.args.name.now (g.S.Shelf.files c.args.shelf.now) c.args.order c.args.file (g.S.Shelf.faults c.args.shelf.now) (g.S.Shelf.faults c.read_file.new.self)
    (λ fs e. rw c.limit_of.ensures at ((c.in-Err-TooLong.ensures.answer.of_told fs e).too_long (search rules)))
