use Rattle.std.proofs.Common.{sym, ◌∙◌}
use Rattle.one_jvm.specs.Steps.Parts.{asked_by}
use Rattle.one_jvm.proofs.LoadLemmas.{named_at, order_answer}
use Rattle.one_jvm.proofs.WordLemmas.{counted_some}
use Rattle.one_jvm.proofs.loading.read_order.Goals as goal

pub returns-in-Replay-clause-answer : goal.returns-in-Replay-clause-answer
returns-in-Replay-clause-answer g c =
    order_answer (g.S.Shelf.files c.args.shelf.now) (asked_by c.args.request.now) c.file.result.now (g.S.Shelf.faults c.args.shelf.now) (g.S.Shelf.faults c.read_bytes.new.shelf) c.read_bytes.result (sym c.command.ensures ∙ c.in-Replay.is)
    (named_at (asked_by c.args.request.now).files 0 c.file.result.now (counted_some (asked_by c.args.request.now) c.requires.counted) c.file.ensures) c.read_bytes.ensures.answer
