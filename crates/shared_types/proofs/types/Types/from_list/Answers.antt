use Rattle.std.proofs.Common.{◌∙◌}
use Rattle.std.proofs.lemmas.Option.{slice_get-get_or}
use Rattle.shared_types.proofs.Laws.{begun_more}
use Rattle.shared_types.proofs.types.Types.from_list.Goals as goal

pub loop-i-preserved : goal.loop-i-preserved
loop-i-preserved c =
    rw c.loop-i.invariant at c.in_ok-fill.ensures
    ∙ begun_more c.loop-i.i _ c.args.list.now (slice_get-get_or c.args.list.now c.loop-i.i _ c.loop-i-test.true)
