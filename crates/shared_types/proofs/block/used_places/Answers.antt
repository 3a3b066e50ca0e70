use Rattle.std.proofs.Common.{◌∙◌}
use Rattle.std.proofs.lemmas.Option.{slice_get-get_or}
use Rattle.shared_types.proofs.Laws.{used_next}
use Rattle.shared_types.proofs.block.used_places.Goals as goal

pub loop-at-preserved : goal.loop-at-preserved
loop-at-preserved c =
    rw c.loop-at.invariant at c.in_ok-add_used.ensures
    ∙ used_next c.loop-at.at _ c.args.types.now (slice_get-get_or c.args.types.now c.loop-at.at _ c.loop-at-test.true) c.loop-at-test.true
