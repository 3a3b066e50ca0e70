use Rattle.std.proofs.lemmas.Option.{slice_get-get_or}
use Rattle.shared_types.proofs.Laws.{replaced_next}
use Rattle.shared_types.proofs.block.replaced.Goals as goal

pub loop-i-preserved : goal.loop-i-preserved
loop-i-preserved c =
    rw c.in_ok-push.ensures.ok (replaced_next c.args.was c.args.now c.loop-i.i _ _ c.args.types.now c.loop-i.out (slice_get-get_or c.args.types.now c.loop-i.i _ c.loop-i-test.true) c.put_for.ensures c.loop-i.invariant)
