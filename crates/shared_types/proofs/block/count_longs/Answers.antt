use Rattle.std.proofs.Common.{◌≡◌, sym, arith, take}
use Rattle.std.proofs.lemmas.Option.{slice_get-get_or}
use Rattle.shared_types.specs.Trees.{longs}
use Rattle.shared_types.proofs.Laws.{longs_next, few_longs}
use Rattle.shared_types.proofs.block.count_longs.Goals as goal

pub overflow_add-count : goal.overflow_add-count
overflow_add-count c =
    let e : c.loop-i.count ≡ longs (take c.loop-i.i c.args.types.now) = c.loop-i.invariant in
    omega (arith, c.well_formed.0.0, c.loop-i-test.true, e, few_longs c.loop-i.i c.args.types.now, c.more_slots-count.ensures.few)

pub loop-i-preserved : goal.loop-i-preserved
loop-i-preserved c =
    rw (c.loop-i.invariant, c.more_slots-count.ensures.slots) (sym (longs_next c.loop-i.i _ c.args.types.now (slice_get-get_or c.args.types.now c.loop-i.i _ c.loop-i-test.true)))
