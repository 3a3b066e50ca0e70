use Rattle.std.proofs.Common.{arith, refl, length-append, ◌∷◌, []}
use Rattle.std.proofs.lemmas.Result.{err_from_is_err_and}
use Rattle.class_file.specs.Reading.Pools.{next_item_at, pool_at}
use Rattle.class_file.specs.Reading.Words.{adding}
use Rattle.class_file.proofs.EachLaws.{stays_front, adds, adds_no, is_done}
use Rattle.class_file.proofs.pool_reader.pool.Goals as goal

pub loop-init : goal.loop-init
unfolding pool_at
loop-init c = record { near = omega arith; gap = rw c.in_ok-pool.ensures refl; long = rw c.in_ok-pool.ensures refl; told = rw c.in_ok-pool.ensures refl }

pub returns-in_err-item-clause-exact : goal.returns-in_err-item-clause-exact
returns-in_err-item-clause-exact c =
    let p = err_from_is_err_and c.from_residual-in_err-item.result c.from_residual-in_err-item.ensures.1 in
    rw (p.1, p.2) (adds_no (next_item_at c.args.count) c.in_err-item.field-0.0 c.args.count c.loop.counter c.loop.pool c.loop.reader _ c.loop-test.true c.in_err-item.ensures c.loop.invariant.told)

pub loop-preserved : goal.loop-preserved
loop-preserved c = record {
  near = omega arith;
  gap = rw c.in_ok-push.ensures.ok (stays_front c.loop.pool (c.in_ok-item.item ∷ []) c.loop.invariant.gap);
  long = rw c.in_ok-push.ensures.ok (omega (arith, length-append c.loop.pool (c.in_ok-item.item ∷ []), c.loop.invariant.long));
  told = rw c.in_ok-push.ensures.ok (adds (next_item_at c.args.count) c.args.count c.loop.counter c.loop.pool c.loop.reader c.in_ok-item.item c.next_item.new.reader _ c.loop-test.true c.in_ok-item.ensures c.loop.invariant.told);
}

pub returns-clause-exact : goal.returns-clause-exact
returns-clause-exact c = is_done (adding (next_item_at c.args.count)) c.args.count c.loop.counter c.loop.pool c.loop.reader _ c.loop-test.false c.loop.invariant.told
