use Rattle.std.proofs.Common.{◌≡◌, ◌-◌, ◌≤◌, max, length, slice_get, Some}
use Rattle.jvm_base.specs.declared.pool.PoolItem.TheVariants.{Gap}
use Rattle.class_file.specs.Reading.Words.{each_at, adding}
use Rattle.class_file.specs.Reading.Pools.{next_item_at, pool_at}
use Rattle.class_file.proofs.pool_reader.pool.Given as goal

abbrev pub invariant-loop : goal.invariant-loop
invariant-loop l = record {
  near : l.counter ≤ max 1 l.count;
  gap : slice_get l.pool 0 ≡ Some Gap;
  long : length l.pool ≡ l.counter;
  told : each_at (adding (next_item_at l.count)) (l.count - l.counter) l.pool l.reader ≡ pool_at l.count l.fn.reader;
}
