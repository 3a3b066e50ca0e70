use Rattle.std.proofs.Common.{arith, ◌-◌}
use Rattle.shared_types.specs.Trees.{types}
use Rattle.shared_types.proofs.Laws.{few_longs}
use Rattle.shared_types.proofs.tree.Tree.+longs.Goals as goal

pub overflow_add-result : goal.overflow_add-result
overflow_add-result t c =
    omega (arith, c.ranges.n.fits, c.if-n-count.false, c.longs-else-n-count.ensures, c.longs-else-n-count-2.ensures, few_longs c.in-Pair.count (types c.deref-else-n-count.result.now), few_longs (c.args.n - c.in-Pair.count) (types c.deref-else-n-count-2.result.now))
